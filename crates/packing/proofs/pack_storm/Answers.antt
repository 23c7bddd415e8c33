use Rattle.packing.proofs.Ways.{storm_none, storm_found}
use Rattle.std.proofs.Common.{rules}
use Rattle.packing.proofs.pack_storm.Goals as goal

pub returns-in-None : goal.returns-in-None
returns-in-None c = search (storm_none, rules)

pub returns-in-Found : goal.returns-in-Found
returns-in-Found c = search (storm_found, rules)
