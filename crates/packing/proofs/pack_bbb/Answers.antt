use Rattle.packing.proofs.Ways.{bbb_none, bbb_code}
use Rattle.std.proofs.Common.{rules}
use Rattle.packing.proofs.pack_bbb.Goals as goal

pub returns-in-None : goal.returns-in-None
returns-in-None c = search (bbb_none, rules)

pub returns-in-Some : goal.returns-in-Some
returns-in-Some c = search (bbb_code, rules)
