use Rattle.packing.proofs.Ways.{cell_is}
use Rattle.std.proofs.Common.{rules}
use Rattle.packing.proofs.cell.Goals as goal

pub returns : goal.returns
returns c = search (cell_is, rules)
