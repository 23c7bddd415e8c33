use Rattle.layout.proofs.ForthBlocks.{lies_sealed}
use Rattle.std.proofs.Common.{rules}
use Rattle.moves.proofs.seal_index.Goals as goal

pub returns : goal.returns
returns c = search (lies_sealed, rules)
