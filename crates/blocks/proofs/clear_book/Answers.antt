use Rattle.blocks.proofs.Emptied.{emptied_none, emptied_more}
use Rattle.std.proofs.Common.{rules}
use Rattle.blocks.proofs.clear_book.Goals as goal

pub loop-k-init : goal.loop-k-init
loop-k-init c = search (emptied_none, rules)

pub loop-k-preserved : goal.loop-k-preserved
loop-k-preserved c = search (emptied_more, rules)
