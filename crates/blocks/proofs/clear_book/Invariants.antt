use Rattle.blocks.proofs.Emptied.{Emptied}
use Rattle.blocks.proofs.clear_book.Given as goal

abbrev pub invariant-loop-k : goal.invariant-loop-k
invariant-loop-k l = Emptied l.book l.k
