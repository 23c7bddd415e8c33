use Rattle.replay.proofs.Sums.{Totals}
use Rattle.replay.proofs.total.Given as goal

abbrev pub invariant-loop-i : goal.invariant-loop-i
invariant-loop-i l = Totals l.bytes l.i l.sum
