use Rattle.moves.proofs.StepsForgot.{Moving}
use Rattle.moves.proofs.forget_oldest.Given as goal

abbrev pub invariant-loop-k : goal.invariant-loop-k
invariant-loop-k l = Moving l.initial.book l.book l.k
