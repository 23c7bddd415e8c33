use Rattle.replay.proofs.Ends.{Passes}
use Rattle.replay.proofs.line_end.Given as goal

abbrev pub invariant-loop-i : goal.invariant-loop-i
invariant-loop-i l = Passes l.input l.at l.i
