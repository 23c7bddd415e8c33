use Rattle.segments.proofs.Keeping.{Handing}
use Rattle.segments.proofs.hand_on.Given as goal

abbrev pub invariant-loop-i : goal.invariant-loop-i
invariant-loop-i l = Handing l.own l.segments.held l.segments.count l.initial.kept l.kept l.i
