use Rattle.repeats.proofs.Marking.{Claiming}
use Rattle.repeats.proofs.claim.Given as goal

abbrev pub invariant-loop-k : goal.invariant-loop-k
invariant-loop-k l = Claiming l.initial.marks l.from l.to l.marks l.k l.mask
