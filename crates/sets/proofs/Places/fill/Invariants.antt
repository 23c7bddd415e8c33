use Rattle.sets.proofs.Sets.{Filling}
use Rattle.sets.proofs.Places.fill.Given as goal

abbrev pub invariant-loop-k : goal.invariant-loop-k
invariant-loop-k l = Filling l.initial.self l.self l.at l.n l.p l.k
