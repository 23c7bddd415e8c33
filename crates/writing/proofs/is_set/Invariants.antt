use Rattle.codes.proofs.Climbs.{Climbs}
use Rattle.writing.proofs.is_set.Given as goal

abbrev pub invariant-loop-i : goal.invariant-loop-i
invariant-loop-i l = Climbs l.places l.i l.good
