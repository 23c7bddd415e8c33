use Rattle.making.proofs.Filling.{Filling}
use Rattle.making.proofs.fill.Given as goal

abbrev pub invariant-loop-i : goal.invariant-loop-i
invariant-loop-i l = Filling l.kept l.segment-items l.i l.book
