use Rattle.forms.proofs.Forming.{Forming}
use Rattle.forms.proofs.write_forms.Given as goal

abbrev pub invariant-loop-i : goal.invariant-loop-i
invariant-loop-i l = Forming l.segment-items l.book l.initial.forms l.each l.total l.i l.forms
