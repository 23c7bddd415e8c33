use lib.ListN.{take}
use Rattle.forms.proofs.Putting.{Putting}
use Rattle.forms.proofs.put_edited.Given as goal

abbrev pub invariant-loop-i : goal.invariant-loop-i
invariant-loop-i l = Putting l.text l.segment-items l.forms l.fn.sizes.each (take l.fn.segments.count l.fn.sizes.each) l.initial.out l.i l.pos l.at l.form l.out
