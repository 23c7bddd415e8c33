use Rattle.forms.proofs.Keeping.{Counting}
use Rattle.forms.proofs.kept_length.Given as goal

abbrev pub invariant-loop-segment : goal.invariant-loop-segment
invariant-loop-segment l = Counting l.text l.segment-items l.segment-index l.at l.kept
