use Prim.Native.Nat.{◌-◌}
use Rattle.segments.proofs.Stepping.{Listing}
use Rattle.segments.proofs.read_segments.Given as goal

abbrev pub invariant-loop-segment : goal.invariant-loop-segment
invariant-loop-segment l = Listing l.text l.issue l.from l.initial.kept l.kept l.held l.count l.at

abbrev pub decreases-loop-segment : goal.decreases-loop-segment
decreases-loop-segment l = 8 - l.count
