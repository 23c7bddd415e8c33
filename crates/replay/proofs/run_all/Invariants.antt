use Prim.Native.Nat.{◌-◌, ◌≤◌}
use lib.ListN.{length}
use Rattle.replay.proofs.run_all.Given as goal

abbrev pub invariant-loop-source : goal.invariant-loop-source
invariant-loop-source g l = l.at ≤ length l.input

abbrev pub decreases-loop-source : goal.decreases-loop-source
decreases-loop-source g l = length l.input - l.at
