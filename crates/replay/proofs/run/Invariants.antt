use Prim.Native.Nat.{◌-◌, ◌≤◌}
use mathlib.Core.Path.{◌≡◌}
use lib.ListN.{length}
use Rattle.replay.proofs.run.Given as goal

abbrev pub invariant-loop-progress : goal.invariant-loop-progress
invariant-loop-progress g l =
    (l.source.end ≤ l.progress.next) × (l.progress.next ≤ length l.input) × (l.progress.lent ≤ 30000) × (length l.buffer ≡ 30000)

abbrev pub decreases-loop-progress : goal.decreases-loop-progress
decreases-loop-progress g l = length l.input - l.progress.next
