use Prim.Native.Nat.{◌-◌}
use lib.ListN.{length}
use Rattle.repeats.proofs.Passing.{Passing}
use Rattle.repeats.proofs.twice_under.Given as goal

abbrev pub invariant-loop-prefix : goal.invariant-loop-prefix
invariant-loop-prefix l = Passing l.text l.at l.low l.cursor l.next l.marks

abbrev pub decreases-loop-prefix : goal.decreases-loop-prefix
decreases-loop-prefix l = length l.text - l.cursor.at
