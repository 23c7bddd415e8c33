use Prim.Native.Nat.{◌-◌}
use lib.ListN.{length}
use Rattle.repeats.proofs.Rising.{Outlined}
use Rattle.repeats.proofs.survey.Given as goal

abbrev pub invariant-loop-prefix : goal.invariant-loop-prefix
invariant-loop-prefix l = Outlined l.text l.at l.cursor l.seen.rises l.seen.falls l.high l.low l.seen.lowest

abbrev pub decreases-loop-prefix : goal.decreases-loop-prefix
decreases-loop-prefix l = length l.text - l.cursor.at
