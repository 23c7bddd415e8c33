use Rattle.months.proofs.Ways.{Turns}
use Rattle.months.proofs.month_of.Given as goal

abbrev pub invariant-loop-month : goal.invariant-loop-month
invariant-loop-month l = Turns l.minute l.n l.month l.start
