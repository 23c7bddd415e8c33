use Rattle.months.proofs.Ways.{Passed}
use Rattle.months.proofs.month_start.Given as goal

abbrev pub invariant-loop-passed : goal.invariant-loop-passed
invariant-loop-passed l = Passed l.year l.month l.passed l.start
