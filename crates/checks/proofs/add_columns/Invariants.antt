use Rattle.checks.specs.Columns.{ColumnsIn}
use Rattle.checks.proofs.add_columns.Given as goal

abbrev pub invariant-loop-j : goal.invariant-loop-j
invariant-loop-j l = ColumnsIn l.b l.j l.sums l.rows
