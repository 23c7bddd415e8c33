use Prim.Native.Nat.{◌*◌, ◌≤◌}
use mathlib.Core.Path.{◌≡◌}
use Rattle.checks.specs.Columns.{weighed}
use Rattle.checks.proofs.weigh_columns.Given as goal

abbrev pub invariant-loop-j : goal.invariant-loop-j
invariant-loop-j l = (l.sum ≡ weighed l.j l.sums l.rows) × (l.sum ≤ 8388480 * l.j)
