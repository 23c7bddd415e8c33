-- How long a month is: the code's expression is the table. Assumes nothing.
use Prim.Native.Nat.{ℕ, ◌+◌, ◌-◌, ◌*◌, ◌/◌, ◌%◌}
use native.Mathlib.Omega.{arith}
use mathlib.Core.Path.{◌≡◌}
use mathlib.Core.Bool.{Bool, true, false, ◌||◌}
use lib.Dec.{eqb}
use mir.Val.{bool_byte}
use borrow.Author.Tests.{ne_eqb, eqb-true}
use Rattle.laws.proofs.Tests.{by}
use Rattle.months.specs.Months.{leap, month_length, next_month, after_january}
use Rattle.months.specs.Serving.{Twelve, length_in}
use Rattle.months.proofs.Laws.{passes, passes_at}

-- ---- the expression is the table: one test over all months, of a leap year and of another year
abbrev reckoned : ℕ → ℕ → ℕ
reckoned year month = 30 + (month + month / 8) % 2 - bool_byte (eqb month 2) * (2 - bool_byte (eqb (year % 4) 0))

abbrev agrees : ℕ → ℕ → Bool
agrees year month = eqb month 0 || eqb (reckoned year month) (length_in year month)

all_agree : (year : ℕ) → passes (agrees year) 13 ≡ true
unfolding month_length after_january next_month leap passes
all_agree year = by (eqb (year % 4) 0) (λ e. rw e) (λ e. rw e)

module _ (year month : ℕ) where
  pub length_is : Twelve month → reckoned year month ≡ length_in year month
  length_is m =
      let no : eqb month 0 ≡ false = ne_eqb month 0 (omega arith) in
      let here : agrees year month ≡ true = passes_at (agrees year) 13 month (all_agree year) (omega arith) in
      eqb-true (reckoned year month) (length_in year month) (rw no at here)
