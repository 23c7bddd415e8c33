-- The check's sum by columns: a block is eight rows of 64 bytes. Assumes nothing.
use Prim.Native.Nat.{ℕ, zero, suc, ◌+◌, ◌*◌, ◌-◌, ◌%◌, ◌≤◌}
use native.Mathlib.Numerals.{add-one}
use native.Mathlib.Omega.{arith}
use mathlib.Core.Path.{◌≡◌, refl, sym, ap, ◌∙◌}
use mathlib.Core.List.{List}
use lib.ListN.{get_or}
use Rattle.checks.specs.Seal.{sum_to, check_of}
use Rattle.checks.specs.Columns.{row_byte, column_sum, column_rows, weighed, ColumnsIn}

-- ---- the sum, row by row and column by column
-- what the first k bytes of a row add to the sum
row_to : ℕ → ℕ → List ℕ → ℕ
row_to row zero b = 0
row_to row (suc k) b = row_to row k b + suc (64 * row + k) * row_byte b row k

-- the sum goes on by a part of a row
row_sum : (row k : ℕ) (b : List ℕ) → sum_to (64 * row + k) b ≡ sum_to (64 * row) b + row_to row k b
unfolding sum_to row_to
row_sum row zero b = let e : 64 * row + 0 ≡ 64 * row = omega arith in rw e (omega arith)
row_sum row (suc k) b =
    let e : 64 * row + suc k ≡ suc (64 * row + k) = omega arith in
    let v : sum_to (64 * row + k) b ≡ sum_to (64 * row) b + row_to row k b = row_sum row k b in
    rw e (omega arith)

-- what the first k columns add to it
columns_to : ℕ → List ℕ → ℕ
columns_to k b = row_to 0 k b + row_to 1 k b + row_to 2 k b + row_to 3 k b + row_to 4 k b + row_to 5 k b + row_to 6 k b + row_to 7 k b

sum_none : (b : List ℕ) → sum_to 0 b ≡ 0
unfolding sum_to
sum_none b = refl

-- all columns are all bytes
columns_whole : (b : List ℕ) → columns_to 64 b ≡ sum_to 512 b
unfolding columns_to
columns_whole b =
    omega (arith, sum_none b, row_sum 0 64 b, row_sum 1 64 b, row_sum 2 64 b, row_sum 3 64 b, row_sum 4 64 b, row_sum 5 64 b, row_sum 6 64 b, row_sum 7 64 b)

-- one column more
columns_more : (k : ℕ) (b : List ℕ) → columns_to (suc k) b ≡ columns_to k b + (suc k * column_sum b k + 64 * column_rows b k)
unfolding columns_to row_to column_sum column_rows
columns_more k b = omega arith

-- what the code computes of them
columns_weighed : (k : ℕ) (b sums rows : List ℕ) → ColumnsIn b k sums rows → weighed k sums rows ≡ columns_to k b
unfolding weighed columns_to row_to
columns_weighed zero b sums rows v = refl
columns_weighed (suc k) b sums rows v =
    let before : weighed k sums rows ≡ columns_to k b =
    columns_weighed k b sums rows (record { sum = λ j h. v.sum j (omega arith); row = λ j h. v.row j (omega arith) }) in
    rw (v.sum k (omega arith), v.row k (omega arith), before) (sym (columns_more k b))

columns_sum : (b sums rows : List ℕ) → ColumnsIn b 64 sums rows → weighed 64 sums rows ≡ sum_to 512 b
columns_sum b sums rows v = columns_weighed 64 b sums rows v ∙ columns_whole b

-- ---- the check: the sum of all bytes, without the last two
pub sum_more : (i : ℕ) (b : List ℕ) → sum_to (i + 1) b ≡ sum_to i b + (i + 1) * get_or b i 0
unfolding sum_to
sum_more i b = rw add-one

module _ (b sums rows : List ℕ) (sum low high : ℕ) (v : ColumnsIn b 64 sums rows) (e : sum ≡ weighed 64 sums rows)
    (l : low ≡ get_or b 510 0) (h : high ≡ get_or b 511 0) where
  check_whole : sum ≡ sum_to 510 b + 511 * low + 512 * high
  check_whole =
      let p : sum_to 511 b ≡ sum_to 510 b + 511 * low = rw l (sum_more 510 b) in
      let q : sum_to 512 b ≡ sum_to 511 b + 512 * high = rw h (sum_more 511 b) in
      let w : sum ≡ sum_to 512 b = e ∙ columns_sum b sums rows v in
      omega arith

  pub low_in : 511 * low ≤ 1 + sum
  low_in = omega (arith, check_whole)

  pub high_in : 512 * high ≤ 1 + sum - 511 * low
  high_in = omega (arith, check_whole)

  pub check_columns : (1 + sum - 511 * low - 512 * high) % 65521 ≡ check_of b
  unfolding check_of
  check_columns =
      let w : sum ≡ sum_to 510 b + 511 * low + 512 * high = check_whole in
      let s : 1 + sum - 511 * low - 512 * high ≡ 1 + sum_to 510 b = omega arith in
      ap (λ (t : ℕ). t % 65521) s
