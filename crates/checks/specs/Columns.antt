-- Serves the code: a block as eight rows of 64 bytes, and its weighted sum by columns.
use Rattle.std.specs.Prelude.{ℕ, zero, suc, ◌+◌, ◌*◌, ◌<◌, ◌≡◌, List, get_or}

-- the byte in a row and a column
abbrev pub row_byte : List ℕ → ℕ → ℕ → ℕ
row_byte b row j = get_or b (64 * row + j) 0

-- the sum of the bytes of column j
unfoldable pub column_sum : List ℕ → ℕ → ℕ
column_sum b j = row_byte b 0 j + row_byte b 1 j + row_byte b 2 j + row_byte b 3 j + row_byte b 4 j + row_byte b 5 j + row_byte b 6 j + row_byte b 7 j

-- the sum of each byte of column j times the number of its row
unfoldable pub column_rows : List ℕ → ℕ → ℕ
column_rows b j = row_byte b 1 j + 2 * row_byte b 2 j + 3 * row_byte b 3 j + 4 * row_byte b 4 j + 5 * row_byte b 5 j + 6 * row_byte b 6 j + 7 * row_byte b 7 j

-- two lists hold these sums of the first k columns
pub record ColumnsIn (b : List ℕ) (k : ℕ) (sums rows : List ℕ) : Type 0 where
  pub sum : (j : ℕ) → j < k → get_or sums j 0 ≡ column_sum b j
  pub row : (j : ℕ) → j < k → get_or rows j 0 ≡ column_rows b j

-- the weighted sum of k columns: the byte in row c and column j counts 64 * c + j + 1 times
unfoldable pub weighed : ℕ → List ℕ → List ℕ → ℕ
weighed zero sums rows = 0
weighed (suc j) sums rows = weighed j sums rows + (suc j * get_or sums j 0 + 64 * get_or rows j 0)
