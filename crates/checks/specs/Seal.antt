-- Document 01, "The book": the length of a block, its check, and zeros.
use Rattle.std.specs.Prelude.{ℕ, zero, suc, ◌+◌, ◌*◌, ◌/◌, ◌%◌, List, Bool, get_or, set, eqb}
use Rattle.std.specs.List.{list_all}

-- "49 blocks of 512 bytes (25,088)"
abbrev pub block_length : ℕ
block_length = 512

-- ---- the check
-- "the sum over i = 0..509 of (i+1)*byte i": over the i below n
unfoldable pub sum_to : ℕ → List ℕ → ℕ
sum_to zero b = 0
sum_to (suc i) b = sum_to i b + suc i * get_or b i 0

-- "(1 + the sum ..) modulo 65,521"
unfoldable pub check_of : List ℕ → ℕ
check_of b = (1 + sum_to 510 b) % 65521

-- "In each, bytes 510..511 hold, low byte first," the check
unfoldable pub sealed : List ℕ → List ℕ
sealed b = set (set b 510 (check_of b % 256)) 511 (check_of b / 256 % 256)

unfoldable pub checked : List ℕ → Bool
checked b = eqb (check_of b) (get_or b 510 0 + 256 * get_or b 511 0)

-- ---- "Unnamed and unused bytes are zero."
unfoldable pub all_zero : List ℕ → Bool
all_zero l = list_all (λ x. eqb x 0) l
