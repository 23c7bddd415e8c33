-- Document 01, "The book": blocks of 512 bytes, and the numbers in them.
use Rattle.std.specs.Prelude.{ℕ, zero, suc, ◌+◌, ◌*◌, ◌/◌, ◌%◌, ◌<◌, List, [], ◌∷◌, ◌++◌, Bool, true, false, ◌&&◌, take, drop, get_or, eqb}
use Rattle.checks.specs.Seal.{block_length}

-- "49 blocks of 512 bytes (25,088)"
abbrev pub block_count : ℕ
block_count = 49

abbrev pub book_length : ℕ
book_length = 25088

-- ---- "Wider numbers are stored low byte first."
abbrev pub bytes32 : ℕ → List ℕ
bytes32 v = v % 256 ∷ v / 256 % 256 ∷ v / 65536 % 256 ∷ v / 16777216 % 256 ∷ []

abbrev pub number_at : List ℕ → ℕ → ℕ
number_at b at = get_or b at 0 + 256 * get_or b (at + 1) 0 + 65536 * get_or b (at + 2) 0 + 16777216 * get_or b (at + 3) 0

-- n numbers, four bytes each
unfoldable pub numbers_of : ℕ → List ℕ → List ℕ
numbers_of zero l = []
numbers_of (suc n) l = number_at l 0 ∷ numbers_of n (drop 4 l)

-- ---- the blocks of a book
unfoldable pub block_of : ℕ → List ℕ → List ℕ
block_of k book = take block_length (drop (k * block_length) book)

-- the book with another block k
unfoldable pub put_block : ℕ → List ℕ → List ℕ → List ℕ
put_block k b book = take (k * block_length) book ++ (b ++ drop block_length (drop (k * block_length) book))

-- ---- bytes are numbers below 256
unfoldable pub Bytes : List ℕ → Type 0
Bytes l = (i : ℕ) → get_or l i 0 < 256

-- items one after another
unfoldable pub flat : {X Y : Type 0} → (X → List Y) → List X → List Y
flat f [] = []
flat f (x ∷ xs) = f x ++ flat f xs

-- the same bytes?
unfoldable pub same_list : List ℕ → List ℕ → Bool
same_list [] [] = true
same_list [] (y ∷ ys) = false
same_list (x ∷ xs) [] = false
same_list (x ∷ xs) (y ∷ ys) = eqb x y && same_list xs ys
