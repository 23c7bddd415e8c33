-- Document 01: a place's number, its prefix, and sets of places.
use Rattle.std.specs.Prelude.{ℕ, zero, suc, ◌+◌, ◌-◌, ◌*◌, ◌/◌, ◌%◌, ◌≤◌, ◌<◌, List, [], ◌∷◌, ◌++◌, Bool, true, cond, ◌&&◌, length, get_or, eqb, leb, ltb}

-- "A place's number is ((26*s1 + s2)*2 + f)*1000 + n, letters from A = 0, C = 0, Z = 1." The prefix SSF is its first part.
abbrev pub prefix_of : List ℕ → ℕ
prefix_of s = (26 * (get_or s 0 0 - 65) + (get_or s 1 0 - 65)) * 2 + cond (eqb (get_or s 2 0) 90) 1 0

abbrev pub place_of : ℕ → ℕ → ℕ
place_of prefix n = prefix * 1000 + n

-- the number that the first two bytes, the first three bytes spell
abbrev pub two_of : List ℕ → ℕ
two_of s = 10 * (get_or s 0 0 - 48) + (get_or s 1 0 - 48)

abbrev pub three_of : List ℕ → ℕ
three_of s = 100 * (get_or s 0 0 - 48) + 10 * (get_or s 1 0 - 48) + (get_or s 2 0 - 48)

-- the way back to bytes
abbrev pub two_bytes : ℕ → List ℕ
two_bytes n = (48 + n / 10) ∷ (48 + n % 10) ∷ []

abbrev pub three_bytes : ℕ → List ℕ
three_bytes n = (48 + n / 100) ∷ (48 + n / 10 % 10) ∷ (48 + n % 10) ∷ []

abbrev pub prefix_bytes : ℕ → List ℕ
prefix_bytes p = (65 + p / 52) ∷ (65 + p / 2 % 26) ∷ cond (eqb (p % 2) 0) 67 90 ∷ []

abbrev pub place_bytes : ℕ → List ℕ
place_bytes q = prefix_bytes (q / 1000) ++ three_bytes (q % 1000)

-- AAC000 has number 0, and ZZZ999 the last one.
abbrev pub prefixes : ℕ
prefixes = 1352

abbrev pub places_end : ℕ
places_end = 1352000

-- "At most 120 places to a segment."
abbrev pub capacity : ℕ
capacity = 120

-- strictly ascending places, from b up
pub data Ascending : ℕ → List ℕ → Type 0 where
  nil : {b : ℕ} → Ascending b []
  cons : {b p : ℕ} {ps : List ℕ} → b ≤ p → p < places_end → Ascending (suc p) ps → Ascending b (p ∷ ps)

-- the same as a test
unfoldable pub ascends : ℕ → List ℕ → Bool
ascends b [] = true
ascends b (p ∷ ps) = leb b p && ltb p places_end && ascends (suc p) ps

-- the places of a segment: at least one, and at most 120
unfoldable pub is_set : List ℕ → Bool
is_set ps = leb 1 (length ps) && leb (length ps) capacity && ascends 0 ps

-- n places from p up
unfoldable pub upward : ℕ → ℕ → List ℕ
upward p zero = []
upward p (suc n) = p ∷ upward (suc p) n
