-- What the code's searches and bounds keep: it serves the code, and is none of document 01.
use Rattle.std.specs.Prelude.{ℕ, ◌≤◌, ◌<◌, List, length, get_or}
use Rattle.codes.specs.Places.{prefixes}

-- i is the first index of the list whose place is not less than p, or the list's length
pub record First (p : ℕ) (l : List ℕ) (i : ℕ) : Type 0 where
  pub within : i ≤ length l
  pub low : (j : ℕ) → j < i → get_or l j 0 < p
  pub high : i < length l → p ≤ get_or l i 0

-- a prefix, and numbers from one to another under it
pub record Low (prefix first last : ℕ) : Type 0 where
  pub known : prefix < prefixes
  pub number : last ≤ 999
  pub order : first ≤ last
