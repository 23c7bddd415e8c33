-- One mark for each place of a window: that of place i is bit i % 64 of word i / 64. It serves the code.
use Rattle.std.specs.Prelude.{ℕ, ◌+◌, ◌-◌, ◌*◌, ◌/◌, ◌%◌, ◌^◌, ◌≤◌, ◌<◌, ◌≡◌, List, Bool, true, false, ◌&&◌, leb, ltb, length, get_or}

-- the prefixes of a window, and its words: a bit for each of 1000 places to a prefix
abbrev pub window : ℕ
window = 271

abbrev pub window_words : ℕ
window_words = 4235

-- the prefixes from one up to another
abbrev pub from_up_to : ℕ → ℕ → ℕ → Bool
from_up_to low end p = leb low p && ltb p end

-- a digit of a word in the system of two, from the lowest up
unfoldable pub bit_at : ℕ → ℕ → ℕ
bit_at word i = word / 2 ^ i % 2

-- 1 if place i is marked, 0 if it is not
unfoldable pub mark : List ℕ → ℕ → ℕ
mark words i = bit_at (get_or words (i / 64) 0) (i % 64)

-- of a word's bits, those from one to another are 1, and no others
pub record Mask (word from to : ℕ) : Type 0 where
  pub inside : (i : ℕ) → from ≤ i → i ≤ to → bit_at word i ≡ 1
  pub below : (i : ℕ) → i < from → bit_at word i ≡ 0
  pub above : (i : ℕ) → to < i → bit_at word i ≡ 0

-- a marked place, from one to another
pub record Taken (words : List ℕ) (from to : ℕ) : Type 0 where
  pub place : ℕ
  pub low : from ≤ place
  pub high : place ≤ to
  pub marked : mark words place ≡ 1

-- the places from one up to another, none of which was marked, are marked now, and the others are as they were
pub record Claimed (before : List ℕ) (from end : ℕ) (after : List ℕ) : Type 0 where
  pub long : length after ≡ length before
  pub free : (i : ℕ) → from ≤ i → i < end → mark before i ≡ 0
  pub inside : (i : ℕ) → from ≤ i → i < end → mark after i ≡ 1
  pub below : (i : ℕ) → i < from → mark after i ≡ mark before i
  pub above : (i : ℕ) → end ≤ i → mark after i ≡ mark before i

-- One of the places from one to another was marked, or none was and all are now. Of the marks after a hit nothing is said: the pass ends.
pub record Claims (before : List ℕ) (from to : ℕ) (after : List ℕ) (hit : Bool) : Type 0 where
  pub taken : hit ≡ true → Taken before from to
  pub claimed : hit ≡ false → Claimed before from (to + 1) after

-- The places of an element in the window are claimed. Any other element changes nothing.
pub record Noted (low p n m : ℕ) (before after : List ℕ) (hit : Bool) : Type 0 where
  pub inside : from_up_to low (low + window) p ≡ true → Claims before ((p - low) * 1000 + n) ((p - low) * 1000 + m) after hit
  pub missed : from_up_to low (low + window) p ≡ false → hit ≡ false
  pub kept : from_up_to low (low + window) p ≡ false → after ≡ before
