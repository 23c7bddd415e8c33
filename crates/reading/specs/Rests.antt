-- Serves the code: what the functions of this crate say to each other of the rest of a block, of which no place is kept. Nothing outside the crate builds on it.
use Rattle.std.specs.Prelude.{ℕ, ◌<◌, ◌≡◌, List, [], true, length, drop}
use Rattle.std.specs.Prelude.{Option, None, Some, Result, Ok, Err}
use Rattle.calendar.specs.declared.Stamp.{Stamp}
use Rattle.codes.specs.Places.{prefixes}
use Rattle.codes.specs.Elements.{elements_from}
use Rattle.codes.specs.Block.{Read, block, wrong_at, read_from}
use Rattle.codes.specs.declared.Cursor.{Cursor}
use Rattle.refusal.specs.Answer.{refusal_for}
use Rattle.refusal.specs.declared.Reason.TheVariants.{WrongBlock, PlaceTwice}
use Rattle.refusal.specs.declared.Refusal.{Refusal}
use Rattle.reading.specs.Held.{block_with}
use Rattle.reading.specs.declared.Block.{Block}

-- the last prefix, if there is one, is a prefix
pub record Known (c : Cursor) : Type 0 where
  pub low : (p : ℕ) → c.last ≡ Some p → p < prefixes

-- read from the reading place on
abbrev pub read_on : List ℕ → Cursor → Read
read_on s c = read_from (length s) c.last [] (elements_from c.at (drop c.at s))

-- where it ends
abbrev pub rest_of : Read → Result (Stamp × ℕ) Refusal
rest_of (block ps s at) = Ok (s, at)
rest_of (wrong_at place) = Err (refusal_for WrongBlock place)

-- a block of which no place is kept: where it ends, and the element that covers a place already covered; if there is none, the places are more than 120
abbrev pub many_for : Option ℕ → Stamp → ℕ → Result Block Refusal
many_for None s at = Ok (block_with s at true [])
many_for (Some again) s at = Err (refusal_for PlaceTwice again)

abbrev pub over_for : Option ℕ → Result (Stamp × ℕ) Refusal → Result Block Refusal
over_for twice (Ok end) = many_for twice end.0 end.1
over_for twice (Err r) = Err r
