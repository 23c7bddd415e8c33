-- What the code's types mean, with the reading place, which moves forward one element at a time: it serves the code.
use Rattle.std.specs.Prelude.{ℕ, ◌+◌, ◌≡◌, List, [], ◌∷◌, Bool, true, false, cond, ◌||◌, length, drop, leb}
use Rattle.std.specs.Prelude.{Option, None, Some}
use Rattle.lines.specs.Bytes.{exactly}
use Rattle.lines.specs.Lines.{end_bytes}
use Rattle.lines.specs.Spans.{end_at}
use Rattle.lines.specs.Lines.{ends_line}
use Rattle.calendar.specs.declared.Stamp.{Stamp}
use Rattle.codes.specs.Elements.{Element, elements_from, purge_form, stamp_of, time, said}
use Rattle.codes.specs.Elements as elements
use Rattle.codes.specs.declared.Covered.{Covered}
use Rattle.codes.specs.declared.Cursor.{Cursor}
use Rattle.codes.specs.declared.Step.{Step}

-- "under the last prefix of this block", if there is one yet

-- ---- "the reading place moves forward one element at a time"
-- the place of the next element, or the text's length
abbrev pub next_place : ℕ → List Element → ℕ
next_place stop [] = stop
next_place stop (e ∷ es) = e.at

-- the purge "ends the block and its line"
abbrev pub purged : Bool → Stamp → ℕ → ℕ → Step
purged true s at after = Step.Purge s at
purged false s at after = Step.Wrong after

-- what an element says, with the reading place moved past it
abbrev pub step_over : Element → ℕ → elements.Said → Step
step_over e next (elements.covers p n m) = Step.Covers p n m (record { at = next; last = Some p })
step_over e next (elements.purge s) = purged e.last s e.at (e.at + length e.bytes)
step_over e next elements.wrong = Step.Wrong e.at

abbrev pub step_from : ℕ → Option ℕ → List Element → Step
step_from stop last [] = Step.Wrong stop
step_from stop last (e ∷ es) = step_over e (next_place stop es) (said last e.bytes)

-- ---- behind an element that runs up to a place
-- "A line of the block ends after a `-`": the next element stands behind the line's end, if one stands there
abbrev pub past_end : List ℕ → ℕ → ℕ
past_end text after = after + length (end_bytes (end_at (drop after text)))

-- the line, or the text, ends there
abbrev pub last_of_line : List ℕ → ℕ → Bool
last_of_line text after = ends_line (end_at (drop after text)) || leb (length text) after

unfoldable pub step_at : List ℕ → Cursor → Step
step_at text c = step_from (length text) c.last (elements_from c.at (drop c.at text))

-- ---- the element that starts at a place
abbrev pub first_bytes : List Element → List ℕ
first_bytes [] = []
first_bytes (e ∷ es) = e.bytes

unfoldable pub element_at : List ℕ → ℕ → List ℕ
element_at text at = first_bytes (elements_from at (drop at text))

-- what an element covers that says this and runs up to `after`
abbrev pub covered_for : ℕ → elements.Said → Option Covered
covered_for after (elements.covers p n m) = Some (record { prefix = p; first = n; last = m; after = after })
covered_for after (elements.purge s) = None
covered_for after elements.wrong = None

unfoldable pub covered_at : List ℕ → ℕ → elements.Said → Option Covered
covered_at text at x = covered_for (at + length (element_at text at)) x

-- what was told of the element at a place under the prefix p: if it covers numbers, then these
pub record Usual (text : List ℕ) (at p : ℕ) (r : Option Covered) : Type 0 where
  pub is : (c : Covered) → r ≡ Some c → r ≡ covered_at text at (said (Some p) (element_at text at))

-- what an element says that covers nothing: it is the purge, or wrong
unfoldable pub said_of_purge : List ℕ → elements.Said
said_of_purge s = cond (exactly purge_form s) (time (stamp_of s)) elements.wrong

abbrev pub whole_at : List ℕ → ℕ → Element
whole_at text at = record { at = at; bytes = element_at text at; last = last_of_line text (at + length (element_at text at)) }

-- the step over such an element, which leads to no next one
unfoldable pub purge_at : List ℕ → ℕ → Step
purge_at text at = step_over (whole_at text at) at (said_of_purge (element_at text at))
