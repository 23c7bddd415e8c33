-- Document 01, "Segments and place code blocks": the elements of a block, and what each says.
use Rattle.std.specs.Prelude.{ℕ, ◌+◌, List, [], ◌∷◌, ◌++◌, Bool, true, false, cond, ◌&&◌, length, drop, ltb, leb}
use Rattle.std.specs.Prelude.{Option, None, Some}
use Rattle.lines.specs.Bytes.{Kind, word, begins, exactly}
use Rattle.lines.specs.Lines.{pieces, Line, lines_from, prefix_form, three_digits}
use Rattle.calendar.specs.Calendar.{is_time}
use Rattle.calendar.specs.declared.Stamp.{Stamp}
use Rattle.codes.specs.Places.{prefix_of, two_of, three_of}

-- ---- "An element runs to the next `-` or its line's end"
-- its place, its bytes with the `-`, and whether it is the last of its line
pub record Element : Type 0 where
  pub at : ℕ
  pub bytes : List ℕ
  pub last : Bool

abbrev pub dash : ℕ
dash = 45

abbrev pub null : List (List ℕ) → Bool
null [] = true
null (p ∷ ps) = false

-- the elements of these pieces, the first of which has the place `at`
unfoldable pub elements_at : ℕ → List (List ℕ) → List Element
elements_at at [] = []
elements_at at (p ∷ ps) = record { at = at; bytes = p; last = null ps } ∷ elements_at (at + length p) ps

-- the elements of a line; "an empty one, as on a blank line"
abbrev pub elements_of_body : ℕ → List ℕ → List Element
elements_of_body at [] = record { at = at; bytes = []; last = true } ∷ []
elements_of_body at (b ∷ s) = elements_at at (pieces dash (b ∷ s))

-- "the block may go on over several lines"
unfoldable pub elements_of_lines : List Line → List Element
elements_of_lines [] = []
elements_of_lines (l ∷ ls) = elements_of_body l.start l.body ++ elements_of_lines ls

-- the elements of a text whose first byte has the place `at`
abbrev pub elements_from : ℕ → List ℕ → List Element
elements_from at text = elements_of_lines (lines_from at text)

-- ---- what an element says
pub data Said : Type 0 where
  -- under this prefix, the numbers from one to another
  covers : (prefix first last : ℕ) → Said
  purge : Stamp → Said
  wrong : Said

-- The forms with their `-`: "an element without its `-` is wrong".
abbrev pub single_form : List Kind
single_form = three_digits ++ word "-"

abbrev pub range_form : List Kind
range_form = three_digits ++ (word ">" ++ (three_digits ++ word "-"))

abbrev pub purge_form : List Kind
purge_form = three_digits ++ (three_digits ++ word "-")

-- "A range needs 001 <= nnn < mmm <= 999 and covers both ends."
abbrev pub is_range : ℕ → ℕ → Bool
is_range first last = leb 1 first && ltb first last

-- `nnn`, `nnn>mmm`, or `ALL`, which "may stand for a single number and means 000"; under the prefix p
unfoldable pub numbers : ℕ → List ℕ → Said
numbers p s =
    cond (exactly single_form s) (covers p (three_of s) (three_of s))
    (cond (exactly (word "ALL-") s) (covers p 0 0)
    (cond (exactly range_form s && is_range (three_of s) (three_of (drop 4 s))) (covers p (three_of s) (three_of (drop 4 s)))
    wrong))

-- "Purge: `DDHHMM`, ranges as in the heading."
abbrev pub stamp_of : List ℕ → Stamp
stamp_of s = record { day = two_of s; hour = two_of (drop 2 s); minute = two_of (drop 4 s) }

unfoldable pub time : Stamp → Said
time s = cond (is_time s) (purge s) wrong

-- "Short: `nnn` or `nnn>mmm`, under the last prefix of this block."
unfoldable pub short : Option ℕ → List ℕ → Said
short None s = wrong
short (Some p) s = numbers p s

-- "Full: `SSFnnn` or `SSFnnn>mmm`; SS two capitals, F is C or Z. It sets the prefix."
unfoldable pub said : Option ℕ → List ℕ → Said
said last s =
    cond (exactly purge_form s) (time (stamp_of s))
    (cond (begins prefix_form s) (numbers (prefix_of s) (drop 3 s))
    (short last s))
