-- What the passes over a block say to each other: the first element under some prefixes that covers a place already covered. It serves the code;
-- document 02 asks for all prefixes.
use Rattle.std.specs.Prelude.{ℕ, zero, suc, ◌+◌, List, [], ◌∷◌, Bool, true, cond, ◌&&◌, length, leb, ltb}
use Rattle.std.specs.Prelude.{Option, None, Some}
use Rattle.codes.specs.Places.{places_end}
use Rattle.codes.specs.Block.{Stretch, stretch_of, covered_before}
use Rattle.codes.specs.Cursor.{step_at}
use Rattle.codes.specs.declared.Cursor.{Cursor}
use Rattle.codes.specs.declared.Step.TheVariants.{Covers, Purge, Wrong}

-- the place of an element, if there is one

-- the one that comes first in the text
abbrev pub earlier : Option ℕ → Option ℕ → Option ℕ
earlier None b = b
earlier (Some x) None = Some x
earlier (Some x) (Some y) = cond (leb x y) (Some x) (Some y)

-- the nearest prefix from `end` on: that of those so far, or this one
abbrev pub nearest : ℕ → ℕ → ℕ → ℕ
nearest next end p = cond (leb end p && ltb p next) p next

-- ---- the elements of a block that cover places
pub record Covering : Type 0 where
  pub at : ℕ
  pub prefix : ℕ
  pub first : ℕ
  pub last : ℕ

abbrev pub stretch : Covering → Stretch
stretch x = stretch_of x.prefix x.first x.last

-- the reading place behind an element under the prefix p
abbrev pub cursor_behind : ℕ → Cursor → Cursor
cursor_behind p next = record { at = next.at; last = Some p }

-- from a reading place on, so many at most
unfoldable pub coverings_from : ℕ → List ℕ → Cursor → List Covering
coverings_from zero text c = []
coverings_from (suc k) text c =
    elim (step_at text c) [
      | Covers p n m next ↦ record { at = c.at; prefix = p; first = n; last = m } ∷ coverings_from k text (cursor_behind p next)
      | Purge t place ↦ []
      | Wrong place ↦ []
    ]

-- of the block that starts at a place of the text: it has no more elements than bytes
abbrev pub coverings : List ℕ → ℕ → List Covering
coverings text at = coverings_from (length text) text (record { at = at; last = None })

-- ---- a block whose elements run one way: up the places, or down
pub data Way : Type 0 where
  up : Way
  down : Way

-- an element lies beyond an edge: it starts from there on, or ends before it
abbrev pub beyond : Way → ℕ → Stretch → Bool
beyond up edge a = leb edge a.from
beyond down edge a = ltb a.to edge

-- the edge that an element leaves: behind its end, or its start
abbrev pub edge_of : Way → Stretch → ℕ
edge_of up a = a.to + 1
edge_of down a = a.from

-- every element lies beyond the edge that the one before it leaves, and the first beyond this one
unfoldable pub onward : Way → ℕ → List Covering → Bool
onward way edge [] = true
onward way edge (x ∷ xs) = beyond way edge (stretch x) && onward way (edge_of way (stretch x)) xs

-- every element starts behind the end of all before it
abbrev pub rising : List Covering → Bool
rising xs = onward up 0 xs

-- every element ends before the start of all before it
abbrev pub falling : List Covering → Bool
falling xs = onward down places_end xs

-- ---- what repeats a place
-- the first element under one of these prefixes that covers a place already covered
unfoldable pub first_twice : (ℕ → Bool) → List Stretch → List Covering → Option ℕ
first_twice these before [] = None
first_twice these before (x ∷ xs) =
    cond (these x.prefix && covered_before (stretch x) before) (Some x.at) (first_twice these (stretch x ∷ before) xs)
