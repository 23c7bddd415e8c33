-- Document 01, "Segments and place code blocks": the whole block, read element after element.
use Rattle.std.specs.Prelude.{ℕ, zero, suc, ◌+◌, ◌-◌, ◌≤◌, ◌≡◌, List, [], ◌∷◌, Bool, true, false, cond, ◌&&◌, ◌||◌, length, drop, ltb, leb, eqb}
use Rattle.std.specs.Prelude.{Option, None, Some}
use Rattle.refusal.specs.declared.Reason.TheVariants.{WrongTime, WrongBlock, TooManyPlaces, PlaceTwice}
use Rattle.refusal.specs.Answer.{Answer, ok, refused}
use Rattle.calendar.specs.Purge.{purge_of}
use Rattle.calendar.specs.declared.Stamp.{Stamp}
use Rattle.codes.specs.Places.{place_of, capacity}
use Rattle.codes.specs.Elements.{Element, elements_from, covers, purge, wrong, said}

-- ---- the places so far, strictly ascending
unfoldable pub insert : ℕ → List ℕ → List ℕ
insert p [] = p ∷ []
insert p (q ∷ qs) = elim (ltb p q) [ true ↦ p ∷ (q ∷ qs) | false ↦ elim (eqb p q) [ true ↦ q ∷ qs | false ↦ q ∷ insert p qs ] ]

-- n places from p up
unfoldable pub insert_run : ℕ → ℕ → List ℕ → List ℕ
insert_run zero p l = l
insert_run (suc n) p l = insert_run n (suc p) (insert p l)

-- the places that an element covers, from its first number to its last
abbrev pub insert_covered : ℕ → ℕ → ℕ → List ℕ → List ℕ
insert_covered p first last got = insert_run (suc last - first) (place_of p first) got

-- ---- the block
pub data Read : Type 0 where
  -- the places, DDHHMM, and the place of the purge element
  block : List ℕ → Stamp → ℕ → Read
  -- "start of first wrong element"
  wrong_at : ℕ → Read

-- "It ends the block and its line": "bytes after the purge's `-` are a wrong element at the first of them"
abbrev pub ended : Bool → Read → ℕ → Read
ended true r next = r
ended false r next = wrong_at next

-- Element after element, under the last prefix and with the places so far. "A text that stops before the purge is wrong at text length": `stop`.
unfoldable pub read_from : ℕ → Option ℕ → List ℕ → List Element → Read
read_from stop last got [] = wrong_at stop
read_from stop last got (e ∷ es) =
    elim (said last e.bytes) [
      | covers p n m ↦ read_from stop (Some p) (insert_covered p n m got) es
      | purge s ↦ ended e.last (block got s e.at) (e.at + length e.bytes)
      | wrong ↦ wrong_at e.at
    ]

-- the block that starts a text whose first byte has the place `at`
abbrev pub read_at : ℕ → ℕ → List ℕ → Read
read_at stop at text = read_from stop None [] (elements_from at text)

-- the block that starts at a place of the text
unfoldable pub read_block : List ℕ → ℕ → Read
read_block text at = read_at (length text) at (drop at text)

-- ---- "A block in which two elements cover one place is refused, at the first element that covers a place already covered." (document 02, R-3)
-- the places that an element covers, from its first number to its last
pub record Stretch : Type 0 where
  pub from : ℕ
  pub to : ℕ

abbrev pub stretch_of : ℕ → ℕ → ℕ → Stretch
stretch_of p first last = record { from = place_of p first; to = place_of p last }

-- two elements cover one place
abbrev pub share : Stretch → Stretch → Bool
share a b = leb a.from b.to && leb b.from a.to

-- an element covers a place that one of these covers
unfoldable pub covered_before : Stretch → List Stretch → Bool
covered_before a [] = false
covered_before a (b ∷ bs) = share a b || covered_before a bs

-- The start of the first element that covers a place that an element before it covers. The purge or a wrong element ends the block.
unfoldable pub twice_from : Option ℕ → List Stretch → List Element → Option ℕ
twice_from last before [] = None
twice_from last before (e ∷ es) =
    elim (said last e.bytes) [
      | covers p n m ↦ cond (covered_before (stretch_of p n m) before) (Some e.at) (twice_from (Some p) (stretch_of p n m ∷ before) es)
      | purge s ↦ None
      | wrong ↦ None
    ]

-- in the block that starts at a place of the text
unfoldable pub twice_at : List ℕ → ℕ → Option ℕ
twice_at text at = twice_from None [] (elements_from at (drop at text))

-- ---- "A place is addressed exactly if some element covers it"
pub data Covered (q : ℕ) : Option ℕ → List Element → Type 0 where
  here : {last : Option ℕ} {e : Element} {es : List Element} (p n m : ℕ) → said last e.bytes ≡ covers p n m
      → place_of p n ≤ q → q ≤ place_of p m → Covered q last (e ∷ es)
  later : {last : Option ℕ} {e : Element} {es : List Element} (p n m : ℕ) → said last e.bytes ≡ covers p n m
      → Covered q (Some p) es → Covered q last (e ∷ es)

-- ---- a segment's content: its places and its purge minute
pub record Content : Type 0 where
  pub purge : ℕ
  pub places : List ℕ

-- In each segment 6 comes first, then 25 at the element that repeats a place, then 5 at the purge element, then 11 at the segment's start.
abbrev pub counted : ℕ → Content → Answer Content
counted start c = cond (leb (length c.places) capacity) (ok c) (refused TooManyPlaces start)

abbrev pub dated : ℕ → ℕ → List ℕ → Option ℕ → Answer Content
dated start at ps None = refused WrongTime at
dated start at ps (Some t) = counted start (record { purge = t; places = ps })

abbrev pub once : Option ℕ → Answer Content → Answer Content
once None a = a
once (Some place) a = refused PlaceTwice place

abbrev pub content_in : ℕ → ℕ → Option ℕ → Read → Answer Content
content_in issue start twice (wrong_at place) = refused WrongBlock place
content_in issue start twice (block ps s at) = once twice (dated start at ps (purge_of issue s))

-- the content of the segment that starts at a place of the text, under an issue
unfoldable pub content_at : List ℕ → ℕ → ℕ → Answer Content
content_at text issue start = content_in issue start (twice_at text start) (read_block text start)
