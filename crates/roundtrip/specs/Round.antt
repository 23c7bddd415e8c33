-- Document 01: what reading and writing a block are to each other, and what the elements of a written block spell. A reader must believe these notions to believe roundtrip's laws.
use Rattle.std.specs.Prelude.{ℕ, ◌/◌, ◌≤◌, ◌≡◌, true, cond, length, drop}
use mathlib.Core.List.{List, [], ◌∷◌, ◌++◌, Memᴰ}
use Rattle.std.specs.Prelude.{Option, None, Some}
use Rattle.refusal.specs.Answer.{ok}
use Rattle.lines.specs.Bytes.{begins}
use Rattle.lines.specs.Lines.{prefix_form, opens, Line, lines_from}
use Rattle.lines.specs.declared.End.{End}
use Rattle.codes.specs.Places.{prefix_of, place_of, Ascending}
use Rattle.codes.specs.Elements.{Element, elements_from, said, covers}
use Rattle.codes.specs.Block.{Covered, Content, content_at}
use Rattle.writing.specs.Write.{written_block}

-- ---- the round trip
-- The writer's rule gives a block of the content c, its lines ending so, and wherever that stands and whatever follows it, it reads back to just c under the issue.
pub record ReadsBack (end : End) (issue : ℕ) (c : Content) : Type 0 where
  pub block : List ℕ
  pub given : written_block end c.places c.purge ≡ ok block
  pub back : (front rest : List ℕ) → content_at (front ++ (block ++ rest)) issue (length front) ≡ ok c

-- ---- "A place is addressed exactly if some element covers it"
-- The places are strictly ascending, AAC000, whose number is 0, among the first; each is covered by an element before the purge, and each place that such an element covers is among them.
pub record Addressed (ps : List ℕ) (at : ℕ) (text : List ℕ) : Type 0 where
  pub ascending : Ascending 0 ps
  pub only : (q : ℕ) → Memᴰ q ps → Covered q None (elements_from at text)
  pub every : (q : ℕ) → Covered q None (elements_from at text) → Memᴰ q ps

-- ---- "A block in which two elements cover one place is refused, at the first element that covers a place already covered" (document 02, R-3)
-- the element at the place y covers q
pub data CoveredAt (q y : ℕ) : Option ℕ → List Element → Type 0 where
  this : {last : Option ℕ} {e : Element} {es : List Element} (p n m : ℕ) → said last e.bytes ≡ covers p n m
      → place_of p n ≤ q → q ≤ place_of p m → e.at ≡ y → CoveredAt q y last (e ∷ es)
  further : {last : Option ℕ} {e : Element} {es : List Element} (p n m : ℕ) → said last e.bytes ≡ covers p n m
      → CoveredAt q y (Some p) es → CoveredAt q y last (e ∷ es)

-- an element covers q, and so does a later one, at the place y
pub data CoveredTwice (q y : ℕ) : Option ℕ → List Element → Type 0 where
  both : {last : Option ℕ} {e : Element} {es : List Element} (p n m : ℕ) → said last e.bytes ≡ covers p n m
      → place_of p n ≤ q → q ≤ place_of p m → CoveredAt q y (Some p) es → CoveredTwice q y last (e ∷ es)
  both_further : {last : Option ℕ} {e : Element} {es : List Element} (p n m : ℕ) → said last e.bytes ≡ covers p n m
      → CoveredTwice q y (Some p) es → CoveredTwice q y last (e ∷ es)

-- ---- "A line opens a block": the text's line from this place on does
pub record Opens (text : List ℕ) (at : ℕ) : Type 0 where
  pub line : Line
  pub lines : List Line
  pub are : lines_from at (drop at text) ≡ line ∷ lines
  pub passes : opens line.body ≡ true

-- ---- "each prefix once"
-- the prefix that an element spells: it begins with it
unfoldable pub spelled_by : List ℕ → List ℕ
spelled_by e = cond (begins prefix_form e) (prefix_of e ∷ []) []

-- the prefixes that elements spell, in order
unfoldable pub spelled_prefixes : List (List ℕ) → List ℕ
spelled_prefixes [] = []
spelled_prefixes (e ∷ es) = spelled_by e ++ spelled_prefixes es

-- p is the prefix of one of these places
pub record PlacePrefix (p : ℕ) (ps : List ℕ) : Type 0 where
  pub place : ℕ
  pub there : Memᴰ place ps
  pub under : place / 1000 ≡ p

-- The prefixes that the elements spell are strictly ascending, so that none is there twice; each is the prefix of a place, and the prefix of each place is among them.
pub record PrefixOnce (ps : List ℕ) (es : List (List ℕ)) : Type 0 where
  pub ascending : Ascending 0 (spelled_prefixes es)
  pub only : (p : ℕ) → Memᴰ p (spelled_prefixes es) → PlacePrefix p ps
  pub every : (q : ℕ) → Memᴰ q ps → Memᴰ (q / 1000) (spelled_prefixes es)
