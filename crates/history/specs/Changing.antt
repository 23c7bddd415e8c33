-- Serves the code: what a commit and an undo find in a book's bytes, and the books that they go through.
use Rattle.std.specs.Prelude.{ℕ, ◌+◌, ◌*◌, ◌≤◌, ◌<◌, ◌≡◌, Bool, true, false, cond, not, List, [], ◌∷◌, map, length, get_or, eqb, ltb}
use Rattle.std.specs.Prelude.{Some}
use Rattle.codes.specs.Block.{Content}
use Rattle.blocks.specs.Block.{block_of, same_list}
use Rattle.steps.specs.Book.{Copy, Book}
use Rattle.steps.specs.Calls.{staled, stored, segments_named, committed, undone}
use Rattle.layout.specs.Layout.{first_taken, second_taken, first_before, second_before, bytes_of, part_of, held_in}
use Rattle.layout.specs.Rule.{segments_said}
use Rattle.layout.specs.declared.Changed.{Changed}
use Rattle.layout.specs.declared.Changed.TheVariants.{Nothing, One, Two}
use Rattle.history.specs.declared.Found.{Found}
use Rattle.history.specs.declared.Found.TheVariants as found

-- ---- what was found: segments, each with a block
abbrev pub changed_of : Found → Changed
changed_of found.Nothing = Nothing
changed_of (found.One s from) = One s
changed_of (found.Two s from t other) = Two s t

-- one of eight segments, and a block of a draft or a step, below block `end`
pub record Placing (end s from : ℕ) : Type 0 where
  pub one : 1 ≤ s
  pub eight : s ≤ 8
  pub low : 9 ≤ from
  pub high : from < end

abbrev pub Placings : ℕ → Found → Type 0
Placings end found.Nothing = Unit
Placings end (found.One s from) = Placing end s from
Placings end (found.Two s from t other) = Placing end s from × Placing end t other

pub record AllPlaced (end : ℕ) (f : Found) : Type 0 where
  pub each : Placings end f

-- ---- in bytes
-- does the copy in block k differ from segment s? Byte 0 names no segment.
unfoldable pub differing : List ℕ → ℕ → ℕ → Bool
differing l s k = cond (eqb s 0) false (not (same_list (block_of s l) (block_of k l)))

-- of segments x and y, with copies in blocks i and j, those that changed, ascending
unfoldable pub picked : Bool → Bool → ℕ → ℕ → ℕ → ℕ → Found
picked true true x i y j = cond (ltb x y) (found.Two x i y j) (found.Two y j x i)
picked true false x i y j = found.One x i
picked false true x i y j = found.One y j
picked false false x i y j = found.Nothing

-- of draft d
unfoldable pub changes_in : List ℕ → ℕ → Found
changes_in l d =
    picked (differing l (get_or l (5 + 4 * d) 0) (first_taken d)) (differing l (get_or l (6 + 4 * d) 0) (second_taken d))
    (get_or l (5 + 4 * d) 0) (first_taken d) (get_or l (6 + 4 * d) 0) (second_taken d)

-- of step r, counted from 0; byte 0 names no second segment
unfoldable pub step_in : List ℕ → ℕ → Found
step_in l r =
    cond (eqb (get_or l (33 + 2 * r) 0) 0) (found.One (get_or l (32 + 2 * r) 0) (first_before r))
    (found.Two (get_or l (32 + 2 * r) 0) (first_before r) (get_or l (33 + 2 * r) 0) (second_before r))

-- ---- in books
abbrev pub held_copy : ℕ → Content → Copy
held_copy s c = record { segment = s; held = c }

-- a segment of the book, and a content for it that stands in a block
pub record Stands (b : Book) (s from : ℕ) (c : Content) : Type 0 where
  pub one : 1 ≤ s
  pub there : s ≤ length b.segments
  pub held : held_in b (part_of from) ≡ Some c

pub record FindsOne (b : Book) (s from : ℕ) (cs : List Copy) : Type 0 where
  pub content : Content
  pub stands : Stands b s from content
  pub are : cs ≡ held_copy s content ∷ []

pub record FindsTwo (b : Book) (s from t other : ℕ) (cs : List Copy) : Type 0 where
  pub content : Content
  pub content2 : Content
  pub stands : Stands b s from content
  pub stands2 : Stands b t other content2
  pub are : cs ≡ held_copy s content ∷ held_copy t content2 ∷ []

-- the copies that were found
abbrev pub Finds : Book → Found → List Copy → Type 0
Finds b found.Nothing cs = cs ≡ []
Finds b (found.One s from) cs = FindsOne b s from cs
Finds b (found.Two s from t other) cs = FindsTwo b s from t other cs

-- the copies stored, those of a draft or of a step that goes back, and the drafts that took one of their segments stale; the steps are as they were
abbrev pub with_stored : Book → List Copy → Book
with_stored b cs = record { issue = b.issue; segments = stored cs b.segments; drafts = map (staled cs) b.drafts; history = b.history }

-- what a commit answers and leaves
pub record Leaves (r : Changed) (l : List ℕ) (b : Book) (d : ℕ) (cs : List Copy) : Type 0 where
  pub says : segments_said r ≡ segments_named cs
  pub left : l ≡ bytes_of (committed b d cs)

-- what an undo answers and leaves
pub record PutsBack (r : Changed) (l : List ℕ) (b : Book) (cs : List Copy) : Type 0 where
  pub says : segments_said r ≡ segments_named cs
  pub left : l ≡ bytes_of (undone b cs)
