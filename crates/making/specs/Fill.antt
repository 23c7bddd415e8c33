-- What the code keeps true while it makes a book: which contents the blocks hold, and what is left before block 0 is written.
use Rattle.std.specs.Prelude.{ℕ, suc, ◌*◌, ◌≤◌, ◌<◌, ◌≡◌, List, [], ◌∷◌, length, take, drop}
use Rattle.std.specs.Prelude.{None}
use Rattle.std.specs.Prelude.{slice_get}
use Rattle.codes.specs.Places.{capacity}
use Rattle.codes.specs.Block.{Content}
use Rattle.segments.specs.declared.Segment.{Segment}
use Rattle.blocks.specs.Block.{book_length, block_of}
use Rattle.blocks.specs.Content.{holding}
use Rattle.steps.specs.Book.{new_book}
use Rattle.layout.specs.Layout.{bytes_of}

-- the contents of segments, the first of which is segment i: their places are those that are kept from 120 * i on
unfoldable pub contents_from : ℕ → List ℕ → List Segment → List Content
contents_from i kept [] = []
contents_from i kept (g ∷ gs) = record { purge = g.purge; places = take g.count (drop (capacity * i) kept) } ∷ contents_from (suc i) kept gs

-- a block has room for a segment's content
pub record Storable (g : Segment) : Type 0 where
  pub few : g.count ≤ capacity
  pub low : g.purge < 4294967296

-- the blocks after block 0 hold these contents, and the others are unused
pub record Filled (cs : List Content) (l : List ℕ) : Type 0 where
  pub long : length l ≡ book_length
  pub first : block_of 0 l ≡ holding None
  pub blocks : (k : ℕ) → k < 48 → block_of (suc k) l ≡ holding (slice_get cs k)

-- whatever contents the blocks hold, they are a new book's
pub record Indexed (before : List ℕ) (issue n : ℕ) (after : List ℕ) : Type 0 where
  pub whole : (cs : List Content) → length cs ≡ n → n < 9 → Filled cs before → after ≡ bytes_of (new_book issue cs)
