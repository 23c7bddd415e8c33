-- Document 01, "The book": the 49 blocks of a book, and the book that bytes say.
use Rattle.std.specs.Prelude.{ℕ, zero, suc, ◌+◌, ◌-◌, ◌*◌, ◌/◌, ◌%◌, Bool, true, false, cond, List, [], ◌∷◌, ◌++◌, map, length, get_or, replicate, ltb, eqb}
use Rattle.std.specs.Prelude.{Option, None, Some}
use Rattle.std.specs.Prelude.{slice_get}
use Rattle.codes.specs.Places.{upward}
use Rattle.codes.specs.Block.{Content}
use Rattle.checks.specs.Seal.{sealed}
use Rattle.blocks.specs.Block.{block_count, bytes32, number_at, flat, block_of}
use Rattle.blocks.specs.Content.{holding, content_of}
use Rattle.steps.specs.Book.{Copy, Draft, closed, working, Book, or_closed}

-- ---- block 0
-- the segment of a copy, 0 if there is none
abbrev pub segment_of : Option Copy → ℕ
segment_of None = 0
segment_of (Some k) = k.segment

abbrev pub bit : Bool → ℕ
bit true = 1
bit false = 0

-- "four bytes a draft (open 0/1, first segment taken, second, stale 0/1)"
abbrev pub draft_bytes : Draft → List ℕ
draft_bytes closed = 0 ∷ 0 ∷ 0 ∷ 0 ∷ []
draft_bytes (working ks stale) = 1 ∷ segment_of (slice_get ks 0) ∷ segment_of (slice_get ks 1) ∷ bit stale ∷ []

-- "two bytes a step, oldest first: its segments, ascending, second 0 if none"
abbrev pub step_bytes : List Copy → List ℕ
step_bytes ks = segment_of (slice_get ks 0) ∷ segment_of (slice_get ks 1) ∷ []

-- "bytes 0..3 issue minute; 4 segment count; 8..23 four bytes a draft; 24 undo steps 0..16; 32.. two bytes a step"
abbrev pub front : Book → List ℕ
front b = bytes32 b.issue ++ (length b.segments ∷ replicate 3 0)

abbrev pub back : Book → List ℕ
back b =
    (length b.history.kept ∷ replicate 7 0)
    ++ (flat step_bytes b.history.kept ++ replicate (480 - 2 * length b.history.kept) 0)

unfoldable pub index_bytes : Book → List ℕ
index_bytes b = front b ++ (flat draft_bytes b.drafts ++ back b)

-- ---- the other blocks
-- "Blocks 1..8 segments. Blocks 9..16, two a draft in order taken. Blocks 17..48, two a step in the same order: what its segments held before." All counted from 0.
pub data Part : Type 0 where
  segment : ℕ → Part
  copy : ℕ → ℕ → Part
  before : ℕ → ℕ → Part

-- The numbering, said once: the first of a draft's two blocks and of a step's, and with these the block of each part.
abbrev pub copies_from : ℕ → ℕ
copies_from d = 9 + 2 * d

abbrev pub befores_from : ℕ → ℕ
befores_from s = 17 + 2 * s

abbrev pub block_number : Part → ℕ
block_number (segment n) = suc n
block_number (copy d n) = copies_from d + n
block_number (before s n) = befores_from s + n

-- The same two blocks of a draft that is counted from 1, as the calls count them, and of a step (layout/proofs/Stands: draft_blocks, step_blocks).
abbrev pub first_taken : ℕ → ℕ
first_taken d = 7 + 2 * d

abbrev pub second_taken : ℕ → ℕ
second_taken d = 8 + 2 * d

abbrev pub first_before : ℕ → ℕ
first_before s = 17 + 2 * s

abbrev pub second_before : ℕ → ℕ
second_before s = 18 + 2 * s

-- the part that block k is for: the one of that number (layout/proofs/Stands: part_segment, part_copy, part_before)
unfoldable pub part_of : ℕ → Part
part_of k =
    cond (ltb k (copies_from 0)) (segment (k - 1))
    (cond (ltb k (befores_from 0)) (copy ((k - copies_from 0) / 2) ((k - copies_from 0) % 2)) (before ((k - befores_from 0) / 2) ((k - befores_from 0) % 2)))

abbrev pub copies_of : Draft → List Copy
copies_of closed = []
copies_of (working ks stale) = ks

abbrev pub or_none : Option (List Copy) → List Copy
or_none None = []
or_none (Some ks) = ks

abbrev pub held_of : Option Copy → Option Content
held_of None = None
held_of (Some k) = Some k.held

unfoldable pub held_in : Book → Part → Option Content
held_in b (segment n) = slice_get b.segments n
held_in b (copy d n) = held_of (slice_get (copies_of (or_closed (slice_get b.drafts d))) n)
held_in b (before s n) = held_of (slice_get (or_none (slice_get b.history.kept s)) n)

-- what block k holds, with its check
unfoldable pub block_bytes : Book → ℕ → List ℕ
block_bytes b zero = sealed (index_bytes b)
block_bytes b (suc k) = holding (held_in b (part_of (suc k)))

unfoldable pub bytes_of : Book → List ℕ
bytes_of b = flat (block_bytes b) (upward 0 block_count)

-- ---- the book that bytes say
-- the copies that two segment numbers name, which stand in block k and the next
unfoldable pub copies_at : List ℕ → ℕ → ℕ → ℕ → List Copy
copies_at l first second k =
    cond (eqb first 0) []
    (record { segment = first; held = content_of (block_of k l) }
    ∷ cond (eqb second 0) [] (record { segment = second; held = content_of (block_of (suc k) l) } ∷ []))

unfoldable pub draft_of : List ℕ → ℕ → Draft
draft_of l d =
    cond (eqb (get_or l (8 + 4 * d) 0) 0) closed
    (working (copies_at l (get_or l (9 + 4 * d) 0) (get_or l (10 + 4 * d) 0) (copies_from d)) (eqb (get_or l (11 + 4 * d) 0) 1))

unfoldable pub step_of : List ℕ → ℕ → List Copy
step_of l s = copies_at l (get_or l (32 + 2 * s) 0) (get_or l (33 + 2 * s) 0) (befores_from s)

unfoldable pub book_of : List ℕ → Book
book_of l =
    record {
      issue = number_at l 0;
      segments = map (λ k. content_of (block_of k l)) (upward 1 (get_or l 4 0));
      drafts = map (draft_of l) (upward 0 4);
      history = record { kept = map (step_of l) (upward 0 (get_or l 24 0)) };
    }
