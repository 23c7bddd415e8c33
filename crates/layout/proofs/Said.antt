-- What the book has that bytes say: its segments, drafts and steps, and their copies. Assumes nothing.
use mathlib.Core.Path.{◌≡◌, ap, ◌∙◌}
use mathlib.Core.List.{List, [], ◌∷◌}
use Rattle.std.specs.Prelude.{None, Some}
use Prim.Native.Nat.{ℕ, suc, ◌+◌, ◌*◌, ◌≤◌, ◌<◌}
use native.Mathlib.Omega.{arith}
use lib.ListN.{length, get_or}
use Rattle.std.specs.Prelude.{slice_get}
use lib.Dec.{eqb}
use borrow.Author.Tests.{eq-eqb, ne_eqb}
use Rattle.blocks.specs.Block.{block_of}
use Rattle.blocks.specs.Content.{content_of}
use Rattle.steps.specs.Book.{Copy, closed, working, at, or_closed, draft_at}
use Rattle.layout.specs.Layout.{copies_at, draft_of, step_of, book_of}
use Rattle.layout.proofs.Counted.{count_length, count_at, count_past}

-- ---- the parts of the book
module _ (l : List ℕ) where
  pub segments_length : length (book_of l).segments ≡ get_or l 4 0
  unfolding book_of
  segments_length = count_length (λ (k : ℕ). content_of (block_of k l)) 1 (get_or l 4 0)

  pub drafts_length : length (book_of l).drafts ≡ 4
  unfolding book_of
  drafts_length = count_length (draft_of l) 0 4

  pub steps_length : length (book_of l).history.kept ≡ get_or l 24 0
  unfolding book_of
  steps_length = count_length (step_of l) 0 (get_or l 24 0)

  -- segment s, counted from 0, and none behind the last
  pub segment_of_lem : (s : ℕ) → s < get_or l 4 0 → at (book_of l).segments (suc s) ≡ Some (content_of (block_of (suc s) l))
  unfolding book_of
  segment_of_lem s h =
      let e : 1 + s ≡ suc s = omega arith in
      count_at (λ (k : ℕ). content_of (block_of k l)) 1 (get_or l 4 0) s h ∙ ap (λ (k : ℕ). Some (content_of (block_of k l))) e

  pub segment_past : (s : ℕ) → get_or l 4 0 ≤ s → at (book_of l).segments (suc s) ≡ None
  unfolding book_of
  segment_past s h = count_past (λ (k : ℕ). content_of (block_of k l)) 1 (get_or l 4 0) s h

  -- draft d, counted from 0
  pub draft_of_lem : (d : ℕ) → d < 4 → draft_at (book_of l).drafts (suc d) ≡ draft_of l d
  unfolding book_of
  draft_of_lem d h = let e : 0 + d ≡ d = omega arith in ap or_closed (count_at (draft_of l) 0 4 d h) ∙ ap (draft_of l) e

  -- step s, counted from 0, and none behind the last
  pub step_of_lem : (s : ℕ) → s < get_or l 24 0 → slice_get (book_of l).history.kept s ≡ Some (step_of l s)
  unfolding book_of
  step_of_lem s h = let e : 0 + s ≡ s = omega arith in count_at (step_of l) 0 (get_or l 24 0) s h ∙ ap (λ (k : ℕ). Some (step_of l k)) e

  pub step_past : (s : ℕ) → get_or l 24 0 ≤ s → slice_get (book_of l).history.kept s ≡ None
  unfolding book_of
  step_past s h = count_past (step_of l) 0 (get_or l 24 0) s h

-- ---- copies
-- the copy of a segment number that stands in block k
abbrev pub copy_at : List ℕ → ℕ → ℕ → Copy
copy_at l segment k = record { segment = segment; held = content_of (block_of k l) }

-- no segment, one, two
pub copies_none : (l : List ℕ) (first second k : ℕ) → first ≡ 0 → copies_at l first second k ≡ []
unfolding copies_at
copies_none l first second k e = rw (eq-eqb first 0 e)

pub copies_one : (l : List ℕ) (first second k : ℕ) → 1 ≤ first → second ≡ 0 → copies_at l first second k ≡ copy_at l first k ∷ []
unfolding copies_at
copies_one l first second k h e = rw (ne_eqb first 0 (λ z. omega arith), eq-eqb second 0 e)

pub copies_two : (l : List ℕ) (first second k : ℕ) → 1 ≤ first → 1 ≤ second → copies_at l first second k ≡ copy_at l first k ∷ copy_at l second (suc k) ∷ []
unfolding copies_at
copies_two l first second k h g = rw (ne_eqb first 0 (λ z. omega arith), ne_eqb second 0 (λ z. omega arith))

-- ---- drafts
module _ (l : List ℕ) (d : ℕ) where
  pub draft_shut : get_or l (8 + 4 * d) 0 ≡ 0 → draft_of l d ≡ closed
  unfolding draft_of
  draft_shut e = rw (eq-eqb (get_or l (8 + 4 * d) 0) 0 e)

  pub draft_open : get_or l (8 + 4 * d) 0 ≡ 1
      → draft_of l d ≡ working (copies_at l (get_or l (9 + 4 * d) 0) (get_or l (10 + 4 * d) 0) (9 + 2 * d)) (eqb (get_or l (11 + 4 * d) 0) 1)
  unfolding draft_of
  draft_open e = rw (ne_eqb (get_or l (8 + 4 * d) 0) 0 (λ z. omega arith))
