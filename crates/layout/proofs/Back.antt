-- Sound bytes are the bytes of the book that they say. Assumes nothing.
use mathlib.Core.Path.{◌≡◌, sym, ap, ◌∙◌, subst}
use mathlib.Core.Bool.{Bool, true, false, cond}
use mathlib.Core.List.{List}
use Rattle.std.specs.Prelude.{Option}
use Prim.Native.Nat.{ℕ, zero, suc, ◌+◌, ◌*◌, ◌≤◌, ◌<◌}
use native.Mathlib.Omega.{arith}
use lib.ListN.{length, take, drop, get_or}
use Rattle.std.specs.Prelude.{slice_get}
use lib.Seq.{take_all}
use borrow.Author.Tests.{le-leb, lt-leb, le-ltb}
use Rattle.laws.proofs.Tests.{by, by_order}
use Rattle.checks.specs.Seal.{block_length}
use Rattle.blocks.specs.Block.{block_count, number_at, flat, block_of, Bytes}
use Rattle.blocks.specs.Content.{holding, content_of, is_content}
use Rattle.checks.specs.Unused.{is_unused}
use Rattle.blocks.specs.Good.{is_used}
use Rattle.blocks.proofs.Blocks.{block_length_lem}
use Rattle.blocks.proofs.Numbers.{bytes_block}
use Rattle.blocks.proofs.Contents.{content_back, unused_back}
use Rattle.steps.specs.Book.{Copy, Draft}
use Rattle.layout.specs.Layout.{copies_of, or_none, held_of, step_of, part_of, held_in, block_bytes, bytes_of, book_of}
use Rattle.layout.specs.Tests.{used, is_good, is_sound}
use Rattle.layout.specs.Lies.{Lies}
use Rattle.layout.proofs.Counted.{flat_back, count_self}
use Rattle.layout.proofs.Parts.{Parts, sound_parts, draft_cases, step_cases}
use Rattle.layout.proofs.Said.{drafts_length, steps_length, segment_of_lem, segment_past, draft_of_lem, step_of_lem, step_past}
use Rattle.layout.proofs.Shown.{held_when, copy_held, second_needs, step_needs, draft_copies}
use Rattle.layout.proofs.IndexBack.{index_sealed, index_back}
use Rattle.layout.proofs.Stands.{part_segment, used_segment, part_copy, used_copy, part_before, used_before, every_block}

-- ---- what the book holds where block k stands: what block k says, if it is used
abbrev Held : List ℕ → ℕ → Type 0
Held l k = held_in (book_of l) (part_of k) ≡ held_when (used l k) (content_of (block_of k l))

module _ (l : List ℕ) (p : Parts l) where
  segment_held : (s : ℕ) → s < 8 → Held l (suc s)
  unfolding held_in
  segment_held s h =
      rw (part_segment s h, used_segment l s h)
      (by_order s (get_or l 4 0)
      (λ g. rw (le-leb (suc s) (get_or l 4 0) g) (segment_of_lem l s g))
      (λ g. rw (lt-leb (suc s) (get_or l 4 0) (omega arith)) (segment_past l s g)))

  taken_held : (d r : ℕ) → d < 4 → r < 2 → Held l (9 + 2 * d + r)
  unfolding held_in
  taken_held d r h g =
      rw (part_copy d r h g, used_copy l d r h g)
      (ap (λ (x : Draft). held_of (slice_get (copies_of x) r)) (draft_of_lem l d h)
      ∙ ap (λ (ks : List Copy). held_of (slice_get ks r)) (draft_copies l d p h)
      ∙ copy_held l (9 + 4 * d) (10 + 4 * d) (9 + 2 * d) r (omega arith) (second_needs (draft_cases l p d h)) g)

  before_held : (s r : ℕ) → s < 16 → r < 2 → Held l (17 + 2 * s + r)
  unfolding held_in step_of
  before_held s r h g =
      rw (part_before s r g, used_before l s r)
      (by_order s (get_or l 24 0)
      (λ k. ap (λ (x : Option (List Copy)). held_of (slice_get (or_none x) r)) (step_of_lem l s k)
      ∙ copy_held l (32 + 2 * s) (33 + 2 * s) (17 + 2 * s) r (omega arith) (step_needs (step_cases l p s k)) g)
      (λ k. let z : get_or l (32 + 2 * s + r) 0 ≡ 0 = p.rest (32 + 2 * s + r) (omega arith) (omega arith) in
      ap (λ (x : Option (List Copy)). held_of (slice_get (or_none x) r)) (step_past l s k)
      ∙ rw (le-ltb 0 (get_or l (32 + 2 * s + r) 0) (omega arith))))

  pub block_held : (k : ℕ) → 1 ≤ k → k ≤ 48 → held_in (book_of l) (part_of k) ≡ held_when (used l k) (content_of (block_of k l))
  block_held = every_block (Held l) segment_held taken_held before_held

  -- a used block passes its test, and an unused one its own
  pub good_used : (k : ℕ) → 1 ≤ k → k ≤ 48 → used l k ≡ true → is_used (number_at l 0) (block_of k l) ≡ true
  unfolding is_good
  good_used k h g u = subst (λ (t : Bool). cond t (is_used (number_at l 0) (block_of k l)) (is_unused (block_of k l)) ≡ true) u (p.blocks k h g)

  pub good_unused : (k : ℕ) → 1 ≤ k → k ≤ 48 → used l k ≡ false → is_unused (block_of k l) ≡ true
  unfolding is_good
  good_unused k h g u = subst (λ (t : Bool). cond t (is_used (number_at l 0) (block_of k l)) (is_unused (block_of k l)) ≡ true) u (p.blocks k h g)

module _ (l : List ℕ) (y : Bytes l) (p : Parts l) where
  pub long_block : (k : ℕ) → k ≤ 48 → length (block_of k l) ≡ block_length
  long_block k h = let e = p.long in block_length_lem k l (omega arith)

  -- what a used block says is sound
  pub used_fine : (k : ℕ) → 1 ≤ k → k ≤ 48 → used l k ≡ true → is_content (number_at l 0) (content_of (block_of k l)) ≡ true
  used_fine k h g u = (content_back (number_at l 0) (block_of k l) (long_block k g) (bytes_block k l y) (good_used l p k h g u)).1

  -- block k is the bytes of what the book holds there
  pub block_back : (k : ℕ) → 1 ≤ k → k ≤ 48 → block_of k l ≡ holding (held_in (book_of l) (part_of k))
  block_back k h g =
      rw (block_held l p k h g)
      (by (used l k)
      (λ u. rw u (sym (content_back (number_at l 0) (block_of k l) (long_block k g) (bytes_block k l y) (good_used l p k h g u)).0))
      (λ u. rw u (sym (unused_back (block_of k l) (long_block k g) (bytes_block k l y) (good_unused l p k h g u)))))

  -- the book lies in its bytes
  pub parts_lie : Lies l (book_of l)
  unfolding block_bytes
  parts_lie =
      record {
        long = p.long;
        index = index_sealed l y p ∙ index_back l y p;
        blocks = λ k h. block_back (suc k) (omega arith) (omega arith);
        four = drafts_length l;
        sixteen = rw steps_length p.sixteen;
      }

  -- block 0 too is the bytes of what it says
  each_back : (k : ℕ) → k < 49 → take 512 (drop (0 + 512 * k) l) ≡ block_bytes (book_of l) k
  unfolding block_bytes block_of
  each_back zero h = index_back l y p
  each_back (suc k) h =
      let e : 0 + 512 * suc k ≡ suc k * 512 = omega arith in
      ap (λ (i : ℕ). take 512 (drop i l)) e ∙ block_back (suc k) (omega arith) (omega arith)

  -- the bytes are those of the book
  pub parts_bytes : bytes_of (book_of l) ≡ l
  unfolding bytes_of
  parts_bytes =
      let len = p.long in
      ap (flat (block_bytes (book_of l))) (sym (count_self 0 block_count))
      ∙ sym (flat_back (block_bytes (book_of l)) (λ (k : ℕ). k) 512 0 l 0 block_count (λ k h g. each_back k (omega arith)))
      ∙ take_all 25088 l (omega arith)

-- sound bytes are the bytes of the book that they say, block by block
pub sound_lies : (l : List ℕ) → Bytes l → is_sound l ≡ true → Lies l (book_of l)
sound_lies l y e = parts_lie l y (sound_parts l e)

-- and all together
pub sound_bytes : (l : List ℕ) → Bytes l → is_sound l ≡ true → bytes_of (book_of l) ≡ l
sound_bytes l y e = parts_bytes l y (sound_parts l e)
