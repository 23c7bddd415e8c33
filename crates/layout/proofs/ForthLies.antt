-- What is read from bytes in which a book lies. Assumes nothing.
use mathlib.Core.Path.{◌≡◌, sym, ap, ◌∙◌}
use mathlib.Core.List.{List, []}
use Prim.Native.Nat.{ℕ, suc, ◌+◌, ◌*◌, ◌<◌}
use native.Mathlib.Omega.{arith}
use lib.ListN.{length, get_or}
use Rattle.std.specs.Prelude.{slice_get}
use Rattle.blocks.specs.Block.{number_at, block_of}
use Rattle.blocks.specs.Content.{holding}
use Rattle.blocks.proofs.Blocks.{byte_of}
use Rattle.checks.proofs.Seals.{sealed_at}
use Rattle.steps.specs.Book.{Copy, Draft, closed, Book}
use Rattle.layout.specs.Layout.{draft_bytes, step_bytes, Part, part_of, copies_of, held_of, held_in, index_bytes, block_bytes}
use Rattle.layout.specs.Lies.{Lies}
use Rattle.layout.proofs.ForthIndex.{or_closed_lem, or_none_lem, index_issue, index_count, index_draft, index_steps, index_step}
use Rattle.layout.proofs.Stands.{part_segment, part_copy, part_before}

module _ (l : List ℕ) (b : Book) (lies : Lies l b) where
  -- ---- the bytes of block 0
  -- each before its check
  pub lies_at : (i : ℕ) → i < 510 → get_or l i 0 ≡ get_or (index_bytes b) i 0
  lies_at i h =
      let e : i ≡ 0 * 512 + i = omega arith in
      ap (λ (j : ℕ). get_or l j 0) e
      ∙ sym (byte_of 0 i l (omega arith))
      ∙ sym (sealed_at (block_of 0 l) i h)
      ∙ ap (λ (z : List ℕ). get_or z i 0) lies.index
      ∙ sealed_at (index_bytes b) i h

  -- the issue, the number of segments, and of steps
  pub lies_issue : b.issue < 4294967296 → number_at l 0 ≡ b.issue
  lies_issue h = rw (lies_at 0 (omega arith), lies_at 1 (omega arith), lies_at 2 (omega arith), lies_at 3 (omega arith)) (index_issue b h)

  pub lies_count : get_or l 4 0 ≡ length b.segments
  lies_count = lies_at 4 (omega arith) ∙ index_count b

  pub lies_steps : get_or l 24 0 ≡ length b.history.kept
  lies_steps = lies_at 24 (omega arith) ∙ index_steps b lies.four

  -- the bytes of draft d, and of step s
  pub lies_draft : (d j : ℕ) → d < 4 → j < 4 → get_or l (8 + 4 * d + j) 0 ≡ get_or (draft_bytes (get_or b.drafts d closed)) j 0
  lies_draft d j h g = lies_at (8 + 4 * d + j) (omega arith) ∙ index_draft b lies.four d j h g

  pub lies_step : (s j : ℕ) → s < 16 → j < 2 → get_or l (32 + 2 * s + j) 0 ≡ get_or (step_bytes (get_or b.history.kept s [])) j 0
  lies_step s j h g = lies_at (32 + 2 * s + j) (omega arith) ∙ index_step b lies.four lies.sixteen s j (omega arith) g

  -- ---- the other blocks
  pub lies_block : (k : ℕ) → k < 48 → block_of (suc k) l ≡ holding (held_in b (part_of (suc k)))
  unfolding block_bytes
  lies_block k h = lies.blocks k h

  -- of segment n, all counted from 0
  pub lies_segment : (n : ℕ) → n < 8 → block_of (suc n) l ≡ holding (slice_get b.segments n)
  unfolding held_in
  lies_segment n h = lies_block n (omega arith) ∙ ap (λ (p : Part). holding (held_in b p)) (part_segment n h)

  -- of copy j of draft d
  pub lies_copy : (d j : ℕ) → d < 4 → j < 2 → block_of (9 + 2 * d + j) l ≡ holding (held_of (slice_get (copies_of (get_or b.drafts d closed)) j))
  unfolding held_in
  lies_copy d j h g =
      let e : 9 + 2 * d + j ≡ suc (8 + 2 * d + j) = omega arith in
      ap (λ (k : ℕ). block_of k l) e ∙ lies_block (8 + 2 * d + j) (omega arith) ∙ ap (λ (k : ℕ). holding (held_in b (part_of k))) (sym e)
      ∙ ap (λ (p : Part). holding (held_in b p)) (part_copy d j h g)
      ∙ ap (λ (x : Draft). holding (held_of (slice_get (copies_of x) j))) (or_closed_lem b.drafts d)

  -- of segment j of step s
  pub lies_before : (s j : ℕ) → s < 16 → j < 2 → block_of (17 + 2 * s + j) l ≡ holding (held_of (slice_get (get_or b.history.kept s []) j))
  unfolding held_in
  lies_before s j h g =
      let e : 17 + 2 * s + j ≡ suc (16 + 2 * s + j) = omega arith in
      ap (λ (k : ℕ). block_of k l) e ∙ lies_block (16 + 2 * s + j) (omega arith) ∙ ap (λ (k : ℕ). holding (held_in b (part_of k))) (sym e)
      ∙ ap (λ (p : Part). holding (held_in b p)) (part_before s j g)
      ∙ ap (λ (x : List Copy). holding (held_of (slice_get x j))) (or_none_lem b.history.kept s)
