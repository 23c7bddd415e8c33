-- The bytes of a sound book are sound. Assumes nothing.
use mathlib.Core.Path.{◌≡◌, ap, ◌∙◌}
use mathlib.Core.Bool.{true}
use mathlib.Core.List.{List, []}
use Prim.Native.Nat.{ℕ, suc, ◌+◌, ◌*◌, ◌<◌}
use native.Mathlib.Numerals.{one-add}
use native.Mathlib.Nat.{zero-add}
use native.Mathlib.Omega.{arith}
use lib.ListN.{length, get_or}
use Rattle.std.specs.List.{slice_range}
use lib.Seq.{}
use lib.Dec.{ltb}
use borrow.Author.Tests.{le-leb, eq-eqb}
use Rattle.laws.proofs.Lists.{all_get}
use Rattle.codes.specs.Places.{upward}
use Rattle.checks.specs.Seal.{block_length, all_zero, sealed, checked}
use Rattle.blocks.specs.Block.{book_length, number_at}
use Rattle.checks.proofs.Seals.{sealed_length, sealed_at}
use Rattle.checks.proofs.Zeros.{slice_zero}
use Rattle.blocks.proofs.Forms.{sealed_checked}
use Rattle.steps.specs.Book.{closed, Book}
use Rattle.steps.specs.Calls.{steps_most}
use Rattle.layout.specs.Layout.{draft_bytes, step_bytes, part_of, index_bytes, block_bytes, bytes_of}
use Rattle.laws.specs.Lists.{every}
use Rattle.layout.specs.Sound.{is_issue, Sound}
use Rattle.layout.specs.Tests.{is_draft_at, is_step_at, is_index, used, is_good, is_sound}
use Rattle.layout.proofs.Items.{every_upward}
use Rattle.layout.proofs.ForthIndex.{index_length, index_issue, index_count, index_gap, index_draft, index_steps, index_mid, index_step, index_rest}
use Rattle.layout.proofs.ForthBlocks.{block_at_lem, bytes_length}
use Rattle.layout.proofs.Stands.{part_segment, used_segment, part_copy, used_copy, part_before, used_before, every_block}
use Rattle.layout.proofs.ForthParts.{bytes_lie, named, told_good, told_part, sound_wide}
use Rattle.layout.proofs.ForthLies.{lies_count, lies_draft, lies_step, lies_block}
use Rattle.layout.proofs.Forth.{issue_low, said_issue}
use Rattle.layout.proofs.ForthTests.{draft_passes, step_passes, draft_number, step_number}

-- ---- block 0 is good
module _ (b : Book) (sound : Sound b) where
  index_512 : length (index_bytes b) ≡ block_length
  index_512 = index_length b sound.four sound.past.sixteen

  -- block 0 with its check
  first : List ℕ
  first = sealed (index_bytes b)

  first_length : length first ≡ block_length
  unfolding first
  first_length = sealed_length (index_bytes b) ∙ index_512

  first_checked : checked first ≡ true
  unfolding first
  first_checked = sealed_checked (index_bytes b) index_512

  -- its bytes
  first_at : (i : ℕ) → i < 510 → get_or first i 0 ≡ get_or (index_bytes b) i 0
  unfolding first
  first_at i h = sealed_at (index_bytes b) i h

  -- the issue, the counts
  first_issue : is_issue (number_at first 0) ≡ true
  first_issue =
      rw (first_at 0 (omega arith), first_at 1 (omega arith), first_at 2 (omega arith), first_at 3 (omega arith), index_issue b (issue_low b.issue sound.year))
      sound.year

  first_count : get_or first 4 0 ≡ length b.segments
  first_count = first_at 4 (omega arith) ∙ index_count b

  first_steps : get_or first 24 0 ≡ length b.history.kept
  first_steps = first_at 24 (omega arith) ∙ index_steps b sound.four

  -- its zeros
  first_gap : all_zero (slice_range first 5 8) ≡ true
  first_gap = slice_zero 5 8 first (omega (arith, first_length)) (λ i h g. first_at i (omega arith) ∙ index_gap b i h g)

  first_mid : all_zero (slice_range first 25 32) ≡ true
  first_mid = slice_zero 25 32 first (omega (arith, first_length)) (λ i h g. first_at i (omega arith) ∙ index_mid b sound.four i h g)

  first_rest : all_zero (slice_range first (32 + 2 * length b.history.kept) 510) ≡ true
  first_rest =
      slice_zero (32 + 2 * length b.history.kept) 510 first (omega (arith, first_length))
      (λ i h g. first_at i g ∙ index_rest b sound.four sound.past.sixteen i h (omega arith))

  -- byte j of draft d, of step s
  first_draft : (d j i : ℕ) → d < 4 → j < 4 → i ≡ 8 + 4 * d + j → get_or first i 0 ≡ get_or (draft_bytes (get_or b.drafts d closed)) j 0
  first_draft d j i h g e = first_at i (omega arith) ∙ ap (λ (k : ℕ). get_or (index_bytes b) k 0) e ∙ index_draft b sound.four d j h g

  first_step : (s j i : ℕ) → s < 16 → j < 2 → i ≡ 32 + 2 * s + j → get_or first i 0 ≡ get_or (step_bytes (get_or b.history.kept s [])) j 0
  first_step s j i h g e = first_at i (omega arith) ∙ ap (λ (k : ℕ). get_or (index_bytes b) k 0) e ∙ index_step b sound.four sound.past.sixteen s j (omega arith) g

  -- each draft and each step passes
  first_draft_good : (d : ℕ) → d < 4 → is_draft_at first d ≡ true
  unfolding is_draft_at
  first_draft_good d h =
      rw (first_count, first_draft d 0 (8 + 4 * d) h (omega arith) (omega arith), first_draft d 1 (9 + 4 * d) h (omega arith) (omega arith), first_draft d 2 (10 + 4 * d) h (omega arith) (omega arith), first_draft d 3 (11 + 4 * d) h (omega arith) (omega arith))
      (draft_passes b.issue (length b.segments) (get_or b.drafts d closed) (all_get closed d sound.drafts (omega (arith, sound.four))))

  first_step_good : (s : ℕ) → s < length b.history.kept → is_step_at first s ≡ true
  unfolding is_step_at
  first_step_good s h =
      let g : s < 16 = omega (arith, sound.past.sixteen) in
      rw (first_count, first_step s 0 (32 + 2 * s) g (omega arith) (omega arith), first_step s 1 (33 + 2 * s) g (omega arith) (omega arith))
      (step_passes b.issue (length b.segments) (get_or b.history.kept s []) (all_get [] s sound.past.steps h))

  -- and so does the block
  index_passes : is_index (sealed (index_bytes b)) ≡ true
  unfolding is_index first
  index_passes =
      let ds : every (is_draft_at first) (upward 0 4) ≡ true = every_upward (is_draft_at first) 0 4 (λ d h. ap (is_draft_at first) (zero-add d) ∙ first_draft_good d h) in
      let ss : every (is_step_at first) (upward 0 (length b.history.kept)) ≡ true =
      every_upward (is_step_at first) 0 (length b.history.kept) (λ s h. ap (is_step_at first) (zero-add s) ∙ first_step_good s h) in
      rw (first_checked, first_issue, first_count, le-leb 1 (length b.segments) sound.one, le-leb (length b.segments) 8 sound.eight, first_gap, ds, first_steps, le-leb (length b.history.kept) steps_most sound.past.sixteen, first_mid, ss)
      first_rest

  -- ---- the other blocks are good
  -- the index names what is used: a segment, a copy, what a segment held before
  named_segment : (n : ℕ) → n < 8 → used (bytes_of b) (suc n) ≡ named b (part_of (suc n))
  unfolding named
  named_segment n h = rw (part_segment n h, used_segment (bytes_of b) n h, lies_count (bytes_of b) b (bytes_lie b sound))

  named_copy : (d j : ℕ) → d < 4 → j < 2 → used (bytes_of b) (9 + 2 * d + j) ≡ named b (part_of (9 + 2 * d + j))
  unfolding named
  named_copy d j h g =
      let p : 9 + 4 * d + j ≡ 8 + 4 * d + (1 + j) = omega arith in
      rw (part_copy d j h g, used_copy (bytes_of b) d j h g, p)
      (ap (ltb 0) (lies_draft (bytes_of b) b (bytes_lie b sound) d (1 + j) h (omega arith) ∙ draft_number (get_or b.drafts d closed) j g))

  named_before : (s j : ℕ) → s < 16 → j < 2 → used (bytes_of b) (17 + 2 * s + j) ≡ named b (part_of (17 + 2 * s + j))
  unfolding named
  named_before s j h g =
      rw (part_before s j g, used_before (bytes_of b) s j)
      (ap (ltb 0) (lies_step (bytes_of b) b (bytes_lie b sound) s j h g ∙ step_number (get_or b.history.kept s []) j g))

  -- any block
  used_is : (k : ℕ) → k < 48 → used (bytes_of b) (suc k) ≡ named b (part_of (suc k))
  used_is k h = every_block (λ (i : ℕ). used (bytes_of b) i ≡ named b (part_of i)) named_segment named_copy named_before (suc k) (omega arith) (omega arith)

  -- each is used or unused as the index says
  block_passes : (k : ℕ) → k < 48 → is_good (bytes_of b) (suc k) ≡ true
  unfolding is_good
  block_passes k h = rw (used_is k h, said_issue (bytes_of b) b (bytes_lie b sound) sound, lies_block (bytes_of b) b (bytes_lie b sound) k h) (told_good (told_part b sound (part_of (suc k))))

  -- the book's bytes are sound
  pub bytes_sound : is_sound (bytes_of b) ≡ true
  unfolding is_sound block_bytes
  bytes_sound =
      rw (eq-eqb (length (bytes_of b)) book_length (bytes_length b (sound_wide b sound)), block_at_lem b (sound_wide b sound) 0 (omega arith), index_passes)
      (every_upward (is_good (bytes_of b)) 1 48 (λ i h. ap (is_good (bytes_of b)) (one-add i) ∙ block_passes i h))
