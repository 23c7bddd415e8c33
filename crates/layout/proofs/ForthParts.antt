-- What the blocks of a sound book hold. Assumes nothing.
use mathlib.Core.Path.{◌≡◌, sym, ap, ◌∙◌, subst}
use mathlib.Core.Bool.{Bool, true, false, cond}
use mathlib.Core.List.{List, [], ◌∷◌}
use Rattle.std.specs.Prelude.{Option, None, Some}
use Prim.Native.Nat.{ℕ, zero, suc, ◌/◌, ◌%◌, ◌<◌}
use native.Mathlib.Omega.{arith}
use lib.ListN.{length, get_or, get_or-eq_default}
use Rattle.std.specs.Prelude.{slice_get}
use lib.Dec.{ltb}
use borrow.Author.Tests.{lt-ltb, le-ltb}
use Rattle.laws.proofs.Tests.{by_order}
use Rattle.laws.proofs.Lists.{all_get}
use Rattle.laws.specs.Lists.{All, all_nil, all_cons}
use Rattle.laws.proofs.Lookups.{get_none, get_some}
use Rattle.codes.specs.Block.{Content}
use Rattle.checks.specs.Seal.{block_length, check_of, sealed}
use Rattle.blocks.specs.Content.{holding}
use Rattle.checks.specs.Unused.{is_unused}
use Rattle.blocks.specs.Good.{is_used}
use Rattle.checks.proofs.Seals.{sealed_length, sealed_again}
use Rattle.blocks.proofs.Contents.{used_length, unused_length, content_forth, unused_forth, sound_true}
use Rattle.steps.specs.Book.{Copy, Draft, closed, Book}
use Rattle.layout.specs.Layout.{segment_of, Part, segment, copy, before, part_of, copies_of, held_of, held_in, index_bytes, block_bytes, bytes_of}
use Rattle.layout.specs.Sound.{Fine, FineCopy, FineDraft, closed_fine, working_fine, Sound}
use Rattle.layout.specs.Lies.{Lies}
use Rattle.layout.proofs.ForthIndex.{or_closed_lem, or_none_lem, index_length}
use Rattle.layout.proofs.ForthBlocks.{block_at_lem, bytes_length}

-- a seal is put once
pub sealed_twice : (m : List ℕ) → sealed (sealed m) ≡ sealed m
unfolding sealed
sealed_twice m = sealed_again m (check_of m % 256) (check_of m / 256 % 256)

-- ---- whether a block is used, and what for: a content that is sound under the issue
pub data Told (issue : ℕ) : Bool → Option Content → Type 0 where
  told_none : Told issue false None
  told_some : {c : Content} → Fine issue c → Told issue true (Some c)

-- its block has 512 bytes, and is good
pub told_wide : {issue : ℕ} {u : Bool} {o : Option Content} → Told issue u o → length (holding o) ≡ block_length
told_wide told_none = unused_length
told_wide {issue} (told_some {c} f) = used_length c (sound_true issue c f).few

pub told_good : {issue : ℕ} {u : Bool} {o : Option Content} → Told issue u o → cond u (is_used issue (holding o)) (is_unused (holding o)) ≡ true
told_good told_none = unused_forth
told_good {issue} (told_some {c} f) = (content_forth issue c f).1

-- the copy j of fine copies
pub told_copy : (issue n : ℕ) (ks : List Copy) (j : ℕ) → All (FineCopy issue n) ks
    → Told issue (ltb 0 (segment_of (slice_get ks j))) (held_of (slice_get ks j))
told_copy issue n [] j a = told_none
told_copy issue n (k ∷ ks) zero (all_cons f a) = subst (λ (u : Bool). Told issue u (Some k.held)) (sym (lt-ltb 0 k.segment f.from)) (told_some f.fine)
told_copy issue n (k ∷ ks) (suc j) (all_cons f a) = told_copy issue n ks j a

-- the copies of a fine draft are fine
pub draft_copies : {issue n : ℕ} {d : Draft} → FineDraft issue n d → All (FineCopy issue n) (copies_of d)
draft_copies closed_fine = all_nil
draft_copies (working_fine t) = t.copies

-- whether a part is used
unfoldable pub named : Book → Part → Bool
named b (segment n) = ltb n (length b.segments)
named b (copy d j) = ltb 0 (segment_of (slice_get (copies_of (get_or b.drafts d closed)) j))
named b (before s j) = ltb 0 (segment_of (slice_get (get_or b.history.kept s []) j))

-- any content, for lists of them
abbrev pub blank : Content
blank = record { purge = 0; places = [] }

module _ (b : Book) (sound : Sound b) where
  -- a segment, a copy, what a segment held before
  told_segment : (n : ℕ) → Told b.issue (ltb n (length b.segments)) (slice_get b.segments n)
  told_segment n =
      by_order n (length b.segments)
      (λ h. rw (lt-ltb n (length b.segments) h, get_some blank b.segments n h) (told_some (all_get blank n sound.contents h)))
      (λ h. rw (le-ltb n (length b.segments) h, get_none b.segments n h) told_none)

  told_draft : (d j : ℕ) → Told b.issue (named b (copy d j)) (held_in b (copy d j))
  unfolding named held_in
  told_draft d j =
      rw (or_closed_lem b.drafts d)
      (told_copy b.issue (length b.segments) (copies_of (get_or b.drafts d closed)) j
      (by_order d (length b.drafts)
      (λ h. draft_copies (all_get closed d sound.drafts h))
      (λ h. subst (λ (x : Draft). All (FineCopy b.issue (length b.segments)) (copies_of x)) (sym (get_or-eq_default b.drafts closed h)) all_nil)))

  told_step : (s j : ℕ) → Told b.issue (named b (before s j)) (held_in b (before s j))
  unfolding named held_in
  told_step s j =
      rw (or_none_lem b.history.kept s)
      (told_copy b.issue (length b.segments) (get_or b.history.kept s []) j
      (by_order s (length b.history.kept)
      (λ h. (all_get [] s sound.past.steps h).copies)
      (λ h. subst (All (FineCopy b.issue (length b.segments))) (sym (get_or-eq_default b.history.kept [] h)) all_nil)))

  -- every part
  pub told_part : (p : Part) → Told b.issue (named b p) (held_in b p)
  unfolding named held_in
  told_part (segment n) = told_segment n
  told_part (copy d j) = told_draft d j
  told_part (before s j) = told_step s j

  -- each block has 512 bytes
  pub sound_wide : (k : ℕ) → k < 49 → length (block_bytes b k) ≡ block_length
  unfolding block_bytes
  sound_wide zero h = sealed_length (index_bytes b) ∙ index_length b sound.four sound.past.sixteen
  sound_wide (suc k) h = told_wide (told_part (part_of (suc k)))

  -- the book lies in its bytes
  pub bytes_lie : Lies (bytes_of b) b
  unfolding block_bytes
  bytes_lie =
      record {
        long = bytes_length b sound_wide;
        index = ap sealed (block_at_lem b sound_wide 0 (omega arith)) ∙ sealed_twice (index_bytes b);
        blocks = λ k h. block_at_lem b sound_wide (suc k) (omega arith);
        four = sound.four;
        sixteen = sound.past.sixteen;
      }
