-- Bytes stored and read in block 0. Assumes nothing.
use mathlib.Core.Path.{◌≡◌, ap, ◌∙◌}
use mathlib.Core.List.{List, ◌++◌}
use Prim.Native.Nat.{ℕ, ◌+◌, ◌*◌, ◌<◌}
use native.Mathlib.Omega.{arith}
use lib.ListN.{length, get_or, set}
use lib.Seq.{set-append_left}
use Rattle.blocks.specs.Block.{flat}
use Rattle.blocks.proofs.Chunks.{set_append_right, flat_length, flat_set}
use Rattle.steps.specs.Book.{Draft, closed, Book}
use Rattle.steps.specs.Calls.{with_drafts}
use Rattle.layout.specs.Layout.{draft_bytes, front, back, index_bytes}
use Rattle.layout.proofs.ForthIndex.{draft_wide, index_draft}

module _ (b : Book) (four : length b.drafts ≡ 4) (k : ℕ) (j : ℕ) (h : k < 4) (g : j < 4) where
  inside : k * 4 + j < length (flat draft_bytes b.drafts)
  inside = omega (arith, four, flat_length draft_bytes 4 draft_wide b.drafts)

  -- a byte stored in the four of a draft, which makes them another draft's
  pub draft_byte : (v : ℕ) (y : Draft) → set (draft_bytes (get_or b.drafts k closed)) j v ≡ draft_bytes y
      → set (index_bytes b) (8 + (k * 4 + j)) v ≡ index_bytes (with_drafts b (set b.drafts k y))
  unfolding index_bytes
  draft_byte v y same =
      set_append_right (front b) (flat draft_bytes b.drafts ++ back b) (k * 4 + j) v
      ∙ ap (λ (z : List ℕ). front b ++ z)
      (set-append_left (flat draft_bytes b.drafts) (back b) (k * 4 + j) v inside
      ∙ ap (λ (z : List ℕ). z ++ back b) (flat_set draft_bytes 4 draft_wide closed b.drafts k j v y (omega (arith, four)) g same))

  -- a byte read there
  pub draft_read : get_or (index_bytes b) (8 + (k * 4 + j)) 0 ≡ get_or (draft_bytes (get_or b.drafts k closed)) j 0
  draft_read =
      let e : 8 + (k * 4 + j) ≡ 8 + 4 * k + j = omega arith in
      ap (λ (n : ℕ). get_or (index_bytes b) n 0) e ∙ index_draft b four k j h g
