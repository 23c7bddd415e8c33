-- The bytes of block 0, and what the steps put there. Assumes nothing.
use mathlib.Core.Path.{◌≡◌, refl, sym, ap, ap₂, ◌∙◌}
use mathlib.Core.List.{List, [], ◌∷◌, ◌++◌, append_assoc}
use Rattle.std.specs.Prelude.{Option, None}
use Prim.Native.Nat.{ℕ, zero, suc, ◌+◌, ◌*◌, ◌-◌, ◌/◌, ◌%◌, ◌≤◌, ◌<◌}
use native.Mathlib.Omega.{arith}
use lib.ListN.{length, drop, get_or, replicate, length-append, length-replicate, get_or-replicate, get_or-append, get_or-eq_default}
use Rattle.std.specs.Prelude.{slice_get}
use lib.Seq.{get_or-append-add}
use Rattle.laws.proofs.Tests.{by_order, impossible}
use Rattle.laws.proofs.Lookups.{get_none}
use Rattle.blocks.specs.Block.{flat}
use Rattle.blocks.proofs.Chunks.{flat_length}
use Rattle.steps.specs.Book.{Copy, Book}
use Rattle.layout.specs.Layout.{segment_of, draft_bytes, step_bytes, front, back, index_bytes, or_none}
use Rattle.layout.proofs.ForthIndex.{draft_wide, back_at}

-- ---- its three parts: before byte 24, the count and a gap, the steps
abbrev pub top : Book → List ℕ
top b = front b ++ flat draft_bytes b.drafts

pub index_split : (b : Book) → index_bytes b ≡ top b ++ back b
unfolding index_bytes
index_split b = sym (append_assoc (front b) (flat draft_bytes b.drafts) (back b))

pub top_length : (b : Book) → length b.drafts ≡ 4 → length (top b) ≡ 24
top_length b h = length-append (front b) (flat draft_bytes b.drafts) ∙ omega (arith, flat_length draft_bytes 4 draft_wide b.drafts)

-- ---- what stands at each
zero_at : (m i : ℕ) → ◌≡◌ {A = ℕ} (get_or (replicate m 0) i 0) 0
zero_at m i = by_order i m (λ h. get_or-replicate m i 0 0 h) (λ h. get_or-eq_default (replicate m 0) 0 (omega (arith, length-replicate {A = ℕ} m 0)))

-- the copy that place t of the steps has: two places a step
unfoldable pub slot_of : List (List Copy) → ℕ → Option Copy
slot_of steps t = slice_get (or_none (slice_get steps (t / 2))) (t % 2)

-- past the last step
pub slot_none : (steps : List (List Copy)) (t : ℕ) → length steps ≤ t / 2 → slot_of steps t ≡ None
unfolding slot_of
slot_none steps t h = ap (λ (o : Option (List Copy)). slice_get (or_none o) (t % 2)) (get_none steps (t / 2) h)

-- without the first step
pub slot_drop : (steps : List (List Copy)) (t : ℕ) → slot_of steps (2 + t) ≡ slot_of (drop 1 steps) t
unfolding slot_of
slot_drop [] t = refl
slot_drop (ks ∷ steps) t =
    let p : (2 + t) / 2 ≡ suc (t / 2) = omega arith in
    let q : (2 + t) % 2 ≡ t % 2 = omega arith in
    ap₂ (λ (s i : ℕ). slice_get (or_none (slice_get (ks ∷ steps) s)) i) p q

step_byte : (steps : List (List Copy)) (m s j : ℕ) → j < 2
    → get_or (flat step_bytes steps ++ replicate m 0) (s * 2 + j) 0 ≡ segment_of (slice_get (or_none (slice_get steps s)) j)
unfolding flat
step_byte [] m s j h = zero_at m (s * 2 + j)
step_byte (ks ∷ steps) m zero zero h = refl
step_byte (ks ∷ steps) m zero (suc zero) h = refl
step_byte (ks ∷ steps) m zero (suc (suc j)) h = impossible (omega arith)
step_byte (ks ∷ steps) m (suc s) j h =
    let e : suc s * 2 + j ≡ suc (suc (s * 2 + j)) = omega arith in
    ap (λ (n : ℕ). get_or (flat step_bytes (ks ∷ steps) ++ replicate m 0) n 0) e ∙ step_byte steps m s j h

module _ (b : Book) (h : length b.drafts ≡ 4) where
  -- before byte 24
  pub index_low : (i : ℕ) → i < 24 → get_or (index_bytes b) i 0 ≡ get_or (top b) i 0
  index_low i g =
      ap (λ (z : List ℕ). get_or z i 0) (index_split b) ∙ get_or-append (top b) (back b) 0 i (omega (arith, top_length b h))

  -- the steps
  pub index_step : (t : ℕ) → get_or (index_bytes b) (32 + t) 0 ≡ segment_of (slot_of b.history.kept t)
  unfolding slot_of
  index_step t =
      let n : ℕ = length b.history.kept in
      let r : List ℕ = flat step_bytes b.history.kept ++ replicate (480 - 2 * n) 0 in
      let e : 32 + t ≡ 24 + (8 + t) = omega arith in
      let f : t ≡ t / 2 * 2 + t % 2 = omega arith in
      ap (λ (m : ℕ). get_or (index_bytes b) m 0) e ∙ back_at b h (8 + t)
      ∙ get_or-append-add (n ∷ replicate 7 0) r t 0
      ∙ ap (λ (m : ℕ). get_or r m 0) f
      ∙ step_byte b.history.kept (480 - 2 * n) (t / 2) (t % 2) (omega arith)
