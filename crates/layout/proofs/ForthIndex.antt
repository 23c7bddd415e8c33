-- What stands where in block 0 of a book. Assumes nothing.
use mathlib.Core.Path.{◌≡◌, refl, sym, ap, ◌∙◌}
use mathlib.Core.List.{List, [], ◌∷◌, ◌++◌}
use Prim.Native.Nat.{ℕ, zero, suc, ◌+◌, ◌*◌, ◌-◌, ◌≤◌, ◌<◌}
use native.Mathlib.Omega.{arith}
use lib.ListN.{length, get_or, replicate, length-replicate, get_or-replicate, length-append, get_or-append, get_or-eq_default}
use Rattle.std.specs.Prelude.{slice_get}
use lib.Seq.{get_or-append-add}
use Rattle.laws.proofs.Tests.{by_order}
use Rattle.checks.specs.Seal.{block_length}
use Rattle.blocks.specs.Block.{number_at, flat}
use Rattle.blocks.proofs.Chunks.{flat_length, flat_get}
use Rattle.blocks.proofs.Numbers.{number_forth}
use Rattle.steps.specs.Book.{Copy, Draft, closed, working, Book, or_closed}
use Rattle.steps.specs.Calls.{steps_most}
use Rattle.layout.specs.Layout.{draft_bytes, step_bytes, front, back, index_bytes, or_none}

-- ---- elements that may not be there
-- a draft, a step
pub or_closed_lem : (ds : List Draft) (d : ℕ) → or_closed (slice_get ds d) ≡ get_or ds d closed
or_closed_lem [] d = refl
or_closed_lem (x ∷ ds) zero = refl
or_closed_lem (x ∷ ds) (suc d) = or_closed_lem ds d

pub or_none_lem : (ss : List (List Copy)) (s : ℕ) → or_none (slice_get ss s) ≡ get_or ss s []
or_none_lem [] s = refl
or_none_lem (x ∷ ss) zero = refl
or_none_lem (x ∷ ss) (suc s) = or_none_lem ss s

-- ---- lengths
-- four bytes a draft, two a step
pub draft_wide : (d : Draft) → length (draft_bytes d) ≡ 4
draft_wide closed = refl
draft_wide (working ks stale) = refl

pub step_wide : (ks : List Copy) → length (step_bytes ks) ≡ 2
step_wide ks = refl

drafts_length : (ds : List Draft) → length (flat draft_bytes ds) ≡ length ds * 4
drafts_length ds = flat_length draft_bytes 4 draft_wide ds

steps_length : (ss : List (List Copy)) → length (flat step_bytes ss) ≡ length ss * 2
steps_length ss = flat_length step_bytes 2 step_wide ss

-- block 0 is a block
pub index_length : (b : Book) → length b.drafts ≡ 4 → length b.history.kept ≤ steps_most → length (index_bytes b) ≡ block_length
unfolding index_bytes
index_length b four sixteen =
    let d = drafts_length b.drafts in
    let s = steps_length b.history.kept in
    let z = length-replicate {A = ℕ} (480 - 2 * length b.history.kept) 0 in
    simp length-append (omega arith)

-- ---- before the drafts
-- bytes 0..3
pub index_issue : (b : Book) → b.issue < 4294967296 → number_at (index_bytes b) 0 ≡ b.issue
unfolding index_bytes
index_issue b h = number_forth b.issue h

-- byte 4
pub index_count : (b : Book) → get_or (index_bytes b) 4 0 ≡ length b.segments
unfolding index_bytes
index_count b = refl

-- bytes 5..7
pub index_gap : (b : Book) (i : ℕ) → 5 ≤ i → i < 8 → get_or (index_bytes b) i 0 ≡ 0
unfolding index_bytes
index_gap b i h g =
    by_order i 6
    (λ l. let e : i ≡ 5 = omega arith in ap (λ (j : ℕ). get_or (index_bytes b) j 0) e)
    (λ l. by_order i 7 (λ m. let e : i ≡ 6 = omega arith in ap (λ (j : ℕ). get_or (index_bytes b) j 0) e) (λ m. let e : i ≡ 7 = omega arith in ap (λ (j : ℕ). get_or (index_bytes b) j 0) e))

module _ (b : Book) (four : length b.drafts ≡ 4) where
  drafts_16 : length (flat draft_bytes b.drafts) ≡ 16
  drafts_16 = drafts_length b.drafts ∙ ap (λ (n : ℕ). n * 4) four

  -- bytes 8 + 4 * d .. of draft d
  pub index_draft : (d j : ℕ) → d < 4 → j < 4 → get_or (index_bytes b) (8 + 4 * d + j) 0 ≡ get_or (draft_bytes (get_or b.drafts d closed)) j 0
  unfolding index_bytes
  index_draft d j h g =
      let f : List ℕ = flat draft_bytes b.drafts in
      let w = drafts_16 in
      let e : 8 + 4 * d + j ≡ 8 + (d * 4 + j) = omega arith in
      ap (λ (n : ℕ). get_or (front b ++ (f ++ back b)) n 0) e
      ∙ get_or-append-add (front b) (f ++ back b) (d * 4 + j) 0
      ∙ get_or-append f (back b) 0 (d * 4 + j) (omega arith)
      ∙ flat_get draft_bytes 4 draft_wide 0 closed b.drafts d j (omega arith) g

  -- byte 24 + j is byte j of what follows the drafts
  pub back_at : (j : ℕ) → get_or (index_bytes b) (24 + j) 0 ≡ get_or (back b) j 0
  unfolding index_bytes
  back_at j =
      let f : List ℕ = flat draft_bytes b.drafts in
      let e : 24 + j ≡ 8 + (length f + j) = omega (arith, drafts_16) in
      ap (λ (n : ℕ). get_or (front b ++ (f ++ back b)) n 0) e
      ∙ get_or-append-add (front b) (f ++ back b) (length f + j) 0
      ∙ get_or-append-add f (back b) j 0

  -- byte 24
  pub index_steps : get_or (index_bytes b) 24 0 ≡ length b.history.kept
  index_steps = back_at 0

  -- bytes 25..31
  pub index_mid : (i : ℕ) → 25 ≤ i → i < 32 → get_or (index_bytes b) i 0 ≡ 0
  index_mid i h g =
      let u : List ℕ = flat step_bytes b.history.kept in
      let e : i ≡ 24 + suc (i - 25) = omega arith in
      ap (λ (n : ℕ). get_or (index_bytes b) n 0) e ∙ back_at (suc (i - 25))
      ∙ get_or-append (replicate 7 0) (u ++ replicate (480 - 2 * length b.history.kept) 0) 0 (i - 25) (omega arith)
      ∙ get_or-replicate 7 (i - 25) 0 0 (omega arith)

  -- what follows the steps
  pub index_rest : length b.history.kept ≤ steps_most → (i : ℕ) → 32 + 2 * length b.history.kept ≤ i → i < 512 → get_or (index_bytes b) i 0 ≡ 0
  index_rest sixteen i h g =
      let ss : List (List Copy) = b.history.kept in
      let u : List ℕ = flat step_bytes ss in
      let w : length u ≡ length ss * 2 = steps_length ss in
      let m : ℕ = i - 32 - length u in
      let e : i ≡ 24 + (8 + (length u + m)) = omega arith in
      ap (λ (n : ℕ). get_or (index_bytes b) n 0) e ∙ back_at (8 + (length u + m))
      ∙ get_or-append-add (length ss ∷ replicate 7 0) (u ++ replicate (480 - 2 * length ss) 0) (length u + m) 0
      ∙ get_or-append-add u (replicate (480 - 2 * length ss) 0) m 0
      ∙ get_or-replicate (480 - 2 * length ss) m 0 0 (omega arith)

  -- bytes 32 + 2 * s .. of step s, zeros if there is none
  pub index_step : length b.history.kept ≤ steps_most → (s j : ℕ) → s < 240 → j < 2
      → get_or (index_bytes b) (32 + 2 * s + j) 0 ≡ get_or (step_bytes (get_or b.history.kept s [])) j 0
  index_step sixteen s j h g =
      let ss : List (List Copy) = b.history.kept in
      let u : List ℕ = flat step_bytes ss in
      let w : length u ≡ length ss * 2 = steps_length ss in
      by_order s (length ss)
      (λ l. let e : 32 + 2 * s + j ≡ 24 + (8 + (s * 2 + j)) = omega arith in
      ap (λ (n : ℕ). get_or (index_bytes b) n 0) e ∙ back_at (8 + (s * 2 + j))
      ∙ get_or-append-add (length ss ∷ replicate 7 0) (u ++ replicate (480 - 2 * length ss) 0) (s * 2 + j) 0
      ∙ get_or-append u (replicate (480 - 2 * length ss) 0) 0 (s * 2 + j) (omega arith)
      ∙ flat_get step_bytes 2 step_wide 0 [] ss s j l g)
      (λ l. let a : get_or (step_bytes []) j 0 ≡ 0 = no_step_lem j in
      index_rest sixteen (32 + 2 * s + j) (omega arith) (omega arith)
      ∙ sym (ap (λ (x : List Copy). get_or (step_bytes x) j 0) (get_or-eq_default ss [] l) ∙ a))
    where
      no_step_lem : (j : ℕ) → get_or (step_bytes []) j 0 ≡ 0
      no_step_lem zero = refl
      no_step_lem (suc zero) = refl
      no_step_lem (suc (suc j)) = refl
