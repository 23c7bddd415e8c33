-- The bytes of a sound book's drafts and steps are those that it has, and each copy is held where block 0 names a segment. Assumes nothing.
use mathlib.Core.Path.{◌≡◌, refl, sym, ap, ap₂, ◌∙◌}
use mathlib.Core.Bool.{Bool, cond}
use mathlib.Core.List.{List, [], ◌∷◌}
use Rattle.std.specs.Prelude.{Option, None, Some}
use Prim.Native.Nat.{ℕ, zero, suc, ◌+◌, ◌*◌, ◌≤◌, ◌<◌}
use native.Mathlib.Omega.{arith}
use lib.ListN.{get_or}
use Rattle.std.specs.Prelude.{slice_get}
use lib.Dec.{eqb, ltb}
use borrow.Author.Tests.{lt-ltb, le-ltb}
use Rattle.laws.proofs.Tests.{by_order, impossible}
use Rattle.codes.specs.Block.{Content}
use Rattle.blocks.specs.Block.{block_of}
use Rattle.blocks.specs.Content.{content_of}
use Rattle.layout.specs.Layout.{segment_of, bit, draft_bytes, step_bytes, copies_of, held_of, copies_at, draft_of, step_of}
use Rattle.layout.proofs.Says.{DraftSays, shut, bare, one, two, StepSays, single, pair}
use Rattle.layout.proofs.Parts.{Parts, draft_cases, step_cases}
use Rattle.layout.proofs.Said.{copies_none, copies_one, copies_two, draft_shut, draft_open}

-- ---- the segments that copies name
first_named : (l : List ℕ) (first second k : ℕ) → segment_of (slice_get (copies_at l first second k) 0) ≡ first
first_named l first second k =
    by_order first 1 (λ h. let z : first ≡ 0 = omega arith in rw (copies_none l first second k z) (sym z))
    (λ h. by_order second 1 (λ g. let z : second ≡ 0 = omega arith in rw (copies_one l first second k h z)) (λ g. rw (copies_two l first second k h g)))

-- a second one needs a first
second_named : (l : List ℕ) (first second k : ℕ) → (first ≡ 0 → second ≡ 0) → segment_of (slice_get (copies_at l first second k) 1) ≡ second
second_named l first second k needs =
    by_order first 1 (λ h. let z : first ≡ 0 = omega arith in rw (copies_none l first second k z) (sym (needs z)))
    (λ h. by_order second 1 (λ g. let z : second ≡ 0 = omega arith in rw (copies_one l first second k h z) (sym z)) (λ g. rw (copies_two l first second k h g)))

-- ---- what the blocks of copies hold
-- something, or nothing
abbrev pub held_when : Bool → Content → Option Content
held_when t c = cond t (Some c) None

first_held : (l : List ℕ) (first second k : ℕ) → held_of (slice_get (copies_at l first second k) 0) ≡ held_when (ltb 0 first) (content_of (block_of k l))
first_held l first second k =
    by_order first 1 (λ h. let z : first ≡ 0 = omega arith in rw (copies_none l first second k z, le-ltb 0 first (omega arith)))
    (λ h. by_order second 1 (λ g. let z : second ≡ 0 = omega arith in rw (copies_one l first second k h z, lt-ltb 0 first h))
    (λ g. rw (copies_two l first second k h g, lt-ltb 0 first h)))

second_held : (l : List ℕ) (first second k : ℕ) → (first ≡ 0 → second ≡ 0)
    → held_of (slice_get (copies_at l first second k) 1) ≡ held_when (ltb 0 second) (content_of (block_of (suc k) l))
second_held l first second k needs =
    by_order first 1 (λ h. let z : first ≡ 0 = omega arith in let y = needs z in rw (copies_none l first second k z, le-ltb 0 second (omega arith)))
    (λ h. by_order second 1 (λ g. let z : second ≡ 0 = omega arith in rw (copies_one l first second k h z, le-ltb 0 second (omega arith)))
    (λ g. rw (copies_two l first second k h g, lt-ltb 0 second g)))

-- copy r of those that bytes o and o + 1 name, in blocks k and k + 1
pub copy_held : (l : List ℕ) (o o' k r : ℕ) → o' ≡ o + 1 → (get_or l o 0 ≡ 0 → get_or l o' 0 ≡ 0) → r < 2
    → held_of (slice_get (copies_at l (get_or l o 0) (get_or l o' 0) k) r) ≡ held_when (ltb 0 (get_or l (o + r) 0)) (content_of (block_of (k + r) l))
copy_held l o o' k zero e needs h =
    let p : o ≡ o + 0 = omega arith in
    let q : k ≡ k + 0 = omega arith in
    first_held l (get_or l o 0) (get_or l o' 0) k ∙ ap₂ (λ (i j : ℕ). held_when (ltb 0 (get_or l i 0)) (content_of (block_of j l))) p q
copy_held l o o' k (suc zero) e needs h =
    let p : suc k ≡ k + 1 = omega arith in
    second_held l (get_or l o 0) (get_or l o' 0) k needs ∙ ap₂ (λ (i j : ℕ). held_when (ltb 0 (get_or l i 0)) (content_of (block_of j l))) e p
copy_held l o o' k (suc (suc r)) e needs h = impossible (omega arith)

-- ---- drafts
-- a second copy needs a first
pub second_needs : {n isOpen first second stale : ℕ} → DraftSays n isOpen first second stale → first ≡ 0 → second ≡ 0
second_needs (shut o f s t) z = s
second_needs (bare o f s t) z = s
second_needs (one o f m s t) z = s
second_needs (two o f m s k d t) z = impossible (omega arith)

-- an open draft's byte, and a stale one's
bit_is : (n : ℕ) → n ≤ 1 → bit (eqb n 1) ≡ n
bit_is zero h = refl
bit_is (suc zero) h = refl
bit_is (suc (suc n)) h = impossible (omega arith)

module _ (l : List ℕ) (d : ℕ) where
  -- the four bytes of draft d
  abbrev o : ℕ
  o = get_or l (8 + 4 * d) 0

  abbrev f : ℕ
  f = get_or l (9 + 4 * d) 0

  abbrev s : ℕ
  s = get_or l (10 + 4 * d) 0

  abbrev t : ℕ
  t = get_or l (11 + 4 * d) 0

  open_bytes : o ≡ 1 → t ≤ 1 → (f ≡ 0 → s ≡ 0) → draft_bytes (draft_of l d) ≡ o ∷ f ∷ s ∷ t ∷ []
  open_bytes e h needs =
      ap draft_bytes (draft_open l d e)
      ∙ rw (first_named l f s (9 + 2 * d), second_named l f s (9 + 2 * d) needs, bit_is t h, e)

  bytes_by : {n : ℕ} → DraftSays n o f s t → draft_bytes (draft_of l d) ≡ o ∷ f ∷ s ∷ t ∷ []
  bytes_by (shut e1 e2 e3 e4) = ap draft_bytes (draft_shut l d e1) ∙ rw (e1, e2, e3, e4)
  bytes_by (bare e1 e2 e3 e4) = open_bytes e1 (omega arith) (λ z. e3)
  bytes_by (one e1 h1 h2 e3 h4) = open_bytes e1 h4 (λ z. e3)
  bytes_by (two e1 h1 h2 h3 h4 n h5) = open_bytes e1 h5 (λ z. omega arith)

  copies_by : {n : ℕ} → DraftSays n o f s t → copies_of (draft_of l d) ≡ copies_at l f s (9 + 2 * d)
  copies_by (shut e1 e2 e3 e4) = ap copies_of (draft_shut l d e1) ∙ sym (copies_none l f s (9 + 2 * d) e2)
  copies_by (bare e1 e2 e3 e4) = ap copies_of (draft_open l d e1)
  copies_by (one e1 h1 h2 e3 h4) = ap copies_of (draft_open l d e1)
  copies_by (two e1 h1 h2 h3 h4 n h5) = ap copies_of (draft_open l d e1)

  -- they are its bytes
  pub draft_bytes_lem : Parts l → d < 4 → draft_bytes (draft_of l d) ≡ o ∷ f ∷ s ∷ t ∷ []
  draft_bytes_lem p h = bytes_by (draft_cases l p d h)

  -- its copies
  pub draft_copies : Parts l → d < 4 → copies_of (draft_of l d) ≡ copies_at l f s (9 + 2 * d)
  draft_copies p h = copies_by (draft_cases l p d h)

-- ---- steps
-- a step has a first segment
pub step_needs : {n first second : ℕ} → StepSays n first second → first ≡ 0 → second ≡ 0
step_needs (single h g e) z = e
step_needs (pair h g k) z = impossible (omega arith)

-- a step's segments are its bytes
pub step_bytes_lem : (l : List ℕ) → Parts l → (s : ℕ) → s < get_or l 24 0 → step_bytes (step_of l s) ≡ get_or l (32 + 2 * s) 0 ∷ get_or l (33 + 2 * s) 0 ∷ []
unfolding step_of
step_bytes_lem l p s h =
    let a : ℕ = get_or l (32 + 2 * s) 0 in
    let b : ℕ = get_or l (33 + 2 * s) 0 in
    rw (first_named l a b (17 + 2 * s), second_named l a b (17 + 2 * s) (step_needs (step_cases l p s h)))
