-- What the bytes of copies, of a draft and of a step say. Assumes nothing.
use mathlib.Core.Path.{◌≡◌, refl, ap, ◌∙◌}
use mathlib.Core.Bool.{Bool, true, false}
use mathlib.Core.List.{List, [], ◌∷◌}
use Rattle.std.specs.Prelude.{Some}
use Prim.Native.Nat.{ℕ, suc, ◌+◌, ◌*◌, ◌≤◌, ◌<◌}
use native.Mathlib.Omega.{arith}
use lib.ListN.{length, get_or}
use Rattle.std.specs.Prelude.{slice_get}
use lib.Dec.{eqb}
use borrow.Author.Tests.{ne_eqb}
use Rattle.laws.specs.Lists.{All, all_nil, all_cons}
use Rattle.blocks.specs.Block.{block_of}
use Rattle.blocks.specs.Content.{holding, content_of}
use Rattle.blocks.proofs.Contents.{content_forth}
use Rattle.steps.specs.Book.{Copy, Draft, closed, working}
use Rattle.layout.specs.Layout.{segment_of, bit, draft_bytes, step_bytes, copies_of, held_of, copies_at, draft_of, step_of}
use Rattle.layout.specs.Sound.{FineCopy, FineDraft, working_fine, FineStep}

-- a fine copy's number is not 0
pub number_not : {issue n : ℕ} {k : Copy} → FineCopy issue n k → eqb k.segment 0 ≡ false
number_not {k = k} f = ne_eqb k.segment 0 (λ e. omega (arith, f.from))

-- a fine copy's block says its content
copy_said : {issue n : ℕ} (l : List ℕ) (at : ℕ) {k : Copy} → FineCopy issue n k → block_of at l ≡ holding (Some k.held) → content_of (block_of at l) ≡ k.held
copy_said {issue} l at {k} f e = ap content_of e ∙ (content_forth issue k.held f.fine).0

-- at most two fine copies, whose blocks stand at a number
pub copies_said : (issue n : ℕ) (l : List ℕ) (ks : List Copy) (at : ℕ) → length ks ≤ 2 → All (FineCopy issue n) ks
    → block_of at l ≡ holding (held_of (slice_get ks 0)) → block_of (suc at) l ≡ holding (held_of (slice_get ks 1))
    → copies_at l (segment_of (slice_get ks 0)) (segment_of (slice_get ks 1)) at ≡ ks
unfolding copies_at
copies_said issue n l [] at h a p q = refl
copies_said issue n l (k ∷ []) at h (all_cons f all_nil) p q = rw (number_not f, copy_said l at f p)
copies_said issue n l (k ∷ m ∷ []) at h (all_cons f (all_cons g all_nil)) p q =
    rw (number_not f, number_not g, copy_said l at f p, copy_said l (suc at) g q)
copies_said issue n l (k ∷ m ∷ o ∷ ks) at h a p q = absurd (omega arith)

-- whether a draft is stale
bit_said : (t : Bool) → eqb (bit t) 1 ≡ t
bit_said true = refl
bit_said false = refl

-- the bytes and blocks of a fine draft
pub draft_said : (issue n : ℕ) (l : List ℕ) (d : ℕ) (x : Draft) → FineDraft issue n x
    → ((j : ℕ) → j < 4 → get_or l (8 + 4 * d + j) 0 ≡ get_or (draft_bytes x) j 0)
    → ((j : ℕ) → j < 2 → block_of (9 + 2 * d + j) l ≡ holding (held_of (slice_get (copies_of x) j)))
    → draft_of l d ≡ x
unfolding draft_of
draft_said issue n l d closed f bytes blocks =
    let p0 : 8 + 4 * d ≡ 8 + 4 * d + 0 = omega arith in
    let e0 : get_or l (8 + 4 * d) 0 ≡ 0 = ap (λ (i : ℕ). get_or l i 0) p0 ∙ bytes 0 (omega arith) in
    rw e0
draft_said issue n l d (working ks stale) (working_fine t) bytes blocks =
    let p0 : 8 + 4 * d ≡ 8 + 4 * d + 0 = omega arith in
    let p1 : 9 + 4 * d ≡ 8 + 4 * d + 1 = omega arith in
    let p2 : 10 + 4 * d ≡ 8 + 4 * d + 2 = omega arith in
    let p3 : 11 + 4 * d ≡ 8 + 4 * d + 3 = omega arith in
    let q0 : 9 + 2 * d ≡ 9 + 2 * d + 0 = omega arith in
    let q1 : suc (9 + 2 * d) ≡ 9 + 2 * d + 1 = omega arith in
    let e0 : get_or l (8 + 4 * d) 0 ≡ 1 = ap (λ (i : ℕ). get_or l i 0) p0 ∙ bytes 0 (omega arith) in
    let e1 : get_or l (9 + 4 * d) 0 ≡ segment_of (slice_get ks 0) = ap (λ (i : ℕ). get_or l i 0) p1 ∙ bytes 1 (omega arith) in
    let e2 : get_or l (10 + 4 * d) 0 ≡ segment_of (slice_get ks 1) = ap (λ (i : ℕ). get_or l i 0) p2 ∙ bytes 2 (omega arith) in
    let e3 : get_or l (11 + 4 * d) 0 ≡ bit stale = ap (λ (i : ℕ). get_or l i 0) p3 ∙ bytes 3 (omega arith) in
    let c : copies_at l (segment_of (slice_get ks 0)) (segment_of (slice_get ks 1)) (9 + 2 * d) ≡ ks =
    copies_said issue n l ks (9 + 2 * d) t.two t.copies
    (ap (λ (i : ℕ). block_of i l) q0 ∙ blocks 0 (omega arith))
    (ap (λ (i : ℕ). block_of i l) q1 ∙ blocks 1 (omega arith)) in
    rw (e0, e1, e2, e3, bit_said stale, c)

-- the bytes and blocks of a fine step
pub step_said : (issue n : ℕ) (l : List ℕ) (s : ℕ) (ks : List Copy) → FineStep issue n ks
    → ((j : ℕ) → j < 2 → get_or l (32 + 2 * s + j) 0 ≡ get_or (step_bytes ks) j 0)
    → ((j : ℕ) → j < 2 → block_of (17 + 2 * s + j) l ≡ holding (held_of (slice_get ks j)))
    → step_of l s ≡ ks
unfolding step_of
step_said issue n l s ks t bytes blocks =
    let p0 : 32 + 2 * s ≡ 32 + 2 * s + 0 = omega arith in
    let p1 : 33 + 2 * s ≡ 32 + 2 * s + 1 = omega arith in
    let q0 : 17 + 2 * s ≡ 17 + 2 * s + 0 = omega arith in
    let q1 : suc (17 + 2 * s) ≡ 17 + 2 * s + 1 = omega arith in
    let e0 : get_or l (32 + 2 * s) 0 ≡ segment_of (slice_get ks 0) = ap (λ (i : ℕ). get_or l i 0) p0 ∙ bytes 0 (omega arith) in
    let e1 : get_or l (33 + 2 * s) 0 ≡ segment_of (slice_get ks 1) = ap (λ (i : ℕ). get_or l i 0) p1 ∙ bytes 1 (omega arith) in
    rw (e0, e1)
    (copies_said issue n l ks (17 + 2 * s) t.two t.copies
    (ap (λ (i : ℕ). block_of i l) q0 ∙ blocks 0 (omega arith))
    (ap (λ (i : ℕ). block_of i l) q1 ∙ blocks 1 (omega arith)))
