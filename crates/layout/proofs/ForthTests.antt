-- The bytes of a fine draft and of a fine step pass their tests. Assumes nothing.
use mathlib.Core.Path.{◌≡◌, refl}
use mathlib.Core.Bool.{Bool, true, false, or-true}
use mathlib.Core.List.{List, [], ◌∷◌}
use Prim.Native.Nat.{ℕ, zero, suc, ◌+◌, ◌≤◌, ◌<◌}
use native.Mathlib.Omega.{arith}
use lib.ListN.{get_or}
use Rattle.std.specs.Prelude.{slice_get}
use lib.Dec.{leb, eqb}
use borrow.Author.Tests.{lt-ltb, le-leb}
use Rattle.laws.proofs.Lists.{all_head, all_tail}
use Rattle.laws.proofs.Tests.{or_no}
use Rattle.steps.specs.Book.{Copy, Draft, closed, working}
use Rattle.steps.specs.Calls.{has}
use Rattle.layout.specs.Layout.{segment_of, bit, draft_bytes, step_bytes, copies_of}
use Rattle.layout.specs.Sound.{FineCopy, Distinct, first_once, UpCopies, one_up, FineDraft, working_fine, FineStep}
use Rattle.layout.specs.Tests.{is_draft, is_step}
use Rattle.layout.proofs.ForthSaid.{number_not}

-- ---- tests
-- a stale byte is 0 or 1
stale_low : (t : Bool) → leb (bit t) 1 ≡ true
stale_low true = refl
stale_low false = refl

-- a draft that has taken nothing is not stale
no_stale : (t : Bool) → (t ≡ true → 1 ≤ 0) → t ≡ false
no_stale true f = absurd (omega (arith, f refl))
no_stale false f = refl

-- copies of two segments differ, and ascend
differ : {k m : Copy} {ks : List Copy} → Distinct (k ∷ m ∷ ks) → eqb k.segment m.segment ≡ false
unfolding has
differ {k} {m} {ks} (first_once e d) = (or_no (eqb k.segment m.segment) (has k.segment ks) e).0

climb : {k m : Copy} {ks : List Copy} → UpCopies (k ∷ m ∷ ks) → k.segment < m.segment
climb (one_up a u) = all_head a

-- ---- the bytes
-- of a fine draft
pub draft_passes : (issue n : ℕ) (x : Draft) → FineDraft issue n x
    → is_draft n (get_or (draft_bytes x) 0 0) (get_or (draft_bytes x) 1 0) (get_or (draft_bytes x) 2 0) (get_or (draft_bytes x) 3 0) ≡ true
unfolding is_draft
draft_passes issue n closed f = refl
draft_passes issue n (working [] stale) (working_fine t) = rw (no_stale stale t.taken, le-leb 0 n (omega arith))
draft_passes issue n (working (k ∷ []) stale) (working_fine t) =
    let f : FineCopy issue n k = all_head t.copies in
    rw (le-leb k.segment n f.to, le-leb 0 n (omega arith), stale_low stale, number_not f) (or-true (eqb (bit stale) 0))
draft_passes issue n (working (k ∷ m ∷ []) stale) (working_fine t) =
    let f : FineCopy issue n k = all_head t.copies in
    let g : FineCopy issue n m = all_head (all_tail t.copies) in
    rw (le-leb k.segment n f.to, le-leb m.segment n g.to, stale_low stale, number_not f, number_not g, differ t.distinct) (or-true (eqb (bit stale) 0))
draft_passes issue n (working (k ∷ m ∷ o ∷ ks) stale) (working_fine t) = absurd (omega (arith, t.two))

-- of a fine step
pub step_passes : (issue n : ℕ) (ks : List Copy) → FineStep issue n ks → is_step n (get_or (step_bytes ks) 0 0) (get_or (step_bytes ks) 1 0) ≡ true
unfolding is_step
step_passes issue n [] t = absurd (omega (arith, t.one))
step_passes issue n (k ∷ []) t =
    let f : FineCopy issue n k = all_head t.copies in
    rw (le-leb 1 k.segment f.from, le-leb k.segment n f.to)
step_passes issue n (k ∷ m ∷ []) t =
    let f : FineCopy issue n k = all_head t.copies in
    let g : FineCopy issue n m = all_head (all_tail t.copies) in
    rw (le-leb 1 k.segment f.from, le-leb k.segment n f.to, number_not g, lt-ltb k.segment m.segment (climb t.up), le-leb m.segment n g.to)
step_passes issue n (k ∷ m ∷ o ∷ ks) t = absurd (omega (arith, t.two))

-- the segments that the bytes of a draft and of a step name
pub draft_number : (x : Draft) (j : ℕ) → j < 2 → get_or (draft_bytes x) (1 + j) 0 ≡ segment_of (slice_get (copies_of x) j)
draft_number closed zero h = refl
draft_number closed (suc zero) h = refl
draft_number closed (suc (suc j)) h = absurd (omega arith)
draft_number (working ks stale) zero h = refl
draft_number (working ks stale) (suc zero) h = refl
draft_number (working ks stale) (suc (suc j)) h = absurd (omega arith)

pub step_number : (ks : List Copy) (j : ℕ) → j < 2 → get_or (step_bytes ks) j 0 ≡ segment_of (slice_get ks j)
step_number ks zero h = refl
step_number ks (suc zero) h = refl
step_number ks (suc (suc j)) h = absurd (omega arith)
