-- The parts that blocks hold, and what they hold after a change of one draft. Assumes nothing.
use mathlib.Core.Path.{◌≡◌, refl, ap, ◌∙◌}
use Rattle.std.specs.Prelude.{Option}
use Prim.Native.Nat.{ℕ, ◌+◌, ◌*◌, ◌-◌, ◌/◌, ◌%◌, ◌≤◌, ◌<◌}
use native.Mathlib.Omega.{arith}
use lib.ListN.{length, set}
use Rattle.std.specs.Prelude.{slice_get}
use lib.Dec.{eqb, ltb}
use borrow.Author.Tests.{eqb-true, eqb-false, ltb-false}
use Rattle.laws.proofs.Tests.{by, apart}
use Rattle.laws.proofs.Lookups.{get_same, get_other}
use Rattle.steps.specs.Book.{Draft, Book, or_closed}
use Rattle.steps.specs.Calls.{with_drafts}
use Rattle.layout.specs.Layout.{Part, segment, copy, before, part_of, copies_of, held_of, held_in}

-- ---- which block a part is
abbrev first_of : Part → ℕ
first_of (segment n) = 0
first_of (copy k n) = k
first_of (before s n) = 0

abbrev second_of_lem : Part → ℕ
second_of_lem (segment n) = 0
second_of_lem (copy k n) = n
second_of_lem (before s n) = 0

-- a block that is a draft's copy is one of the draft's two
pub block_of_copy : (i k n : ℕ) → part_of i ≡ copy k n → (i ≡ 9 + 2 * k + n) × (n < 2)
unfolding part_of
block_of_copy i k n e =
    by (ltb i 9)
    (λ t. let q : segment (i - 1) ≡ copy k n = rw t at e in apart cc)
    (λ t. by (ltb i 17)
    (λ u.
    let q : copy ((i - 9) / 2) ((i - 9) % 2) ≡ copy k n = rw (t, u) at e in
    let half : (i - 9) / 2 ≡ k = ap first_of q in
    let odd : (i - 9) % 2 ≡ n = ap second_of_lem q in
    let low : 9 ≤ i = ltb-false i 9 t in
    (omega arith, omega arith))
    (λ u. let q : before ((i - 17) / 2) ((i - 17) % 2) ≡ copy k n = rw (t, u) at e in apart cc))

module _ (b : Book) (k : ℕ) (y : Draft) (h : k < length b.drafts) where
  -- what a part holds after a change of one draft
  pub held_put : (p : Part) → ((n : ℕ) → p ≡ copy k n → held_of (slice_get (copies_of y) n) ≡ held_in b p)
      → held_in (with_drafts b (set b.drafts k y)) p ≡ held_in b p
  unfolding held_in
  held_put (segment n) same = refl
  held_put (before s n) same = refl
  held_put (copy e n) same =
      by (eqb e k)
      (λ t. let q : e ≡ k = eqb-true e k t in
      ap (λ (o : Option Draft). held_of (slice_get (copies_of (or_closed o)) n))
      (ap (λ (i : ℕ). slice_get (set b.drafts k y) i) q ∙ get_same b.drafts k y h)
      ∙ same n (ap (λ (i : ℕ). copy i n) q))
      (λ t. ap (λ (o : Option Draft). held_of (slice_get (copies_of (or_closed o)) n)) (get_other b.drafts k e y (eqb-false e k t)))

  -- of that draft's copies
  pub held_new : (n : ℕ) → held_in (with_drafts b (set b.drafts k y)) (copy k n) ≡ held_of (slice_get (copies_of y) n)
  unfolding held_in
  held_new n = ap (λ (o : Option Draft). held_of (slice_get (copies_of (or_closed o)) n)) (get_same b.drafts k y h)
