-- An unused block: zeros, whose check is 1. Its test, and its seal. Assumes nothing.
use mathlib.Core.Path.{◌≡◌, refl, sym, ap, ◌∙◌}
use mathlib.Core.Bool.{Bool, true, false, ◌&&◌, and-true, and-false}
use mathlib.Core.List.{List, [], ◌∷◌}
use Prim.Native.Nat.{ℕ, zero, suc, ◌+◌, ◌*◌, ◌/◌, ◌%◌, ◌-◌, ◌≤◌, ◌<◌}
use native.Mathlib.Nat.{ne_of_gt}
use native.Mathlib.Omega.{arith}
use lib.ListN.{length, get_or, set, drop}
use Rattle.std.specs.List.{slice_range}
use lib.Seq.{set-get_or, get_or-set_other}
use lib.Bits.{bit_or}
use lib.Dec.{eqb}
use borrow.Author.Tests.{eqb-true, eq-eqb}
use Rattle.laws.proofs.Tests.{by_order, same_test, and_left, and_right}
use Rattle.checks.specs.Seal.{block_length, sum_to, check_of, sealed, checked, all_zero}
use Rattle.checks.specs.Unused.{is_unused}
use Rattle.std.specs.List.{fold}
use Rattle.checks.proofs.Zeros.{all_zero_at, zero_in, slice_zero, or_zero, zeros_from}

-- ---- the check of zeros
sum_zero : (n : ℕ) (b : List ℕ) → ((i : ℕ) → i < n → get_or b i 0 ≡ 0) → sum_to n b ≡ 0
unfolding sum_to
sum_zero zero b z = refl
sum_zero (suc n) b z =
    let e : get_or b n 0 ≡ 0 = z n (omega arith) in
    let s : sum_to n b ≡ 0 = sum_zero n b (λ i h. z i (omega arith)) in
    rw (e, s) (omega arith)

check_zero : (b : List ℕ) → ((i : ℕ) → i < 510 → get_or b i 0 ≡ 0) → check_of b ≡ 1
unfolding check_of
check_zero b z = ap (λ (s : ℕ). (1 + s) % 65521) (sum_zero 510 b z)

-- ---- the test
-- the number 1 in two bytes
one_in : (low high : ℕ) → eqb 1 (low + 256 * high) ≡ (eqb low 1 && eqb high 0)
one_in low high =
    same_test (eqb 1 (low + 256 * high)) (eqb low 1 && eqb high 0)
    (λ h. let e : 1 ≡ low + 256 * high = eqb-true 1 (low + 256 * high) h in
    rw (eq-eqb low 1 (omega arith), eq-eqb high 0 (omega arith)))
    (λ h. let p : low ≡ 1 = eqb-true low 1 (and_left (eqb low 1) (eqb high 0) h) in
    let q : high ≡ 0 = eqb-true high 0 (and_right (eqb low 1) (eqb high 0) h) in
    eq-eqb 1 (low + 256 * high) (omega arith))

pub unused_is : (b : List ℕ) (z : Bool) → z ≡ all_zero (slice_range b 0 510) → (z && eqb (get_or b 510 0) 1 && eqb (get_or b 511 0) 0) ≡ is_unused b
unfolding is_unused checked
unused_is b true e =
    let c : check_of b ≡ 1 = check_zero b (λ i h. zero_in 0 510 b (sym e) i (omega arith) h) in
    sym (rw (c, ← e) (and-true (eqb 1 (get_or b 510 0 + 256 * get_or b 511 0)) ∙ one_in (get_or b 510 0) (get_or b 511 0)))
unused_is b false e = sym (rw (← e) (and-false (checked b)))

-- ---- the zeros, as the code looks at them: column j of eight rows of 64 bytes, of which the last begins at byte 446
pub looked : List ℕ → ℕ → List ℕ
looked b j =
    get_or b j 0 ∷ get_or b (64 + j) 0 ∷ get_or b (128 + j) 0 ∷ get_or b (192 + j) 0 ∷ get_or b (256 + j) 0
    ∷ get_or b (320 + j) 0 ∷ get_or b (384 + j) 0 ∷ get_or b (446 + j) 0 ∷ []

looked_zero : (b : List ℕ) (j : ℕ) → ((i : ℕ) → i < 510 → get_or b i 0 ≡ 0) → j < 64 → all_zero (looked b j) ≡ true
unfolding looked all_zero
looked_zero b j z h =
    rw (
      z j (omega arith),
      z (64 + j) (omega arith),
      z (128 + j) (omega arith),
      z (192 + j) (omega arith),
      z (256 + j) (omega arith),
      z (320 + j) (omega arith),
      z (384 + j) (omega arith),
      z (446 + j) (omega arith),
    )

-- every byte is in one of the columns
zero_looked : (b : List ℕ) → ((j : ℕ) → j < 64 → all_zero (looked b j) ≡ true) → (i : ℕ) → i < 510 → get_or b i 0 ≡ 0
unfolding looked
zero_looked b z i h =
    let at : (row from : ℕ) → from ≤ i → i < from + 64 → get_or (looked b (i - from)) row 0 ≡ 0 =
    λ row from g k. all_zero_at (looked b (i - from)) (z (i - from) (omega arith)) row in
    let same : (from : ℕ) → from ≤ i → get_or b (from + (i - from)) 0 ≡ 0 → get_or b i 0 ≡ 0 =
    λ from g e. let f : from + (i - from) ≡ i = omega arith in
    rw f at e in
    by_order i 64 (λ k. all_zero_at (looked b i) (z i k) 0)
    (λ g. by_order i 128 (λ k. same 64 g (at 1 64 g k))
    (λ g. by_order i 192 (λ k. same 128 g (at 2 128 g k))
    (λ g. by_order i 256 (λ k. same 192 g (at 3 192 g k))
    (λ g. by_order i 320 (λ k. same 256 g (at 4 256 g k))
    (λ g. by_order i 384 (λ k. same 320 g (at 5 320 g k))
    (λ g. by_order i 448 (λ k. same 384 g (at 6 384 g k))
    (λ g. same 446 (omega arith) (at 7 446 (omega arith) (omega arith)))))))))

-- j columns are looked at
pub record Blank (b : List ℕ) (j some : ℕ) : Type 0 where
  pub seen : eqb some 0 ≡ true → (i : ℕ) → i < j → all_zero (looked b i) ≡ true
  pub none : ((i : ℕ) → i < 510 → get_or b i 0 ≡ 0) → eqb some 0 ≡ true

module _ (b : List ℕ) (j some : ℕ) (v : Blank b j some) where
  joined_more : j < 64 → (all : ℕ) → eqb all 0 ≡ all_zero (looked b j) → Blank b (j + 1) (bit_or some all)
  joined_more h all e =
      let zero : Bool = all_zero (looked b j) in
      let o : eqb (bit_or some all) 0 ≡ (eqb some 0 && zero) = rw (← e) (or_zero some all) in
      record {
        seen = λ s i k.
            let both : (eqb some 0 && zero) ≡ true = sym o ∙ s in
            by_order i j (λ r. v.seen (and_left (eqb some 0) zero both) i r)
            (λ r. let same : i ≡ j = omega arith in
            rw same (and_right (eqb some 0) zero both));
        none = λ z. o ∙ rw (v.none z, looked_zero b j z h);
      }

  pub blank_more : j < 64 → Blank b (j + 1)
      (bit_or some (bit_or (bit_or (bit_or (bit_or (bit_or (bit_or (bit_or (get_or b j 0) (get_or b (64 + j) 0)) (get_or b (128 + j) 0)) (get_or b (192 + j) 0))
      (get_or b (256 + j) 0)) (get_or b (320 + j) 0)) (get_or b (384 + j) 0)) (get_or b (446 + j) 0)))
  unfolding looked all_zero
  blank_more h = joined_more h (fold bit_or (get_or b j 0) (drop 1 (looked b j))) (zeros_from (drop 1 (looked b j)) (get_or b j 0))

pub blank_all : (b : List ℕ) (j some : ℕ) → Blank b j some → 64 ≤ j → length b ≡ block_length → eqb some 0 ≡ all_zero (slice_range b 0 510)
blank_all b j some v h l =
    same_test (eqb some 0) (all_zero (slice_range b 0 510))
    (λ e. slice_zero 0 510 b (omega arith) (λ i p q. zero_looked b (λ k g. v.seen e k (omega arith)) i q))
    (λ e. v.none (λ i q. zero_in 0 510 b e i (omega arith) q))

-- ---- the seal of zeros
pub sealed_zero : (b : List ℕ) → ((i : ℕ) → i < 512 → get_or b i 0 ≡ 0) → sealed b ≡ set b 510 1
unfolding sealed
sealed_zero b z =
    let c : check_of b ≡ 1 = check_zero b (λ i h. z i (omega arith)) in
    let l : List ℕ = set b 510 1 in
    let e : get_or l 511 0 ≡ 0 = get_or-set_other b 510 511 1 0 (ne_of_gt (omega arith)) ∙ z 511 (omega arith) in
    ap (λ (k : ℕ). set (set b 510 (k % 256)) 511 (k / 256 % 256)) c ∙ ap (set l 511) (sym e) ∙ set-get_or l 511 0
