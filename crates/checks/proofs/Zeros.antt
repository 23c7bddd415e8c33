-- Zeros: the test and each byte, the scan of a part, a list filled with zeros. Assumes nothing.
use mathlib.Core.Path.{◌≡◌, refl, sym, ap, ◌∙◌}
use mathlib.Core.Bool.{true, ◌&&◌, and-true, and_assoc}
use mathlib.Core.List.{List, [], ◌∷◌}
use Prim.Native.Nat.{ℕ, zero, suc, ◌+◌, ◌-◌, ◌≤◌, ◌<◌}
use native.Mathlib.Omega.{arith}
use lib.Bits.{bit_or, bit_and, or_add_and, and_le_l, and_le_r}
use lib.ListN.{length, drop, length-take, get_or, replicate, length-replicate, get_or-replicate}
use Rattle.std.specs.List.{slice_range}
use lib.Seq.{get_or-take, get_or-drop, ext_get_or}
use lib.Dec.{eqb}
use Rattle.std.specs.List.{fold}
use borrow.Author.Tests.{eqb-true, eq-eqb}
use Rattle.laws.proofs.Tests.{by_order, same_test, and_left, and_right}
use Rattle.checks.specs.Seal.{all_zero}

-- ---- the test
-- the test, and each byte
pub all_zero_at : (l : List ℕ) → all_zero l ≡ true → (i : ℕ) → get_or l i 0 ≡ 0
unfolding all_zero
all_zero_at [] h i = refl
all_zero_at (x ∷ xs) h zero = eqb-true x 0 (and_left (eqb x 0) (all_zero xs) h)
all_zero_at (x ∷ xs) h (suc i) = all_zero_at xs (and_right (eqb x 0) (all_zero xs) h) i

pub all_zero_of : (l : List ℕ) → ((i : ℕ) → i < length l → get_or l i 0 ≡ 0) → all_zero l ≡ true
unfolding all_zero
all_zero_of [] z = refl
all_zero_of (x ∷ xs) z = rw (eq-eqb x 0 (z 0 (omega arith))) (all_zero_of xs (λ i h. z (suc i) (omega arith)))

-- the test of a part, and each of its bytes
pub zero_in : (f t : ℕ) (l : List ℕ) → all_zero (slice_range l f t) ≡ true → (i : ℕ) → f ≤ i → i < t → get_or l i 0 ≡ 0
zero_in f t l h i g k =
    let e : f + (i - f) ≡ i = omega arith in
    ap (λ (j : ℕ). get_or l j 0) (sym e) ∙ sym (get_or-take (t - f) (drop f l) (i - f) 0 (omega arith) ∙ get_or-drop f l (i - f) 0)
    ∙ all_zero_at (slice_range l f t) h (i - f)

pub slice_zero : (f t : ℕ) (l : List ℕ) → t ≤ length l → ((i : ℕ) → f ≤ i → i < t → get_or l i 0 ≡ 0) → all_zero (slice_range l f t) ≡ true
slice_zero f t l k z =
    all_zero_of (slice_range l f t)
    (λ i h. let g : i < t - f = omega (arith, length-take {A = ℕ}) in
    get_or-take (t - f) (drop f l) i 0 g ∙ get_or-drop f l i 0 ∙ z (f + i) (omega arith) (omega arith))

-- a part is zeros if both its parts are, which may have bytes in common
pub zero_join : (f n m t : ℕ) (l : List ℕ) → f ≤ n → n ≤ m → m ≤ t → t ≤ length l
    → (all_zero (slice_range l f m) && all_zero (slice_range l n t)) ≡ all_zero (slice_range l f t)
zero_join f n m t l h j k w =
    let front = all_zero (slice_range l f m) in
    let back = all_zero (slice_range l n t) in
    same_test (front && back) (all_zero (slice_range l f t))
    (λ e. slice_zero f t l w
    (λ i p q. by_order i m (λ r. zero_in f m l (and_left front back e) i p r) (λ r. zero_in n t l (and_right front back e) i (omega arith) q)))
    (λ e. let z : (i : ℕ) → f ≤ i → i < t → get_or l i 0 ≡ 0 = zero_in f t l e in
    rw (slice_zero f m l (omega arith) (λ i p q. z i p (omega arith)), slice_zero n t l w (λ i p q. z i (omega arith) q)))

-- a list of zeros is that many zeros
pub zeros_ext : (m : ℕ) (l : List ℕ) → length l ≡ m → ((i : ℕ) → i < m → get_or l i 0 ≡ 0) → l ≡ replicate m 0
zeros_ext m l e h =
    ext_get_or 0 l (replicate m 0) (e ∙ sym (length-replicate m 0)) (λ i k. let g : i < m = omega arith in h i g ∙ sym (get_or-replicate m i 0 0 g))

-- ---- the scan of a list
-- no bit is set in either of two numbers
pub or_zero : (x y : ℕ) → eqb (bit_or x y) 0 ≡ (eqb x 0 && eqb y 0)
or_zero x y =
    same_test (eqb (bit_or x y) 0) (eqb x 0 && eqb y 0)
    (λ h. let e : bit_or x y ≡ 0 = eqb-true (bit_or x y) 0 h in
    let s : bit_or x y + bit_and x y ≡ x + y = or_add_and x y in
    let p : bit_and x y ≤ x = and_le_l x y in
    let q : bit_and x y ≤ y = and_le_r x y in
    rw (eq-eqb x 0 (omega arith), eq-eqb y 0 (omega arith)))
    (λ h. let s : bit_or x y + bit_and x y ≡ x + y = or_add_and x y in
    let p : x ≡ 0 = eqb-true x 0 (and_left (eqb x 0) (eqb y 0) h) in
    let q : y ≡ 0 = eqb-true y 0 (and_right (eqb x 0) (eqb y 0) h) in
    eq-eqb (bit_or x y) 0 (omega arith))

-- several bytes joined are zero if each is
pub zeros_from : (l : List ℕ) (some : ℕ) → eqb (fold bit_or some l) 0 ≡ (eqb some 0 && all_zero l)
unfolding all_zero
zeros_from [] some = sym (and-true (eqb some 0))
zeros_from (x ∷ xs) some = zeros_from xs (bit_or some x) ∙ rw or_zero (and_assoc (eqb some 0) (eqb x 0) (all_zero xs))

pub zeros_joined : (l : List ℕ) → eqb (fold bit_or 0 l) 0 ≡ all_zero l
zeros_joined l = zeros_from l 0
