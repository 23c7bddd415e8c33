-- Bits of words: of `and` and `or`, and of masks. Assumes nothing.
use Prim.Native.Nat.{ℕ, suc, ◌+◌, ◌-◌, ◌*◌, ◌/◌, ◌%◌, ◌^◌, ◌≤◌, ◌<◌, min, max}
use native.Mathlib.Omega.{arith}
use native.Mathlib.Nat.{div-eq_of_lt, lt_of_lt_of_le, mod-lt, mul_assoc, mul-one, zero-add}
use mathlib.Core.Path.{◌≡◌, refl, sym, ap, ◌∙◌}
use lib.Arith.{bin_ind, digits_mod}
use lib.Bits.{bit_and, bit_or, and_step, or_step, and_shr, or_shr, shifted_even}
use lib.Dec.{eqb}
use lib.Pow.{pow-add, pow_mono, pow_pos, shl_lt, shl-shr, shr-shr, shr_le, high, low, field, mod-mod-pow, ones_lt, ones_split}
use borrow.Author.Tests.{eqb-true, eqb-false}
use Rattle.laws.proofs.Tests.{by, by_order, impossible}
use Rattle.repeats.specs.Marks.{bit_at, Mask}

-- ---- `and`, `or`
pub bit_low : (w i : ℕ) → bit_at w i ≤ 1
unfolding bit_at
bit_low w i = omega arith

and_bit : (a b i : ℕ) → bit_at (bit_and a b) i ≡ min (bit_at a i) (bit_at b i)
unfolding bit_at
and_bit a b i =
    ap (λ (x : ℕ). x % 2) (and_shr a b i ∙ and_step (a / 2 ^ i) (b / 2 ^ i))
    ∙ digits_mod (bit_and (a / 2 ^ i / 2) (b / 2 ^ i / 2)) (omega arith)

or_bit : (a b i : ℕ) → bit_at (bit_or a b) i ≡ max (bit_at a i) (bit_at b i)
unfolding bit_at
or_bit a b i =
    ap (λ (x : ℕ). x % 2) (or_shr a b i ∙ or_step (a / 2 ^ i) (b / 2 ^ i))
    ∙ digits_mod (bit_or (a / 2 ^ i / 2) (b / 2 ^ i / 2)) (omega arith)

pub or_set : (a b i : ℕ) → bit_at b i ≡ 1 → bit_at (bit_or a b) i ≡ 1
or_set a b i h = omega (arith, or_bit a b i, bit_low a i)

pub or_kept : (a b i : ℕ) → bit_at b i ≡ 0 → bit_at (bit_or a b) i ≡ bit_at a i
or_kept a b i h = omega (arith, or_bit a b i)

-- no bit in common, or one
pub and_none : (a b i : ℕ) → bit_and a b ≡ 0 → bit_at b i ≡ 1 → bit_at a i ≡ 0
unfolding bit_at
and_none a b i e h =
    let z : bit_at (bit_and a b) i ≡ 0 = rw e (omega (arith, shr_le 0 i)) in
    omega (arith, and_bit a b i, bit_low a i)

some_bit : (n : ℕ) → (n ≡ 0 → ⊥) → (i : ℕ) × (bit_at n i ≡ 1)
unfolding bit_at
some_bit =
    bin_ind (λ (n : ℕ). (n ≡ 0 → ⊥) → (i : ℕ) × (n / 2 ^ i % 2 ≡ 1)) (λ h. impossible (h refl))
    λ n rest h. by (eqb (n / 2) 0)
    (λ e. let z = eqb-true (n / 2) 0 e in by_order 0 n (λ k. (0, omega arith)) (λ k. impossible (h (omega arith))))
    λ e. let j = rest (eqb-false (n / 2) 0 e) in
    (1 + j.0, ap (λ (x : ℕ). x % 2) (sym (shr-shr n 1 j.0)) ∙ j.1)

pub record Common (a b : ℕ) : Type 0 where
  pub place : ℕ
  pub left : bit_at a place ≡ 1
  pub right : bit_at b place ≡ 1

pub and_some : (a b : ℕ) → (bit_and a b ≡ 0 → ⊥) → Common a b
and_some a b h =
    let j = some_bit (bit_and a b) h in
    let e = and_bit a b j.0 in
    record { place = j.0; left = omega (arith, e, j.1, bit_low a j.0); right = omega (arith, e, j.1, bit_low b j.0) }

-- ---- masks
ones_shift : (j k : ℕ) → (2 ^ (j + k) - 1) / 2 ^ k ≡ 2 ^ j - 1
ones_shift j k = ap (λ (x : ℕ). x / 2 ^ k) (ones_split j k) ∙ high (2 ^ j - 1) k (ones_lt k)

ones_odd : (j : ℕ) → (2 ^ (j + 1) - 1) % 2 ≡ 1
ones_odd j = ap (λ (x : ℕ). x % 2) (ones_split j 1) ∙ low (2 ^ j - 1) 1 (ones_lt 1)

none_above : (w k i : ℕ) → w < 2 ^ k → k ≤ i → bit_at w i ≡ 0
unfolding bit_at
none_above w k i h l = ap (λ (x : ℕ). x % 2) (div-eq_of_lt (lt_of_lt_of_le h (pow_mono l)))

-- n + 1 ones from bit f up
module _ (n f : ℕ) where
  abbrev ones : ℕ
  ones = 2 ^ (n + 1) - 1

  ones_inside : (i : ℕ) → f ≤ i → i ≤ f + n → bit_at (ones * 2 ^ f) i ≡ 1
  unfolding bit_at
  ones_inside i h k =
      let here : f + (i - f) ≡ i = omega arith in
      let more : (f + n - i + 1) + (i - f) ≡ n + 1 = omega arith in
      ap (λ (x : ℕ). ones * 2 ^ f / 2 ^ x % 2) (sym here)
      ∙ ap (λ (x : ℕ). x % 2) (sym (shr-shr (ones * 2 ^ f) f (i - f)) ∙ ap (λ (x : ℕ). x / 2 ^ (i - f)) (shl-shr ones f))
      ∙ ap (λ (x : ℕ). (2 ^ x - 1) / 2 ^ (i - f) % 2) (sym more)
      ∙ ap (λ (x : ℕ). x % 2) (ones_shift (f + n - i + 1) (i - f))
      ∙ ones_odd (f + n - i)

  ones_below : (i : ℕ) → i < f → bit_at (ones * 2 ^ f) i ≡ 0
  unfolding bit_at
  ones_below i h =
      let d : ℕ = f - i - 1 in
      let here : suc d + i ≡ f = omega arith in
      ap (λ (x : ℕ). ones * 2 ^ x / 2 ^ i % 2) (sym here)
      ∙ ap (λ (x : ℕ). x / 2 ^ i % 2) (ap (λ (x : ℕ). ones * x) (pow-add 2 (suc d) i) ∙ sym (mul_assoc ones (2 ^ suc d) (2 ^ i)))
      ∙ ap (λ (x : ℕ). x % 2) (shl-shr (ones * 2 ^ suc d) i)
      ∙ shifted_even ones d

  ones_mask : Mask (ones * 2 ^ f) f (f + n)
  ones_mask =
      record {
        inside = ones_inside;
        below = ones_below;
        above = λ i h. none_above (ones * 2 ^ f) (n + 1 + f) i (shl_lt (n + 1) f (ones_lt (n + 1))) (omega arith);
      }

-- a word has 64 bits
cut_bit : (w i : ℕ) → i ≤ 63 → bit_at (w % 2 ^ 64) i ≡ bit_at w i
unfolding bit_at
cut_bit w i h =
    let e : (63 - i + 1) + i ≡ 64 = omega arith in
    ap (λ (x : ℕ). w % 2 ^ x / 2 ^ i % 2) (sym e)
    ∙ ap (λ (x : ℕ). x % 2) (field w (63 - i + 1) i)
    ∙ mod-mod-pow (w / 2 ^ i) (63 - i) 1

abbrev pub all_bits : ℕ
all_bits = 18446744073709551615

pub mask_all : Mask all_bits 0 63
mask_all = ones_mask 63 0

pub mask_from : (from : ℕ) → from < 64 → Mask (all_bits * 2 ^ from % 18446744073709551616) from 63
mask_from from h =
    let m : Mask (all_bits * 2 ^ from) from (from + 63) = ones_mask 63 from in
    record {
      inside = λ i l k. cut_bit (all_bits * 2 ^ from) i k ∙ m.inside i l (omega arith);
      below = λ i l. cut_bit (all_bits * 2 ^ from) i (omega arith) ∙ m.below i l;
      above = λ i l. none_above (all_bits * 2 ^ from % 2 ^ 64) 64 i (mod-lt (all_bits * 2 ^ from) (pow_pos 64)) l;
    }

pub mask_to : (to : ℕ) → to < 64 → Mask (all_bits / 2 ^ (63 - to)) 0 to
mask_to to h =
    let e : to + 1 + (63 - to) ≡ 64 = omega arith in
    let w : all_bits / 2 ^ (63 - to) ≡ 2 ^ (to + 1) - 1 = ap (λ (x : ℕ). (2 ^ x - 1) / 2 ^ (63 - to)) (sym e) ∙ ones_shift (to + 1) (63 - to) in
    rw w (rw (mul-one (2 ^ (to + 1) - 1), zero-add to) at (ones_mask to 0))

pub mask_both : (a b from to : ℕ) → Mask a from 63 → Mask b 0 to → to < 64 → Mask (bit_and a b) from to
mask_both a b from to m n h =
    record {
      inside = λ i l k. omega (arith, and_bit a b i, m.inside i l (omega arith), n.inside i (omega arith) k);
      below = λ i l. omega (arith, and_bit a b i, m.below i l);
      above = λ i l. omega (arith, and_bit a b i, n.above i l);
    }
