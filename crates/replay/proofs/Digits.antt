-- A number, read digit by digit. Assumes nothing.
use Prim.Native.Nat.{ℕ, zero, suc, ◌+◌, ◌-◌, ◌*◌, ◌≤◌, ◌<◌}
use native.Mathlib.Numerals.{add-one}
use native.Mathlib.Omega.{arith}
use mathlib.Core.Path.{◌≡◌, refl, sym, ap, ◌∙◌}
use mathlib.Core.List.{List}
use mathlib.Core.Bool.{Bool, true, false}
use lib.ListN.{length, get_or, take, drop, drop_of_length-le, get_or-eq_default}
use lib.Seq.{drop-cons}
use lib.Dec.{leb}
use borrow.Author.Rules.{rules}
use borrow.Author.Tests.{leb-true}
use mir.Syntax.{w64}
use mir.Val.{Fits}
use Rattle.laws.proofs.Tests.{by_order, and_left, and_right}
use Rattle.lines.specs.Bytes.{digit}
use Rattle.replay.specs.Lines.{most_digits, decimal, digits_in_front, number_from}
use Rattle.replay.specs.declared.Number.{Number}

unfoldable pub tens : ℕ → ℕ
tens zero = 1
tens (suc n) = 10 * tens n

tens_grow : (k l : ℕ) → tens k ≤ tens (l + k)
unfolding tens
tens_grow k zero = let e : 0 + k ≡ k = omega arith in rw e (omega arith)
tens_grow k (suc l) = let h : tens k ≤ tens (l + k) = tens_grow k l in let e : suc l + k ≡ suc (l + k) = omega arith in rw e (omega arith)

tens_most : (k l : ℕ) → k + l ≡ 9 → tens k ≤ 1000000000
unfolding tens
tens_most k l e = let f : l + k ≡ 9 = omega arith in rw f at (tens_grow k l)

digit_low : (b : ℕ) → digit b ≡ true → 48 ≤ b
digit_low b e = leb-true 48 b (and_left _ _ e)

digit_high : (b : ℕ) → digit b ≡ true → b ≤ 57
digit_high b e = leb-true b 57 (and_right (leb 48 b) _ e)

-- past the end there is no digit
digit_in : (s : List ℕ) (i b : ℕ) → b ≡ get_or s i 0 → digit b ≡ true → i < length s
digit_in s i b e d =
    by_order i (length s) (λ h. h) λ h. let z : b ≡ 0 = e ∙ get_or-eq_default s 0 h in let l : 48 ≤ b = digit_low b d in omega arith

-- The digits from `from` on have the value v up to `at`, and at most `left` follow.
pub record Reads (s : List ℕ) (from v at left : ℕ) : Type 0 where
  pub low : from ≤ at
  pub high : at ≤ length s
  pub all : at + left ≡ from + 10
  pub small : v < tens (at - from)
  pub ends : from + digits_in_front most_digits (drop from s) ≡ at + digits_in_front left (drop at s)
  pub is : decimal 0 (take (digits_in_front most_digits (drop from s)) (drop from s)) ≡ decimal v (take (digits_in_front left (drop at s)) (drop at s))

pub reads_start : (s : List ℕ) (from : ℕ) → from ≤ length s → Reads s from 0 from 10
unfolding tens
reads_start s from h =
    let e : from - from ≡ 0 = omega arith in
    record { low = omega arith; high = h; all = refl; small = rw e (omega arith); ends = refl; is = refl }

front_on : (s : List ℕ) (at l b : ℕ) → b ≡ get_or s at 0 → digit b ≡ true → at < length s → digits_in_front (suc l) (drop at s) ≡ suc (digits_in_front l (drop (suc at) s))
unfolding digits_in_front
front_on s at l b e d h = rw (drop-cons s at 0 h, ← e, d)

front_off : (s : List ℕ) (at l b : ℕ) → b ≡ get_or s at 0 → digit b ≡ false → digits_in_front l (drop at s) ≡ 0
unfolding digits_in_front
front_off s at zero b e d = refl
front_off s at (suc l) b e d = by_order at (length s) (λ h. rw (drop-cons s at 0 h, ← e, d)) (λ h. rw (drop_of_length-le s h))

value_on : (s : List ℕ) (at l b v : ℕ) → b ≡ get_or s at 0 → digit b ≡ true → at < length s
    → decimal v (take (digits_in_front (suc l) (drop at s)) (drop at s)) ≡ decimal (10 * v + (b - 48)) (take (digits_in_front l (drop (suc at) s)) (drop (suc at) s))
unfolding decimal
value_on s at l b v e d h = rw (front_on s at l b e d h, drop-cons s at 0 h, ← e)

tens_on : (from at v b : ℕ) → from ≤ at → v < tens (at - from) → b ≤ 57 → 10 * v + (b - 48) < tens (at + 1 - from)
unfolding tens
tens_on from at v b h small d = let e : at + 1 - from ≡ suc (at - from) = omega arith in rw e (omega arith)

reads_on : (s : List ℕ) (from v at left b : ℕ) → Reads s from v at left → 0 < left → b ≡ get_or s at 0 → digit b ≡ true → Reads s from (10 * v + (b - 48)) (at + 1) (left - 1)
reads_on s from v at zero b r p e d = let no : ⊥ = omega arith in absurd no
reads_on s from v at (suc l) b r p e d =
    let h : at < length s = digit_in s at b e d in
    let q : suc l - 1 ≡ l = omega arith in
    rw (q, add-one)
    record {
      low = omega (arith, r.low);
      high = omega arith;
      all = omega (arith, r.all);
      small = rw (← add-one at) (tens_on from at v b r.low r.small (digit_high b d));
      ends = r.ends ∙ rw (front_on s at l b e d h) (omega arith);
      is = r.is ∙ value_on s at l b v e d h;
    }

-- the next digit's value fits
module _ (s : List ℕ) (from v at left : ℕ) (r : Reads s from v at left) (p : 0 < left) where
  reads_most : v < 1000000000
  reads_most = let t : tens (at - from) ≤ 1000000000 = tens_most (at - from) (left - 1) (omega (arith, r.low, r.all)) in omega (arith, r.small)

  pub ten_fits : Fits w64 (10 * v)
  ten_fits = let m : v < 1000000000 = reads_most in search (m, rules)

  module _ (b : ℕ) (t : Bool) (e : b ≡ get_or s at 0) (q : t ≡ digit b) where
    pub digit_fits : t ≡ true → Fits w64 (10 * v + (b - 48))
    digit_fits d = let m : v < 1000000000 = reads_most in let n : b ≤ 57 = digit_high b (sym q ∙ d) in search (m, n, rules)

    pub reads_next : t ≡ true → Reads s from (10 * v + (b - 48)) (at + 1) (left - 1)
    reads_next d = reads_on s from v at left b r p e (sym q ∙ d)

    pub reads_stop : t ≡ false → ◌≡◌ {A = Number} (record { value = v; end = at }) (number_from s from)
    unfolding decimal
    reads_stop d = rw (r.ends, r.is, front_off s at left b e (sym q ∙ d)) (ap (λ (n : ℕ). record { value = v; end = n }) (omega arith))

pub digit_least : (b : ℕ) (t : Bool) → t ≡ digit b → t ≡ true → 48 ≤ b
digit_least b t q d = digit_low b (sym q ∙ d)

pub reads_full : (s : List ℕ) (from v at left : ℕ) → Reads s from v at left → left ≤ 0 → ◌≡◌ {A = Number} (record { value = v; end = at }) (number_from s from)
unfolding decimal digits_in_front
reads_full s from v at left r p =
    let z : left ≡ 0 = omega arith in
    let e : from + digits_in_front most_digits (drop from s) ≡ at = (rw z at r.ends) ∙ omega arith in
    let f : decimal 0 (take (digits_in_front most_digits (drop from s)) (drop from s)) ≡ v = rw z at r.is in
    rw (e, f)

-- the same after k of ten digits
pub record ReadsSome (s : List ℕ) (from v k : ℕ) : Type 0 where
  pub most : k ≤ 10
  pub reads : Reads s from v (from + k) (10 - k)

pub some_start : (s : List ℕ) (from : ℕ) → from ≤ length s → ReadsSome s from 0 0
some_start s from h = record { most = omega arith; reads = let e : from + 0 ≡ from = omega arith in rw e (reads_start s from h) }

module _ (s : List ℕ) (from v k : ℕ) (r : ReadsSome s from v k) where
  pub some_high : from + k ≤ length s
  some_high = r.reads.high

  pub some_full : 10 ≤ k → ◌≡◌ {A = Number} (record { value = v; end = from + 10 }) (number_from s from)
  some_full h =
      let e : k ≡ 10 = omega (arith, r.most) in
      reads_full s from v (from + 10) (10 - 10) (rw e at r.reads) (omega arith)

  module _ (h : k < 10) where
    left : 0 < 10 - k
    left = omega arith

    pub some_ten : Fits w64 (10 * v)
    some_ten = ten_fits s from v (from + k) (10 - k) r.reads left

    module _ (b : ℕ) (t : Bool) (e : b ≡ get_or s (from + k) 0) (q : t ≡ digit b) where
      pub some_fits : t ≡ true → Fits w64 (10 * v + (b - 48))
      some_fits = digit_fits s from v (from + k) (10 - k) r.reads left b t e q

      pub some_next : t ≡ true → ReadsSome s from (10 * v + (b - 48)) (k + 1)
      some_next d =
          let at : from + (k + 1) ≡ from + k + 1 = omega arith in
          let less : 10 - (k + 1) ≡ 10 - k - 1 = omega arith in
          record { most = omega arith; reads = rw (at, less) (reads_next s from v (from + k) (10 - k) r.reads left b t e q d) }

      pub some_stop : t ≡ false → ◌≡◌ {A = Number} (record { value = v; end = from + k }) (number_from s from)
      some_stop = reads_stop s from v (from + k) (10 - k) r.reads left b t e q
