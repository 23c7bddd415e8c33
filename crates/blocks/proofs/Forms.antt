-- The form of a good block: a right check, and zeros from an offset on. Assumes nothing.
use mathlib.Core.Path.{◌≡◌, sym, ap, ap₂, ◌∙◌}
use mathlib.Core.Logic.{◌≢◌}
use mathlib.Core.Bool.{true}
use mathlib.Core.List.{List, ◌++◌}
use Prim.Native.Nat.{ℕ, ◌+◌, ◌*◌, ◌-◌, ◌/◌, ◌%◌, ◌≤◌, ◌<◌}
use native.Mathlib.Nat.{ne_of_lt, mod-eq_of_lt, mod-lt, mod-add-div, div-lt_iff_lt-mul}
use native.Mathlib.Omega.{arith}
use lib.ListN.{length, take, drop, get_or, set, replicate, length-set, length-drop, take-append-drop}
use Rattle.std.specs.List.{slice_range}
use lib.Seq.{get_or-drop, set-get_or, take-set-le, get_or-set_same, get_or-set_other}
use borrow.Author.Tests.{eqb-true, eq-eqb}
use Rattle.laws.proofs.Tests.{by_order}
use Rattle.checks.specs.Seal.{block_length, check_of, sealed, checked, all_zero}
use Rattle.blocks.specs.Block.{Bytes}
use Rattle.checks.proofs.Seals.{check_set, sealed_again}
use Rattle.checks.proofs.Zeros.{zero_in, zeros_ext}
use Rattle.blocks.proofs.Numbers.{byte_at, low_byte, high_part}

-- ---- the check
-- the check fits its two bytes
pub check_low : (b : List ℕ) → check_of b < 65521
unfolding check_of
check_low b = mod-lt _ (omega arith)

-- what is sealed has a right check
pub sealed_checked : (b : List ℕ) → length b ≡ block_length → checked (sealed b) ≡ true
unfolding checked sealed
sealed_checked b len =
    let k : ℕ = check_of b in
    let a : check_of (sealed b) ≡ k = check_set 511 (k / 256 % 256) (set b 510 (k % 256)) (omega arith) ∙ check_set 510 (k % 256) b (omega arith) in
    let p : get_or (sealed b) 510 0 ≡ k % 256 = get_or-set_other (set b 510 (k % 256)) 511 510 (k / 256 % 256) 0 (ne_of_lt (omega arith)) ∙ get_or-set_same b 510 (k % 256) 0 (omega (arith, len)) in
    let q : get_or (sealed b) 511 0 ≡ k / 256 % 256 = get_or-set_same (set b 510 (k % 256)) 511 (k / 256 % 256) 0 (simp length-set (omega (arith, len))) in
    let small : k < 65521 = check_low b in
    let hi : k / 256 < 256 = (div-lt_iff_lt-mul {k = 256} (omega arith)).1 (omega arith) in
    let m = mod-add-div k 256 in
    let h : k / 256 % 256 ≡ k / 256 = mod-eq_of_lt hi in
    let all : check_of (sealed b) ≡ get_or (sealed b) 510 0 + 256 * get_or (sealed b) 511 0 = omega arith in
    eq-eqb (check_of (sealed b)) (get_or (sealed b) 510 0 + 256 * get_or (sealed b) 511 0) all

-- what has a right check is sealed
pub own_seal : (b : List ℕ) → Bytes b → checked b ≡ true → b ≡ sealed b
unfolding sealed checked
own_seal b y ok =
    let e : check_of b ≡ get_or b 510 0 + 256 * get_or b 511 0 = eqb-true _ _ ok in
    let p : check_of b % 256 ≡ get_or b 510 0 = rw e (low_byte (get_or b 510 0) (get_or b 511 0) (byte_at b 510 y)) in
    let q : check_of b / 256 % 256 ≡ get_or b 511 0 =
    rw (e, high_part (get_or b 510 0) (get_or b 511 0) (byte_at b 510 y)) (mod-eq_of_lt (byte_at b 511 y)) in
    rw (p, q, set-get_or, set-get_or)

-- A block with a right check and zeros from an offset on is the seal of what stands before the offset, with zeros after it.
module _ (b : List ℕ) (len : length b ≡ block_length) (y : Bytes b) (from : ℕ) (k : from ≤ 510) (ok : checked b ≡ true) (none : all_zero (slice_range b from 510) ≡ true) where
  -- the block with zeros for its check
  blank : List ℕ
  blank = set (set b 510 0) 511 0

  -- which is zeros from the offset on
  blank_zero : (i : ℕ) → from ≤ i → i < 512 → get_or blank i 0 ≡ 0
  unfolding blank
  blank_zero i h g =
      by_order i 510
      (λ r. let p : i ≢ 511 = ne_of_lt (omega arith) in
      get_or-set_other (set b 510 0) 511 i 0 0 p ∙ get_or-set_other b 510 i 0 0 (ne_of_lt r) ∙ zero_in from 510 b none i h r)
      (λ r. by_order i 511
      (λ t. let e : i ≡ 510 = omega arith in
      get_or-set_other (set b 510 0) 511 i 0 0 (ne_of_lt t) ∙ ap (λ (j : ℕ). get_or (set b 510 0) j 0) e ∙ get_or-set_same b 510 0 0 (omega arith))
      (λ t. let e : i ≡ 511 = omega arith in
      ap (λ (j : ℕ). get_or (set (set b 510 0) 511 0) j 0) e ∙ get_or-set_same (set b 510 0) 511 0 0 (simp length-set (omega arith))))

  -- the seal of its front
  pub sealed_form : b ≡ sealed (take from b ++ replicate (512 - from) 0)
  unfolding blank
  sealed_form =
      own_seal b y ok
      ∙ sym (sealed_again b 0 0)
      ∙ ap sealed
      (sym (take-append-drop from blank)
      ∙ ap₂ (λ (p q : List ℕ). p ++ q)
      (take-set-le from (set b 510 0) 511 0 (omega arith) ∙ take-set-le from b 510 0 k)
      (zeros_ext (512 - from) (drop from blank) (simp (length-drop, length-set) (omega arith)) (λ i h. get_or-drop from blank i 0 ∙ blank_zero (from + i) (omega arith) (omega arith))))
