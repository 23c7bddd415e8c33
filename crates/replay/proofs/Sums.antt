-- The weighted sum of bytes. Assumes nothing.
use Prim.Native.Nat.{ℕ, ◌+◌, ◌*◌, ◌%◌, ◌≤◌, ◌<◌}
use native.Mathlib.Nat.{mul-le-mul}
use native.Mathlib.Omega.{arith}
use mathlib.Core.Path.{◌≡◌, refl, ap, ◌∙◌}
use mathlib.Core.List.{List}
use lib.ListN.{length, get_or}
use mir.Syntax.{w64}
use mir.Val.{Fits}
use Rattle.checks.specs.Seal.{sum_to}
use Rattle.checks.proofs.Columns.{sum_more}
use Rattle.replay.specs.Lines.{weighted_sum}

pub weighed : (i b : ℕ) → i < 30000 → b < 256 → (i + 1) * b ≤ 7650000
weighed i b h k = mul-le-mul {n₁ = i + 1} {m₁ = b} {n₂ = 30000} {m₂ = 255} (omega arith) (omega arith)

pub weighed_fits : (i b : ℕ) → i < 30000 → b < 256 → Fits w64 ((i + 1) * b)
weighed_fits i b h k = omega (arith, weighed i b h k)

-- 1 and what the bytes up to i add.
pub record Totals (s : List ℕ) (i sum : ℕ) : Type 0 where
  pub high : i ≤ length s
  pub is : sum ≡ 1 + sum_to i s
  pub small : sum ≤ 1 + 7650000 * i

pub totals_start : (s : List ℕ) → Totals s 0 1
unfolding sum_to
totals_start s = record { high = omega arith; is = refl; small = omega arith }

module _ (s : List ℕ) (i sum : ℕ) (v : Totals s i sum) where
  pub totals_on : (x : ℕ) → i < length s → x ≡ (i + 1) * get_or s i 0 → x ≤ 7650000 → Totals s (i + 1) (sum + x)
  totals_on x h e k =
      let t : sum ≡ 1 + sum_to i s = v.is in
      let m : sum ≤ 1 + 7650000 * i = v.small in
      record { high = omega arith; is = rw (sum_more, ← e) (omega arith); small = omega arith }

  pub totals_done : length s ≤ i → sum % 4294967291 ≡ weighted_sum s
  unfolding weighted_sum
  totals_done h =
      let e : i ≡ length s = omega (arith, v.high) in
      ap (λ (t : ℕ). t % 4294967291) (v.is ∙ ap (λ (j : ℕ). 1 + sum_to j s) e)
