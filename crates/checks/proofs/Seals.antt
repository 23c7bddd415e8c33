-- The seal: what it leaves alone, and that it does not depend on what stood in its own two bytes. Assumes nothing.
use mathlib.Core.Path.{◌≡◌, refl, ap, ◌∙◌}
use mathlib.Core.Logic.{◌≢◌}
use mathlib.Core.List.{List}
use Prim.Native.Nat.{ℕ, zero, suc, ◌+◌, ◌*◌, ◌/◌, ◌%◌, ◌≤◌, ◌<◌}
use native.Mathlib.Nat.{ne_of_lt, ne_of_gt}
use native.Mathlib.Omega.{arith}
use lib.ListN.{length, get_or, set, length-set}
use lib.Seq.{get_or-set_other, set-set, set_comm}
use Rattle.checks.specs.Seal.{sum_to, check_of, sealed}

-- the sum does not see a store behind it
sum_set : (n i v : ℕ) (b : List ℕ) → n ≤ i → sum_to n (set b i v) ≡ sum_to n b
unfolding sum_to
sum_set zero i v b h = refl
sum_set (suc n) i v b h =
    ap (λ (s : ℕ). s + suc n * get_or (set b i v) n 0) (sum_set n i v b (omega arith))
    ∙ ap (λ (x : ℕ). sum_to n b + suc n * x) (get_or-set_other b i n v 0 (ne_of_lt h))

-- the check does not see its own bytes
pub check_set : (i v : ℕ) (b : List ℕ) → 510 ≤ i → check_of (set b i v) ≡ check_of b
unfolding check_of
check_set i v b h = ap (λ (s : ℕ). (1 + s) % 65521) (sum_set 510 i v b h)

-- the seal keeps the length
pub sealed_length : (b : List ℕ) → length (sealed b) ≡ length b
unfolding sealed
sealed_length b = simp length-set

-- the seal leaves the first 510 bytes alone
pub sealed_at : (b : List ℕ) (i : ℕ) → i < 510 → get_or (sealed b) i 0 ≡ get_or b i 0
unfolding sealed
sealed_at b i h =
    let p : i ≢ 511 = ne_of_lt (omega arith) in
    let q : i ≢ 510 = ne_of_lt h in
    rw (get_or-set_other, get_or-set_other)

-- what stood in the two bytes does not matter
pub sealed_again : (m : List ℕ) (x y : ℕ) → sealed (set (set m 510 x) 511 y) ≡ sealed m
unfolding sealed
sealed_again m x y =
    let n : List ℕ = set (set m 510 x) 511 y in
    let e : check_of n ≡ check_of m = check_set 511 y (set m 510 x) (omega arith) ∙ check_set 510 x m (omega arith) in
    ap (λ (c : ℕ). set (set n 510 (c % 256)) 511 (c / 256 % 256)) e
    ∙ ap (λ (l : List ℕ). set l 511 (check_of m / 256 % 256)) (set_comm (set m 510 x) 511 510 y (check_of m % 256) (ne_of_gt (omega arith)))
    ∙ set-set (set (set m 510 x) 510 (check_of m % 256)) 511 y (check_of m / 256 % 256)
    ∙ ap (λ (l : List ℕ). set l 511 (check_of m / 256 % 256)) (set-set m 510 x (check_of m % 256))
