-- Scans of a block: ascending numbers, two parts side by side. Assumes nothing.
use Prim.Native.Nat.{ℕ, ◌+◌, ◌*◌, ◌-◌, ◌≤◌, ◌<◌}
use native.Mathlib.Omega.{arith}
use mathlib.Core.Path.{◌≡◌, refl, sym, ap, ◌∙◌}
use mathlib.Core.Bool.{Bool, true, ◌&&◌}
use mathlib.Core.List.{List, [], ◌∷◌}
use Rattle.std.specs.Cmp.Lexicographic.{pointwise}
use lib.ListN.{length, drop, get_or}
use lib.Dec.{eqb, ltb}
use Rattle.codes.specs.Places.{ascends, places_end}
use Rattle.codes.proofs.Climbs.{Climbs, climbs_start, climbs_on, climbs_done}
use Rattle.blocks.specs.Block.{number_at, numbers_of, same_list}
use Rattle.blocks.proofs.Numbers.{number_drop, numbers_length, numbers_at}

-- ---- ascending numbers: number k - 1 and number k of those from byte 8
pub number_before : (b : List ℕ) (n k x : ℕ) → 1 ≤ k → k ≤ n → x ≡ number_at b (4 + 4 * k) → x ≡ get_or (numbers_of n (drop 8 b)) (k - 1) 0
number_before b n k x h g e =
    let o : 4 + 4 * k ≡ 8 + 4 * (k - 1) = omega arith in
    e ∙ ap (λ (j : ℕ). number_at b j) o ∙ sym (number_drop 8 b (4 * (k - 1))) ∙ sym (numbers_at n (drop 8 b) (k - 1) (omega arith))

pub number_here : (b : List ℕ) (n k y : ℕ) → k < n → y ≡ number_at b (8 + 4 * k) → y ≡ get_or (numbers_of n (drop 8 b)) k 0
number_here b n k y h e = e ∙ sym (number_drop 8 b (4 * k)) ∙ sym (numbers_at n (drop 8 b) k h)

-- the scan of a list's neighbours, over these numbers
pub rising_none : (b : List ℕ) (n : ℕ) → 1 ≤ n → Climbs (numbers_of n (drop 8 b)) 1 true
rising_none b n h = climbs_start (numbers_of n (drop 8 b)) (rw numbers_length h)

pub rising_more : (b : List ℕ) (n k : ℕ) (good : Bool) → Climbs (numbers_of n (drop 8 b)) k good → k < n → (x y : ℕ) → x ≡ number_at b (4 + 4 * k)
    → y ≡ number_at b (8 + 4 * k) → Climbs (numbers_of n (drop 8 b)) (k + 1) (good && ltb x y)
rising_more b n k good v h x y p q =
    climbs_on (numbers_of n (drop 8 b)) k good v (rw numbers_length h) x y (number_before b n k x v.some (omega arith) p) (number_here b n k y h q)

pub rising_all : (b : List ℕ) (n k : ℕ) (good : Bool) → Climbs (numbers_of n (drop 8 b)) k good → 1 ≤ n → n ≤ k → (z : ℕ) → z ≡ number_at b (4 + 4 * n)
    → (good && ltb z places_end) ≡ ascends 0 (numbers_of n (drop 8 b))
rising_all b n k good v g h z e =
    let w : length (numbers_of n (drop 8 b)) ≡ n = numbers_length n (drop 8 b) in
    climbs_done (numbers_of n (drop 8 b)) k good v (rw w h) z (rw w (number_before b n n z g (omega arith) e))

-- ---- two parts side by side, in the library's words
pub same_is : (a b : List ℕ) → pointwise eqb a b ≡ same_list a b
unfolding same_list
same_is [] [] = refl
same_is [] (y ∷ ys) = refl
same_is (x ∷ xs) [] = refl
same_is (x ∷ xs) (y ∷ ys) = ap (λ (t : Bool). eqb x y && t) (same_is xs ys)
