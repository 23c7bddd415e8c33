-- Lists told number by number. Assumes nothing.
use mathlib.Core.Path.{◌≡◌, refl, ap, ◌∙◌}
use mathlib.Core.Bool.{Bool, true}
use mathlib.Core.List.{List, [], ◌∷◌, map}
use Prim.Native.Nat.{ℕ, zero, suc, ◌+◌, ◌<◌}
use native.Mathlib.Omega.{arith}
use lib.ListN.{length, get_or}
use Rattle.codes.specs.Places.{upward}
use Rattle.laws.specs.Lists.{every}

-- a list is the map of what stands at each number
pub map_upward : {A : Type 0} (z : A) (f : ℕ → A) (p : ℕ) (xs : List A) → ((i : ℕ) → i < length xs → f (p + i) ≡ get_or xs i z) → map f (upward p (length xs)) ≡ xs
unfolding upward
map_upward z f p [] h = refl
map_upward {A} z f p (x ∷ xs) h =
    let e : p ≡ p + 0 = omega arith in
    let here : f p ≡ x = ap f e ∙ h 0 (omega arith) in
    let next : map f (upward (suc p) (length xs)) ≡ xs =
    map_upward z f (suc p) xs (λ i g. let q : suc p + i ≡ p + suc i = omega arith in ap f q ∙ h (suc i) (omega arith)) in
    cc

-- a test that each number passes
pub every_upward : (f : ℕ → Bool) (p n : ℕ) → ((i : ℕ) → i < n → f (p + i) ≡ true) → every f (upward p n) ≡ true
unfolding upward every
every_upward f p zero h = refl
every_upward f p (suc n) h =
    let e : p ≡ p + 0 = omega arith in
    let here : f p ≡ true = ap f e ∙ h 0 (omega arith) in
    rw here (every_upward f (suc p) n (λ i g. let q : suc p + i ≡ p + suc i = omega arith in ap f q ∙ h (suc i) (omega arith)))
