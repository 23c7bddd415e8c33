-- Tests, which are Bools, and what is chosen by one. Assumes nothing.
use Prim.Native.Nat.{ℕ, ◌≤◌, ◌<◌}
use native.Mathlib.Omega.{arith}
use mathlib.Core.Path.{◌≡◌, refl, sym}
use mathlib.Core.Bool.{Bool, true, false, cond, ◌&&◌, ◌||◌}
use lib.Dec.{ltb}
use borrow.Author.Tests.{ltb-true, ltb-false}

-- a test is true or false
pub by : {P : Type 0} (t : Bool) → (t ≡ true → P) → (t ≡ false → P) → P
by true f g = f refl
by false f g = g refl

-- of two numbers the first is less, or it is not
pub by_order : {P : Type 0} (a b : ℕ) → (a < b → P) → (b ≤ a → P) → P
by_order a b f g = by (ltb a b) (λ e. f (ltb-true a b e)) (λ e. g (ltb-false a b e))

-- what follows where nothing can be: `impossible (omega ..)` at any goal
pub impossible : {P : Type 0} → ⊥ → P
impossible h = absurd h

-- what is different is not equal: `apart cc` wherever two constructors were to be equal
pub apart : {P : Type 0} → ◌≡◌ {A = ℕ} 0 1 → P
apart e = impossible (omega arith)

-- what holds of both choices holds of the one that is made
pub either_way : {A : Type 0} (P : A → Type 0) (t : Bool) {x y : A} → P x → P y → P (cond t x y)
either_way P true p q = p
either_way P false p q = q

-- the same with each choice's test known
pub choose : {A : Type 0} (P : A → Type 0) (q : Bool) (x y : A) → (q ≡ true → P x) → (q ≡ false → P y) → P (cond q x y)
choose P true x y f g = f refl
choose P false x y f g = g refl

pub and_left : (a b : Bool) → (a && b) ≡ true → a ≡ true
and_left true b e = refl
and_left false b e = e

pub and_right : (a b : Bool) → (a && b) ≡ true → b ≡ true
and_right true b e = e
and_right false b e = apart cc

pub or_no : (a b : Bool) → (a || b) ≡ false → (a ≡ false) × (b ≡ false)
or_no true b h = apart cc
or_no false b h = (refl, h)

-- two tests that are true together are one
pub same_test : (a b : Bool) → (a ≡ true → b ≡ true) → (b ≡ true → a ≡ true) → a ≡ b
same_test true b f g = sym (f refl)
same_test false true f g = g refl
same_test false false f g = refl
