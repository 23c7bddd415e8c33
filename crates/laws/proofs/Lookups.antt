-- What stands at a place of a list, if anything: past its end and before it, after a store, in a part, with one element more. Assumes nothing.
use Prim.Native.Nat.{ℕ, zero, suc, ◌≤◌, ◌<◌}
use native.Mathlib.Omega.{arith}
use mathlib.Core.Path.{◌≡◌, refl, ap}
use mathlib.Core.Logic.{◌≢◌}
use mathlib.Core.List.{List, [], ◌∷◌, ◌++◌}
use Rattle.std.specs.Prelude.{None, Some}
use lib.ListN.{length, take, get_or, set}
use Rattle.std.specs.Prelude.{slice_get}
use Rattle.laws.proofs.Tests.{impossible, apart}

pub some_same : {A : Type 0} {x y : A} → Some x ≡ Some y → x ≡ y
some_same e = cc

module _ {A : Type 0} where
  -- past the end
  pub get_none : (xs : List A) (k : ℕ) → length xs ≤ k → slice_get xs k ≡ None
  get_none [] k h = refl
  get_none (x ∷ xs) zero h = impossible (omega arith)
  get_none (x ∷ xs) (suc k) h = get_none xs k (omega arith)

  -- before it
  pub get_some : (d : A) (xs : List A) (k : ℕ) → k < length xs → slice_get xs k ≡ Some (get_or xs k d)
  get_some d [] k h = impossible (omega arith)
  get_some d (x ∷ xs) zero h = refl
  get_some d (x ∷ xs) (suc k) h = get_some d xs k (omega arith)

  -- where something stands is before it
  pub get_low : (xs : List A) (k : ℕ) {x : A} → slice_get xs k ≡ Some x → k < length xs
  get_low [] k e = apart cc
  get_low (x ∷ xs) zero e = omega arith
  get_low (x ∷ xs) (suc k) e = let h = get_low xs k e in omega arith

  -- after a store
  pub get_same : (xs : List A) (k : ℕ) (a : A) → k < length xs → slice_get (set xs k a) k ≡ Some a
  get_same [] k a h = impossible (omega arith)
  get_same (x ∷ xs) zero a h = refl
  get_same (x ∷ xs) (suc k) a h = get_same xs k a (omega arith)

  pub get_other : (xs : List A) (k j : ℕ) (a : A) → j ≢ k → slice_get (set xs k a) j ≡ slice_get xs j
  get_other [] k j a d = refl
  get_other (x ∷ xs) zero zero a d = impossible (d refl)
  get_other (x ∷ xs) zero (suc j) a d = refl
  get_other (x ∷ xs) (suc k) zero a d = refl
  get_other (x ∷ xs) (suc k) (suc j) a d = get_other xs k j a (λ e. d (ap suc e))

  -- of the first n
  pub get_take : (n : ℕ) (xs : List A) (k : ℕ) → k < n → slice_get (take n xs) k ≡ slice_get xs k
  get_take zero xs k h = impossible (omega arith)
  get_take (suc n) [] k h = refl
  get_take (suc n) (x ∷ xs) zero h = refl
  get_take (suc n) (x ∷ xs) (suc k) h = get_take n xs k (omega arith)

  -- of a list with one more
  pub get_more : (xs : List A) (a : A) (k : ℕ) → k ≢ length xs → slice_get (xs ++ (a ∷ [])) k ≡ slice_get xs k
  get_more [] a zero d = impossible (d refl)
  get_more [] a (suc k) d = refl
  get_more (x ∷ xs) a zero d = refl
  get_more (x ∷ xs) a (suc k) d = get_more xs a k (λ e. d (ap suc e))

  pub get_last : (xs : List A) (a : A) → slice_get (xs ++ (a ∷ [])) (length xs) ≡ Some a
  get_last [] a = refl
  get_last (x ∷ xs) a = get_last xs a
