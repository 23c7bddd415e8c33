-- Lists whose elements are all of one kind, by their numbers from 1: one is put in, one is found. Assumes nothing.
use Prim.Native.Nat.{ℕ, zero, suc, ◌≤◌}
use native.Mathlib.Omega.{arith}
use mathlib.Core.Path.{◌≡◌, refl}
use mathlib.Core.List.{List, [], ◌∷◌}
use Rattle.std.specs.Prelude.{Some}
use lib.ListN.{length, length-set}
use Rattle.std.specs.Prelude.{slice_get}
use Rattle.laws.proofs.Tests.{apart}
use Rattle.laws.proofs.Lists.{all_set, all_found}
use Rattle.laws.specs.Lists.{All, all_cons}
use Rattle.laws.proofs.Lookups.{get_low}
use Rattle.steps.specs.Book.{Draft, closed, at, put, or_closed, draft_at}

pub put_length : {A : Type 0} (xs : List A) (d : ℕ) (x : A) → length (put xs d x) ≡ length xs
put_length xs zero x = refl
put_length xs (suc k) x = length-set xs k x

-- an element, and that its number is one of the list's
pub record Stands {A : Type 0} (P : A → Type 0) (xs : List A) (s : ℕ) (x : A) : Type 0 where
  pub is : P x
  pub from : 1 ≤ s
  pub to : s ≤ length xs

module _ {A : Type 0} {P : A → Type 0} where
  pub all_put : {xs : List A} (d : ℕ) (x : A) → P x → All P xs → All P (put xs d x)
  all_put zero x p a = a
  all_put (suc k) x p a = all_set k x p a

  pub all_stands : (xs : List A) (s : ℕ) (x : A) → All P xs → at xs s ≡ Some x → Stands P xs s x
  all_stands xs zero x a e = apart cc
  all_stands xs (suc k) x a e = record { is = all_found k a e; from = omega arith; to = get_low xs k e }

-- a draft that is not there is closed
pub draft_is : (P : Draft → Type 0) (ds : List Draft) (d : ℕ) → P closed → All P ds → P (draft_at ds d)
draft_is P ds zero c a = c
draft_is P ds (suc k) c a = go ds k a
  where
    go : (ds : List Draft) (k : ℕ) → All P ds → P (or_closed (slice_get ds k))
    go [] k a = c
    go (x ∷ ds) zero (all_cons p a) = p
    go (x ∷ ds) (suc k) (all_cons p a) = go ds k a
