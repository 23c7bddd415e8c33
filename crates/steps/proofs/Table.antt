-- Laws of `at`, `put` and `draft_at`: what stands at a number after a store or a map. Assumes nothing.
use Prim.Native.Nat.{ℕ, zero, suc}
use mathlib.Core.Path.{◌≡◌, refl, sym, ◌∙◌, ap}
use mathlib.Core.Bool.{Bool, true, false}
use mathlib.Core.List.{List, [], ◌∷◌, map}
use Rattle.std.specs.Prelude.{Option, None, Some}
use lib.ListN.{set}
use Rattle.std.specs.Prelude.{slice_get}
use lib.Dec.{eqb, eqb-suc-suc}
use borrow.Author.Tests.{eqb-true, eqb-false}
use Rattle.laws.proofs.Lookups.{get_other}
use Rattle.steps.specs.Book.{Copy, Draft, closed, working, at, put, or_closed, draft_at}

-- is anything there?
abbrev pub is_some : {A : Type 0} → Option A → Bool
is_some None = false
is_some (Some a) = true

-- ---- any list
module _ {A : Type 0} where
  -- a store changes nothing elsewhere
  pub at_put_other : (xs : List A) (d e : ℕ) (x : A) → eqb e d ≡ false → at (put xs d x) e ≡ at xs e
  at_put_other xs zero e x h = refl
  at_put_other xs (suc d) zero x h = refl
  at_put_other xs (suc d) (suc e) x h = get_other xs d e x (eqb-false e d (sym (eqb-suc-suc e d) ∙ h))

  -- a store makes no number and takes none away
  nth_set_some : (xs : List A) (d e : ℕ) (x : A) → is_some (slice_get (set xs d x) e) ≡ is_some (slice_get xs e)
  nth_set_some [] d e x = refl
  nth_set_some (y ∷ ys) zero zero x = refl
  nth_set_some (y ∷ ys) zero (suc e) x = refl
  nth_set_some (y ∷ ys) (suc d) zero x = refl
  nth_set_some (y ∷ ys) (suc d) (suc e) x = nth_set_some ys d e x

  pub at_put_some : (xs : List A) (d e : ℕ) (x : A) → is_some (at (put xs d x) e) ≡ is_some (at xs e)
  at_put_some xs zero e x = refl
  at_put_some xs (suc d) zero x = refl
  at_put_some xs (suc d) (suc e) x = nth_set_some xs d e x

-- ---- drafts
-- a draft that is open where one was stored is what was stored
nth_set_same : (ds : List Draft) (d : ℕ) (x : Draft) (ks : List Copy) (stale : Bool) → or_closed (slice_get (set ds d x) d) ≡ working ks stale
    → x ≡ working ks stale
nth_set_same [] d x ks stale h = cc
nth_set_same (y ∷ ds) zero x ks stale h = h
nth_set_same (y ∷ ds) (suc d) x ks stale h = nth_set_same ds d x ks stale h

put_same : (ds : List Draft) (d : ℕ) (x : Draft) (ks : List Copy) (stale : Bool) → draft_at (put ds d x) d ≡ working ks stale → x ≡ working ks stale
put_same ds zero x ks stale h = cc
put_same ds (suc d) x ks stale h = nth_set_same ds d x ks stale h

pub draft_put_same : (ds : List Draft) (d e : ℕ) (x : Draft) (ks : List Copy) (stale : Bool) → draft_at (put ds d x) e ≡ working ks stale
    → eqb e d ≡ true → x ≡ working ks stale
draft_put_same ds d e x ks stale h q = put_same ds d x ks stale (rw (eqb-true e d q) at h)

-- any other is what it was
pub draft_put_other : (ds : List Draft) (d e : ℕ) (x : Draft) (ks : List Copy) (stale : Bool) → draft_at (put ds d x) e ≡ working ks stale
    → eqb e d ≡ false → draft_at ds e ≡ working ks stale
draft_put_other ds d e x ks stale h q = ap or_closed (sym (at_put_other ds d e x q)) ∙ h

-- each draft changed
nth_map : (f : Draft → Draft) → f closed ≡ closed → (ds : List Draft) (d : ℕ) → or_closed (slice_get (map f ds) d) ≡ f (or_closed (slice_get ds d))
nth_map f e [] d = sym e
nth_map f e (x ∷ ds) zero = refl
nth_map f e (x ∷ ds) (suc d) = nth_map f e ds d

pub draft_map : (f : Draft → Draft) → f closed ≡ closed → (ds : List Draft) (d : ℕ) → draft_at (map f ds) d ≡ f (draft_at ds d)
draft_map f e ds zero = sym e
draft_map f e ds (suc d) = nth_map f e ds d

-- the drafts of a book that is made: none is open
abbrev pub no_drafts : List Draft
no_drafts = closed ∷ closed ∷ closed ∷ closed ∷ []

pub none_open : (d : ℕ) → draft_at no_drafts d ≡ closed
none_open zero = refl
none_open (suc zero) = refl
none_open (suc (suc zero)) = refl
none_open (suc (suc (suc zero))) = refl
none_open (suc (suc (suc (suc zero)))) = refl
none_open (suc (suc (suc (suc (suc d))))) = refl
