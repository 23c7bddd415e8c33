-- Chains of tests, taken apart: what holds of every acceptance of a rule. Assumes nothing.
use mathlib.Core.Path.{◌≡◌, refl}
use mathlib.Core.Bool.{Bool, true, false, cond}
use Rattle.std.specs.Prelude.{Option, None, Some}
use Rattle.refusal.specs.declared.Reason.{Reason}
use Rattle.refusal.specs.Answer.{Answer, ok, refused, must, and_then}
use Rattle.steps.specs.Calls.{Value, must_find, settle}

-- refused for a row of the table, at place 0; or accepted with a value of which P holds
pub data Told {A : Type 0} (P : A → Type 0) : Answer A → Type 0 where
  told_no : (r : Reason) → Told P (refused r 0)
  told_ok : (x : A) → P x → Told P (ok x)

module _ {B : Type 0} {P : B → Type 0} where
  -- after a test, it is known to hold
  pub told_must : (t : Bool) (r : Reason) (f : Unit → Answer B) → (t ≡ true → Told P (f tt)) → Told P (and_then (must t r 0) f)
  unfolding and_then
  told_must true r f h = h refl
  told_must false r f h = told_no r

  -- what was sought is known to be there
  pub told_find : {A : Type 0} (o : Option A) (r : Reason) (f : A → Answer B) → ((x : A) → o ≡ Some x → Told P (f x)) → Told P (and_then (must_find o r) f)
  unfolding and_then
  told_find None r f h = told_no r
  told_find (Some x) r f h = h x refl

  -- after another rule
  pub told_then : {A : Type 0} {Q : A → Type 0} (r : Answer A) (f : A → Answer B) → Told Q r → ((x : A) → Q x → Told P (f x)) → Told P (and_then r f)
  unfolding and_then
  told_then _ f (told_no r) h = told_no r
  told_then _ f (told_ok x q) h = h x q

  -- one rule or the other
  pub told_cond : (t : Bool) (x y : Answer B) → (t ≡ true → Told P x) → (t ≡ false → Told P y) → Told P (cond t x y)
  told_cond true x y f g = f refl
  told_cond false x y f g = g refl

-- what holds before, and of all that an acceptance leaves, holds after a call
pub told_left : {A : Type 0} (P : A → Type 0) (x : A) (r : Answer (Value × A)) → P x → Told (λ (z : Value × A). P z.1) r → P (settle x r).1
told_left P x _ p (told_no r) = p
told_left P x _ p (told_ok z q) = q
