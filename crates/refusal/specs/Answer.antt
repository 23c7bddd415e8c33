-- What document 01 says of a call's answer: it is accepted with its values, or it is refused with a number and a place.
use Rattle.std.specs.Prelude.{ℕ, Bool, cond}
use Rattle.std.specs.Prelude.{Option, None, Some, Result, Ok, Err}
use Rattle.refusal.specs.Numbers.{number_of}
use Rattle.refusal.specs.declared.Reason.{Reason}
use Rattle.refusal.specs.declared.Refusal.{Refusal}

pub data Answer (A : Type 0) : Type 0 where
  ok : A → Answer A
  -- "Each returns its number and a place"
  no : (number place : ℕ) → Answer A

abbrev pub refused : {A : Type 0} → Reason → ℕ → Answer A
refused reason place = no (number_of reason) place

-- refused at the place where the fault is, if there is one
abbrev pub refused_at : Reason → Option ℕ → Answer Unit
refused_at reason None = ok tt
refused_at reason (Some place) = refused reason place

-- a test that must hold
abbrev pub must : Bool → Reason → ℕ → Answer Unit
must t reason place = cond t (ok tt) (refused reason place)

-- what comes next in the order of refusals: nothing after a refusal
unfoldable pub and_then : {A B : Type 0} → Answer A → (A → Answer B) → Answer B
and_then (ok x) f = f x
and_then (no number place) f = no number place

-- ---- the code's answers as this paper's
abbrev pub refusal_for : Reason → ℕ → Refusal
refusal_for reason place = record { reason = reason; place = place }

-- an answer whose value is read by f
abbrev pub answer_by : {A B : Type 0} → (A → B) → Result A Refusal → Answer B
answer_by f (Ok x) = ok (f x)
answer_by f (Err r) = refused r.reason r.place

-- one whose value is the paper's own
abbrev pub answer_of : {A : Type 0} → Result A Refusal → Answer A
answer_of (Ok x) = ok x
answer_of (Err r) = refused r.reason r.place
