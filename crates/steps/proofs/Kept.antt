-- What is kept, said as laws that a reader can hold against the words of demand 3. Assumes nothing.
use Prim.Native.Nat.{ℕ}
use mathlib.Core.Path.{◌≡◌, refl}
use mathlib.Core.Bool.{false}
use mathlib.Core.List.{List, [], ◌∷◌, ◌++◌}
use borrow.Author.Tests.{eq-eqb}
use Rattle.refusal.specs.Answer.{ok, no}
use Rattle.steps.specs.Calls.{Work, Call, opening, on, commit, drop, undo, Value, BookAnswer, draft}
use Rattle.steps.specs.Serial.{Event, is_open_of, is_on, draft_on, kept_after}

module _ (past es : List Event) where
  -- an undo is kept where it stands, with its answer, accepted or refused
  pub kept_undo : (a : BookAnswer) →
      kept_after past (record { call = undo; answer = a } ∷ es) ≡ record { call = undo; answer = a } ∷ kept_after (record { call = undo; answer = a } ∷ past) es
  unfolding kept_after
  kept_undo a = refl

  -- an accepted commit is kept where it stands, with its answer, behind the calls of its draft
  pub kept_commit : (d : ℕ) (v : Value) →
      kept_after past (record { call = commit d; answer = ok v } ∷ es) ≡
      (draft_on d past ++ (record { call = commit 1; answer = ok v } ∷ [])) ++ kept_after (record { call = commit d; answer = ok v } ∷ past) es
  unfolding kept_after draft_on
  kept_commit d v = rw (eq-eqb d d refl)

  -- nothing else is kept: no refused commit, no dropped draft, no open or work alone
  pub refused_commit : (d n p : ℕ) →
      kept_after past (record { call = commit d; answer = no n p } ∷ es) ≡ kept_after (record { call = commit d; answer = no n p } ∷ past) es
  unfolding kept_after
  refused_commit d n p = refl

  pub dropped : (d : ℕ) (a : BookAnswer) →
      kept_after past (record { call = drop d; answer = a } ∷ es) ≡ kept_after (record { call = drop d; answer = a } ∷ past) es
  unfolding kept_after
  dropped d a = refl

  pub opened : (a : BookAnswer) →
      kept_after past (record { call = opening; answer = a } ∷ es) ≡ kept_after (record { call = opening; answer = a } ∷ past) es
  unfolding kept_after
  opened a = refl

  pub worked : (d s : ℕ) (w : Work) (a : BookAnswer) →
      kept_after past (record { call = on d s w; answer = a } ∷ es) ≡ kept_after (record { call = on d s w; answer = a } ∷ past) es
  unfolding kept_after
  worked d s w a = refl

-- a draft begins at the open that gave its number
pub draft_open : (past : List Event) (d : ℕ) →
    draft_on d (record { call = opening; answer = ok (draft d) } ∷ past) ≡ record { call = opening; answer = ok (draft 1) } ∷ []
unfolding draft_on
draft_open past d = rw (eq-eqb d d refl)

-- and has each later call on its number, with its answer, accepted or refused
pub draft_on_lem : (past : List Event) (d s : ℕ) (w : Work) (a : BookAnswer) →
    draft_on d (record { call = on d s w; answer = a } ∷ past) ≡ draft_on d past ++ (record { call = on 1 s w; answer = a } ∷ [])
unfolding draft_on
draft_on_lem past d s w a = rw (eq-eqb d d refl)

-- and no other call
pub draft_other : (past : List Event) (d : ℕ) (c : Call) (a : BookAnswer) → is_open_of d c a ≡ false → is_on d c ≡ false →
    draft_on d (record { call = c; answer = a } ∷ past) ≡ draft_on d past
unfolding draft_on
draft_other past d c a e f = rw (e, f)
