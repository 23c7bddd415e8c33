-- What a `?` hands on. Assumes nothing.
use mathlib.Core.Path.{◌≡◌, refl}
use Rattle.std.specs.Prelude.{Option, None, Some, Result, Err, IsErrAnd}
use Rattle.std.specs.Option.{ok_or}
use Rattle.std.proofs.lemmas.Result.{err_from_is_err_and}
use Rattle.laws.proofs.Tests.{apart}
use Rattle.refusal.specs.Answer.{refusal_for}
use Rattle.refusal.specs.declared.Reason.{Reason}
use Rattle.refusal.specs.declared.Refusal.{Refusal}

-- a refusal as it is
pub handed : {T E : Type 0} (r : Result T E) (x : E) → IsErrAnd r (λ e. e ≡ x) → r ≡ Err x
handed r x h = let p = err_from_is_err_and r h in rw (p.1, p.2)

-- the refusal that stands for a value that is not there, given as it is or by its reason
pub record Refuses {A T : Type 0} (o : Option A) (w : Refusal) (r : Result T Refusal) : Type 0 where
  pub nothing : o ≡ None
  pub is : r ≡ Err w

pub none_at : {A T : Type 0} (o : Option A) (w x : Refusal) (k : Result A Refusal) (r : Result T Refusal) → k ≡ ok_or o w → k ≡ Err x → IsErrAnd r (λ e. e ≡ x) → Refuses o w r
none_at None w x k r ek q h = let e : w ≡ x = cc in record { nothing = refl; is = rw e (handed r x h) }
none_at (Some y) w x k r ek q h = apart cc

pub none_refused : {A T : Type 0} (o : Option A) (reason x : Reason) (k : Result A Reason) (r : Result T Refusal) → k ≡ ok_or o reason → k ≡ Err x → IsErrAnd r (λ e. e ≡ refusal_for x 0)
    → Refuses o (refusal_for reason 0) r
none_refused None reason x k r ek q h = let e : reason ≡ x = cc in record { nothing = refl; is = rw e (handed r (refusal_for x 0) h) }
none_refused (Some y) reason x k r ek q h = apart cc
