use native.Mathlib.Omega.{arith}
use mathlib.Core.Path.{◌≡◌}
use Rattle.std.specs.Prelude.{None, Some}
use Rattle.refusal.specs.Answer.{refusal_for}
use Rattle.refusal.specs.declared.Reason.TheVariants.{WrongTime}
use Rattle.refusal.proofs.Exits.{Refuses, none_refused}
use Rattle.sending.proofs.Ways.{edited_undated, issue_on}
use Rattle.std.proofs.Common.{rules}
use Rattle.sending.proofs.write_sound.Goals as goal

pub returns-in_err-date : goal.returns-in_err-date
returns-in_err-date c =
    let p : Refuses c.date_of.result (refusal_for WrongTime 0) c.from_residual.result = search (none_refused, rules) in
    let n : c.date_of.result ≡ None = p.nothing in
    rw p.is (search (edited_undated, rules))

pub write_dated-requires-clause-issue_on : goal.write_dated-requires-clause-issue_on
write_dated-requires-clause-issue_on c =
    let q : c.date_of.result ≡ Some c.in_ok-date.date = grind arith in
    search (issue_on, rules)
