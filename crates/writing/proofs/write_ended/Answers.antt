use Rattle.std.specs.Prelude.{Some}
use Rattle.refusal.specs.declared.Reason.TheVariants.{OutOfRange}
use Rattle.refusal.specs.Answer.{refusal_for}
use Rattle.refusal.proofs.Exits.{Refuses, none_refused}
use Rattle.writing.proofs.Writing.{writes_no_set, writes_no_date, writes_time, writes_short, writes_whole}
use native.Mathlib.Omega.{arith}
use mathlib.Core.Path.{◌≡◌}
use Rattle.std.proofs.Common.{rules}
use Rattle.writing.proofs.write_ended.Goals as goal

pub returns-then-not-is_set : goal.returns-then-not-is_set
returns-then-not-is_set c = search (writes_no_set, rules)

pub returns-in_err-date : goal.returns-in_err-date
returns-in_err-date c =
    let p : Refuses c.date_of.result (refusal_for OutOfRange 0) c.from_residual.result = search (none_refused, rules) in
    rw p.is (search (writes_no_date, rules))

pub compose-n-requires-clause-stamp_value : goal.compose-n-requires-clause-stamp_value
compose-n-requires-clause-stamp_value c =
    let q : c.date_of.result ≡ Some c.in_ok-date.date = grind arith in
    search (writes_time, rules)

pub returns-then-out-n : goal.returns-then-out-n
returns-then-out-n c =
    let q : c.date_of.result ≡ Some c.in_ok-date.date = grind arith in
    search (writes_short, rules)

pub returns : goal.returns
returns c =
    let q : c.date_of.result ≡ Some c.in_ok-date.date = grind arith in
    search (writes_whole, rules)
