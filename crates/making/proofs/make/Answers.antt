use mathlib.Core.Path.{◌≡◌}
use Rattle.std.specs.Prelude.{Ok, Err}
use Rattle.refusal.proofs.Exits.{handed}
use Rattle.making.proofs.Making.{make_short, make_refused, make_issue, make_storable, make_made}
use Rattle.std.proofs.Common.{rules}
use Rattle.making.proofs.make.Goals as goal

pub returns-in_default : goal.returns-in_default
returns-in_default c = let short = c.in_default.ensures.cases in search (make_short, rules)

pub fill-requires-clause-sized : goal.fill-requires-clause-sized
fill-requires-clause-sized c =
    let q : c.read_keeping.result ≡ Ok c.in_ok-bulletin.bulletin = c.in_ok-bulletin.was in
    (search rules, search (make_storable, rules))

pub write_index-requires : goal.write_index-requires
write_index-requires c =
    let q : c.read_keeping.result ≡ Ok c.in_ok-bulletin.bulletin = c.in_ok-bulletin.was in
    (search rules, search (make_issue, rules))

pub returns-in_err-bulletin : goal.returns-in_err-bulletin
returns-in_err-bulletin c =
    let z : c.read_keeping.result ≡ Err c.in_err-bulletin.field-0.0 = c.in_err-bulletin.was in
    let whole = c.in-Some.ensures.cases in
    let long = whole.long in
    rw (handed c.from_residual.result _ c.from_residual.ensures.1) (rw whole.same (search (make_refused, long, rules)))

pub returns : goal.returns
returns c =
    let q : c.read_keeping.result ≡ Ok c.in_ok-bulletin.bulletin = c.in_ok-bulletin.was in
    let long = c.in-Some.ensures.cases.long in
    search (make_made, long, rules)
