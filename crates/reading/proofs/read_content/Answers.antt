use Rattle.std.specs.Prelude.{Some}
use Rattle.std.proofs.Common.{rules, ◌≡◌}
use native.Mathlib.Omega.{arith}
use Rattle.refusal.proofs.Exits.{handed, Refuses, none_at}
use Rattle.reading.proofs.Contents.{content_refused, content_time, content_many, content_few}
use Rattle.reading.proofs.read_content.Goals as goal

pub returns-in_err-block-clause-is : goal.returns-in_err-block-clause-is
returns-in_err-block-clause-is c = rw (handed c.from_residual.result _ c.from_residual.ensures.1) (search (content_refused, rules))

pub returns-in_err-purge-clause-is : goal.returns-in_err-purge-clause-is
returns-in_err-purge-clause-is c =
    let p : Refuses c.purge_of.result c.at.result c.from_residual-in_err-purge.result = search (none_at, rules) in
    rw p.is (search (content_time, rules))

pub returns-then-block-clause-is : goal.returns-then-block-clause-is
returns-then-block-clause-is c =
    let given : c.purge_of.result ≡ Some c.in_ok-purge.purge = grind arith in
    search (content_many, rules)

pub returns-clause-is : goal.returns-clause-is
returns-clause-is c =
    let q : c.purge_of.result ≡ Some c.in_ok-purge.purge = grind arith in
    search (content_few, rules)
