use mathlib.Core.Path.{◌≡◌}
use Rattle.std.specs.Prelude.{Ok, Err}
use Rattle.refusal.proofs.Exits.{handed}
use Rattle.bulletin.proofs.Reports.{read_checked, read_topped, read_whole}
use Rattle.std.proofs.Common.{rules}
use Rattle.bulletin.proofs.read_into.Goals as goal

pub returns-in_err-check : goal.returns-in_err-check
returns-in_err-check c = rw (handed c.from_residual.result _ c.from_residual.ensures.1) (search (read_checked, rules))

pub returns-in_err-top : goal.returns-in_err-top
returns-in_err-top c =
    let z : c.read_top.result ≡ Err c.in_err-top.field-0.0 = c.in_err-top.was in
    let y : c.check.result ≡ Ok tt = c.in_ok-check.was in
    rw (handed c.from_residual-in_err-top.result _ c.from_residual-in_err-top.ensures.1) (search (read_topped, rules))

pub returns : goal.returns
returns c =
    let y : c.check.result ≡ Ok tt = c.in_ok-check.was in
    let z : c.read_top.result ≡ Ok c.in_ok-top.top = c.in_ok-top.was in
    search (read_whole, rules)
