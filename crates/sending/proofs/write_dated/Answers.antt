use mathlib.Core.Path.{◌≡◌}
use Rattle.std.specs.Prelude.{Ok, Err}
use Rattle.refusal.proofs.Exits.{handed}
use Rattle.sending.proofs.Ways.{edited_unread, edited_belongs, edited_stranger}
use Rattle.std.proofs.Common.{rules}
use Rattle.sending.proofs.write_dated.Goals as goal

pub returns-in_err-bulletin : goal.returns-in_err-bulletin
returns-in_err-bulletin c =
    let z : c.read.result ≡ Err c.in_err-bulletin.field-0.0 = c.in_err-bulletin.was in
    rw (handed c.from_residual.result _ c.from_residual.ensures.1) (search (edited_unread, rules))

pub write_read-requires-clause-belonging : goal.write_read-requires-clause-belonging
write_read-requires-clause-belonging c =
    let q : c.read.result ≡ Ok c.in_ok-bulletin.bulletin = c.in_ok-bulletin.was in
    search (edited_belongs, rules)

pub returns-then-not-agrees : goal.returns-then-not-agrees
returns-then-not-agrees c =
    let q : c.read.result ≡ Ok c.in_ok-bulletin.bulletin = c.in_ok-bulletin.was in
    search (edited_stranger, rules)
