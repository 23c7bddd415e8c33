use mathlib.Core.Path.{◌≡◌}
use Rattle.std.specs.Prelude.{Ok}
use Rattle.refusal.proofs.Exits.{handed}
use Rattle.bulletin.proofs.Saying.{keeps_refused, keeps_accepted}
use Rattle.std.proofs.Common.{rules}
use Rattle.bulletin.proofs.read_keeping.Goals as goal

pub returns-in_err-bulletin-clause-is : goal.returns-in_err-bulletin-clause-is
returns-in_err-bulletin-clause-is c = rw (handed c.from_residual.result _ c.from_residual.ensures.1) (search (keeps_refused, rules))

pub returns-clause-is : goal.returns-clause-is
returns-clause-is c =
    let y : c.read_into.result ≡ Ok c.in_ok-bulletin.bulletin = c.in_ok-bulletin.was in
    search (keeps_accepted, rules)
