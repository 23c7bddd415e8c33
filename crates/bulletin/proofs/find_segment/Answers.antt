use mathlib.Core.Path.{◌≡◌}
use Rattle.std.specs.Prelude.{Ok}
use Rattle.refusal.proofs.Exits.{handed}
use Rattle.bulletin.proofs.Views.{view_refused, view_one, view_low, view_far}
use Rattle.std.proofs.Common.{rules}
use Rattle.bulletin.proofs.find_segment.Goals as goal

pub returns-in_err-bulletin : goal.returns-in_err-bulletin
returns-in_err-bulletin c = rw (handed c.from_residual.result _ c.from_residual.ensures.1) (search (view_refused, rules))

pub returns-then-n-lt1 : goal.returns-then-n-lt1
returns-then-n-lt1 c =
    let y : c.read.result ≡ Ok c.in_ok-bulletin.bulletin = c.in_ok-bulletin.was in
    search (view_low, rules)

pub returns-then-segments-n : goal.returns-then-segments-n
returns-then-segments-n c =
    let y : c.read.result ≡ Ok c.in_ok-bulletin.bulletin = c.in_ok-bulletin.was in
    search (view_far, rules)

pub returns : goal.returns
returns c =
    let y : c.read.result ≡ Ok c.in_ok-bulletin.bulletin = c.in_ok-bulletin.was in
    search (view_one, rules)
