use mathlib.Core.Path.{◌≡◌}
use Rattle.std.specs.Prelude.{Ok, Err}
use Rattle.refusal.proofs.Exits.{handed}
use Rattle.plugin.proofs.Finds.{find_no, find_low, find_far, find_one}
use Rattle.std.proofs.Common.{rules}
use Rattle.plugin.proofs.find_place.Goals as goal

pub returns-in_err-bulletin : goal.returns-in_err-bulletin
returns-in_err-bulletin c =
    let z : c.read.result ≡ Err c.in_err-bulletin.field-0.0 = c.in_err-bulletin.was in
    rw (handed c.from_residual.result _ c.from_residual.ensures.1) (search (find_no, rules))

pub returns-then-n-lt1 : goal.returns-then-n-lt1
returns-then-n-lt1 c =
    let q : c.read.result ≡ Ok c.in_ok-bulletin.bulletin = c.in_ok-bulletin.was in
    search (find_low, rules)

pub returns-then-segments-n : goal.returns-then-segments-n
returns-then-segments-n c =
    let q : c.read.result ≡ Ok c.in_ok-bulletin.bulletin = c.in_ok-bulletin.was in
    search (find_far, rules)

pub returns : goal.returns
returns c =
    let q : c.read.result ≡ Ok c.in_ok-bulletin.bulletin = c.in_ok-bulletin.was in
    search (find_one, rules)
