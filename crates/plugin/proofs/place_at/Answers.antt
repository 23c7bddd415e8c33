use mathlib.Core.Path.{◌≡◌}
use Rattle.std.specs.Prelude.{Ok, Err}
use Rattle.refusal.proofs.Exits.{handed}
use Rattle.plugin.proofs.Finds.{place_no, place_far, place_in_lem}
use Rattle.std.proofs.Common.{rules}
use Rattle.plugin.proofs.place_at.Goals as goal

pub returns-in_err-content : goal.returns-in_err-content
returns-in_err-content c =
    let z : c.read_content.result ≡ Err c.in_err-content.field-0.0 = c.in_err-content.was in
    rw (handed c.from_residual.result _ c.from_residual.ensures.1) (search (place_no, rules))

pub returns-then-places-i : goal.returns-then-places-i
returns-then-places-i c =
    let q : c.read_content.result ≡ Ok c.in_ok-content.content = c.in_ok-content.was in
    search (place_far, rules)

pub returns : goal.returns
returns c =
    let q : c.read_content.result ≡ Ok c.in_ok-content.content = c.in_ok-content.was in
    search (place_in_lem, rules)
