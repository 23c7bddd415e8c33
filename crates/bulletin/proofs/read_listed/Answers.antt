use mathlib.Core.Path.{◌≡◌}
use Rattle.std.specs.Prelude.{Ok}
use Rattle.refusal.proofs.Exits.{handed}
use Rattle.bulletin.proofs.Reports.{listed_refused, listed_none, listed_some}
use Rattle.std.proofs.Common.{rules}
use Rattle.bulletin.proofs.read_listed.Goals as goal

pub returns-in_err-segments : goal.returns-in_err-segments
returns-in_err-segments c = rw (handed c.from_residual.result _ c.from_residual.ensures.1) (search (listed_refused, rules))

pub returns-then-segments-eq0 : goal.returns-then-segments-eq0
returns-then-segments-eq0 c =
    let y : c.read_segments.result ≡ Ok c.in_ok-segments.segments = c.in_ok-segments.was in
    search (listed_none, rules)

pub returns : goal.returns
returns c =
    let y : c.read_segments.result ≡ Ok c.in_ok-segments.segments = c.in_ok-segments.was in
    search (listed_some, rules)
