use Rattle.segments.proofs.Stepping.{listing_start, listing_on, kept_some}
use mathlib.Core.Path.{◌≡◌}
use Rattle.std.specs.Prelude.{Some, Ok}
use Rattle.std.proofs.Common.{rules}
use Rattle.segments.proofs.read_segments.Goals as goal

pub loop-segment-init : goal.loop-segment-init
loop-segment-init c = search (listing_start, rules)

pub loop-segment-preserved : goal.loop-segment-preserved
loop-segment-preserved c =
    let q : c.next_segment.result ≡ Ok (Some c.in-Some.segment) = cc in
    search (listing_on, rules)

pub returns-in_err-segment-clause-refused : goal.returns-in_err-segment-clause-refused
returns-in_err-segment-clause-refused c = search (kept_some, rules)
