use Rattle.std.proofs.Common.{rules, ◌≡◌, ◌∙◌}
use Rattle.std.proofs.iter.runs.Sources.{ranges}
use Rattle.std.specs.List.{list_all, range_with_len}
use Rattle.layout.specs.Tests.{is_draft_at}
use Rattle.layout.proofs.Tests.{all_upward}
use Rattle.layout.proofs.are_drafts.Goals as goal

pub returns : goal.returns
returns c = let e : c.all.result ≡ list_all (is_draft_at c.args.b.now) (range_with_len 0 4) = search (rules, ranges) in e ∙ all_upward (is_draft_at c.args.b.now) 0 4
