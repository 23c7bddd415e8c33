use Rattle.packing.proofs.Ways.{view_none, view_some}
use Rattle.std.proofs.Common.{rules}
use Rattle.packing.proofs.pack_view.Goals as goal

pub returns-then-past-start : goal.returns-then-past-start
returns-then-past-start c = search (view_none, rules)

pub returns : goal.returns
returns c = search (view_some, rules)
