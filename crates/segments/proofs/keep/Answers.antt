use Rattle.segments.proofs.Keeping.{keep_none, keep_all}
use Rattle.std.proofs.Common.{rules}
use Rattle.segments.proofs.keep.Goals as goal

pub returns-then-at-kept : goal.returns-then-at-kept
returns-then-at-kept c = search (keep_all, rules)

pub returns-else-at-kept : goal.returns-else-at-kept
returns-else-at-kept c = search (keep_none, rules)
