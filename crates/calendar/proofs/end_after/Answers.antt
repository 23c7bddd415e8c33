use Rattle.calendar.proofs.Ways.{ends_second, ends_third}
use Rattle.std.proofs.Common.{rules}
use Rattle.calendar.proofs.end_after.Goals as goal

pub returns-then-issue-second : goal.returns-then-issue-second
returns-then-issue-second c = search (ends_second, rules)

pub returns : goal.returns
returns c = search (ends_third, rules)
