use Rattle.calendar.proofs.Ways.{month_issue}
use Rattle.std.proofs.Common.{rules}
use Rattle.calendar.proofs.is_month.Goals as goal

pub returns : goal.returns
returns c = search (month_issue, rules)
