use Rattle.calendar.specs.Calendar.{is_issue_month}
use mathlib.Core.Path.{refl}
use Rattle.calendar.proofs.is_issue_month.Goals as goal

pub returns : goal.returns
unfolding is_issue_month
returns c = refl
