use mathlib.Core.Path.{sym}
use Rattle.months.proofs.Laws.{start_year}
use Rattle.months.proofs.days_before.Goals as goal

pub returns-clause-is : goal.returns-clause-is
returns-clause-is c = sym (start_year _)
