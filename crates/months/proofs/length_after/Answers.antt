use Rattle.months.proofs.Ways.{after_year, after_here}
use Rattle.std.proofs.Common.{rules}
use Rattle.months.proofs.length_after.Goals as goal

pub returns-then-at-gt12-clause-is : goal.returns-then-at-gt12-clause-is
returns-then-at-gt12-clause-is c = search (after_year, rules)

pub returns-else-at-gt12-clause-is : goal.returns-else-at-gt12-clause-is
returns-else-at-gt12-clause-is c = search (after_here, rules)
