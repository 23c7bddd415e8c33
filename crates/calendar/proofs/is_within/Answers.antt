use Rattle.calendar.proofs.Windows.{within_before, within_first, within_second, within_third}
use Rattle.std.proofs.Common.{rules}
use Rattle.calendar.proofs.is_within.Goals as goal

pub returns-then-minute-w : goal.returns-then-minute-w
returns-then-minute-w c = search (within_before, rules)

pub returns-then-minute-w-2 : goal.returns-then-minute-w-2
returns-then-minute-w-2 c = search (within_first, rules)

pub returns-then-minute-w-3 : goal.returns-then-minute-w-3
returns-then-minute-w-3 c = search (within_second, rules)

pub returns : goal.returns
returns c = search (within_third, rules)
