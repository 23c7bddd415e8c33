use Rattle.months.proofs.Ways.{turns_first, turns_on, turns_end, month_gone}
use Rattle.std.proofs.Common.{rules}
use Rattle.months.proofs.month_of.Goals as goal

pub returns-then-minute-ge-END : goal.returns-then-minute-ge-END
returns-then-minute-ge-END c = search (month_gone, rules)

pub loop-month-init : goal.loop-month-init
loop-month-init c = search (turns_first, rules)

pub loop-month-preserved : goal.loop-month-preserved
loop-month-preserved c = search (turns_on, rules)

pub returns-then-minute-next : goal.returns-then-minute-next
returns-then-minute-next c = search (turns_end, rules)
