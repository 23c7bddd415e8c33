use Rattle.months.proofs.Ways.{passed_none, passed_on}
use Rattle.std.proofs.Common.{rules}
use Rattle.months.proofs.month_start.Goals as goal

pub loop-passed-init : goal.loop-passed-init
loop-passed-init c = search (passed_none, rules)

pub loop-passed-preserved : goal.loop-passed-preserved
loop-passed-preserved c = search (passed_on, rules)
