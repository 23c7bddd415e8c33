use Rattle.replay.proofs.Sums.{totals_start, totals_on, totals_done}
use Rattle.std.proofs.Common.{rules}
use Rattle.replay.proofs.total.Goals as goal

pub loop-i-init : goal.loop-i-init
loop-i-init c = search (totals_start, rules)

pub loop-i-preserved : goal.loop-i-preserved
loop-i-preserved c = search (totals_on, rules)

pub returns : goal.returns
returns c = search (totals_done, rules)
