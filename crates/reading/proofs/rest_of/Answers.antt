use Rattle.reading.proofs.Rests.{resting_start, resting_less, resting_on, resting_purge, resting_wrong}
use Rattle.std.proofs.Common.{rules}
use Rattle.reading.proofs.rest_of.Goals as goal

pub loop-prefix-init : goal.loop-prefix-init
loop-prefix-init c = search (resting_start, rules)

pub loop-prefix-smaller : goal.loop-prefix-smaller
loop-prefix-smaller c = search (resting_less, rules)

pub loop-prefix-preserved : goal.loop-prefix-preserved
loop-prefix-preserved c = search (resting_on, rules)

pub returns-in-Purge : goal.returns-in-Purge
returns-in-Purge c = search (resting_purge, rules)

pub returns-in-Wrong : goal.returns-in-Wrong
returns-in-Wrong c = search (resting_wrong, rules)
