use Rattle.repeats.proofs.Rising.{outlined_start, rise_end, fall_end, quiet_end}
use Rattle.repeats.proofs.Rising.{outlined_less, outlined_base, outlined_from, outlined_to, outlined_end, outlined_on}
use Rattle.std.proofs.Common.{rules}
use Rattle.repeats.proofs.survey.Goals as goal

pub loop-prefix-init : goal.loop-prefix-init
loop-prefix-init c = search (outlined_start, rules)

pub overflow_mul-base : goal.overflow_mul-base
overflow_mul-base c = search (outlined_base, rules)

pub overflow_add-from : goal.overflow_add-from
overflow_add-from c = search (outlined_from, rules)

pub overflow_add-to : goal.overflow_add-to
overflow_add-to c = search (outlined_to, rules)

pub overflow_add-high : goal.overflow_add-high
overflow_add-high c = search (outlined_end, rules)

pub loop-prefix-smaller : goal.loop-prefix-smaller
loop-prefix-smaller c = search (outlined_less, rules)

pub loop-prefix-preserved : goal.loop-prefix-preserved
loop-prefix-preserved c = search (outlined_on, rules)

pub returns-clause-up : goal.returns-clause-up
returns-clause-up c = search (rise_end, rules)

pub returns-clause-down : goal.returns-clause-down
returns-clause-down c = search (fall_end, rules)

pub returns-clause-quiet : goal.returns-clause-quiet
returns-clause-quiet c = search (quiet_end, rules)
