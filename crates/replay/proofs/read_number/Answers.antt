use Rattle.replay.proofs.Digits.{some_start, some_next, some_ten, some_fits, some_stop, some_full, some_high, digit_least}
use Rattle.std.proofs.Common.{rules}
use Rattle.replay.proofs.read_number.Goals as goal

pub loop-k-init : goal.loop-k-init
loop-k-init c = search (some_start, rules)

pub returns-then-not-digit-clause-is : goal.returns-then-not-digit-clause-is
returns-then-not-digit-clause-is c = search (some_stop, rules)

pub returns-then-not-digit-clause-ends : goal.returns-then-not-digit-clause-ends
returns-then-not-digit-clause-ends c = (search rules, search (some_high, rules))

pub overflow_mul-value : goal.overflow_mul-value
overflow_mul-value c = search (some_ten, rules)

pub overflow_sub-value : goal.overflow_sub-value
overflow_sub-value c = search (digit_least, rules)

pub overflow_add-value : goal.overflow_add-value
overflow_add-value c = search (some_fits, rules)

pub loop-k-preserved : goal.loop-k-preserved
loop-k-preserved c = search (some_next, rules)

pub returns-clause-is : goal.returns-clause-is
returns-clause-is c = search (some_full, rules)
