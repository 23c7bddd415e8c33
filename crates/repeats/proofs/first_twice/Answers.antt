use Rattle.repeats.proofs.Rising.{rising_or_falling_once}
use Rattle.repeats.proofs.Passes.{asked_on, asked_done}
use Rattle.std.proofs.Common.{rules}
use Rattle.repeats.proofs.first_twice.Goals as goal

pub returns-then-outline : goal.returns-then-outline
returns-then-outline c = search (rising_or_falling_once, rules)

pub loop-low-preserved : goal.loop-low-preserved
loop-low-preserved c = search (asked_on, rules)

pub returns : goal.returns
returns c = search (asked_done, rules)
