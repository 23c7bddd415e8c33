use Rattle.repeats.proofs.Passing.{passing_start, passing_low, passing_less, passing_hit, passing_on, passing_end}
use Rattle.std.proofs.Common.{rules}
use Rattle.repeats.proofs.twice_under.Goals as goal

pub loop-prefix-init : goal.loop-prefix-init
loop-prefix-init c = search (passing_start, rules)

pub note-requires-clause-low : goal.note-requires-clause-low
note-requires-clause-low c = search (passing_low, rules)

pub returns-then-note-clause-is : goal.returns-then-note-clause-is
returns-then-note-clause-is c = search (passing_hit, rules)

pub loop-prefix-smaller : goal.loop-prefix-smaller
loop-prefix-smaller c = search (passing_less, rules)

pub loop-prefix-preserved : goal.loop-prefix-preserved
loop-prefix-preserved c = search (passing_on, rules)

pub returns-clause-is : goal.returns-clause-is
returns-clause-is c = search (passing_end, rules)
