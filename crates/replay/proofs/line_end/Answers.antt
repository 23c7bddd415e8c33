use Rattle.replay.proofs.Ends.{passes_start, passes_on, passes_lf, passes_end}
use Rattle.std.proofs.Common.{rules}
use Rattle.replay.proofs.line_end.Goals as goal

pub loop-i-init : goal.loop-i-init
loop-i-init c = search (passes_start, rules)

pub returns-then-input-i-eq10-clause-is : goal.returns-then-input-i-eq10-clause-is
returns-then-input-i-eq10-clause-is c = search (passes_lf, rules)

pub loop-i-preserved : goal.loop-i-preserved
loop-i-preserved c = search (passes_on, rules)

pub returns-clause-is : goal.returns-clause-is
returns-clause-is c = search (passes_end, rules)
