use Rattle.lines.proofs.Scans.{past_last, inside_start, inside_next, inside_here, inside_last}
use Rattle.std.proofs.Common.{rules}
use Rattle.lines.proofs.find_line.Goals as goal

pub returns-then-text-at : goal.returns-then-text-at
returns-then-text-at c = search (past_last, rules)

pub loop-at-init : goal.loop-at-init
loop-at-init c = search (inside_start, rules)

pub returns-then-text-end : goal.returns-then-text-end
returns-then-text-end c = search (inside_last, rules)

pub returns-then-is_ended : goal.returns-then-is_ended
returns-then-is_ended c = search (inside_here, rules)

pub loop-at-preserved : goal.loop-at-preserved
loop-at-preserved c = search (inside_next, rules)
