use native.Mathlib.Omega.{arith}
use Rattle.lines.proofs.Checks.{checks_start, checks_long, checks_wrong, checks_line, checks_less, checks_fine}
use Rattle.std.proofs.Common.{rules}
use Rattle.lines.proofs.check_text.Goals as goal

pub loop-start-init : goal.loop-start-init
loop-start-init c = search (checks_start, rules)

pub returns-then-end-start-gt132 : goal.returns-then-end-start-gt132
returns-then-end-start-gt132 c = checks_long _ _ c.loop-start.invariant _ c.printable_end-end.ensures.is (omega arith) _ c.at.ensures

pub loop-start-smaller : goal.loop-start-smaller
loop-start-smaller c = search (checks_less, rules)

pub loop-start-preserved : goal.loop-start-preserved
loop-start-preserved c = search (checks_line, rules)

pub returns-then-not-is_ended : goal.returns-then-not-is_ended
returns-then-not-is_ended c = search (checks_wrong, rules)

pub returns : goal.returns
returns c = search (checks_fine, rules)
