use Rattle.checks.proofs.Unused.{Blank}
use Rattle.checks.proofs.is_blank.Given as goal

abbrev pub invariant-loop-j : goal.invariant-loop-j
invariant-loop-j l = Blank l.b l.j l.some
