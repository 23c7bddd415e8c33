use Rattle.std.proofs.Common.{◌≡◌, ◌+◌, ◌*◌, ◌≤◌}
use Rattle.lines.specs.Printables.{printables}
use Rattle.lines.proofs.printables.Given as goal

abbrev pub invariant-loop-block : goal.invariant-loop-block
invariant-loop-block l = (l.passed ≡ 4 + 64 * l.block-index) × (l.passed ≤ printables l.bytes)
