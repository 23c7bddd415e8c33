use Rattle.lines.proofs.Scans.{Looked}
use Rattle.lines.proofs.printables_in_block.Given as goal

abbrev pub invariant-loop-k : goal.invariant-loop-k
invariant-loop-k l = Looked l.block 64 l.first l.k
