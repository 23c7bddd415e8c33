use lib.ListN.{length}
use Rattle.laws.proofs.Stores.{Copied}
use Rattle.writing.proofs.put.Given as goal

abbrev pub invariant-loop-i : goal.invariant-loop-i
invariant-loop-i l = Copied l.initial.out l.out l.pos l.bytes (length l.bytes) l.i
