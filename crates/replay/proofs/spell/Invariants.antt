use Prim.Native.Nat.{◌-◌}
use lib.ListN.{length}
use Rattle.replay.proofs.Words.{Spells}
use Rattle.replay.proofs.spell.Given as goal

abbrev pub invariant-loop-at : goal.invariant-loop-at
invariant-loop-at l = Spells l.line l.numbers l.count l.at

abbrev pub decreases-loop-at : goal.decreases-loop-at
decreases-loop-at l = length l.line - l.at
