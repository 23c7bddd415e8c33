use mathlib.Core.Path.{◌≡◌}
use lib.ListN.{take}
use lib.Seq.{sets}
use Rattle.blocks.specs.Block.{bytes32, flat}
use Rattle.blocks.proofs.put_numbers.Given as goal

abbrev pub invariant-loop-i : goal.invariant-loop-i
invariant-loop-i l = l.b ≡ sets l.initial.b 8 (flat bytes32 (take l.i l.places))
