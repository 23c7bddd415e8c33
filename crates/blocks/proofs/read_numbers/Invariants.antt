use mathlib.Core.Path.{◌≡◌}
use lib.ListN.{length, take, drop}
use Rattle.codes.specs.Places.{capacity}
use Rattle.blocks.specs.Block.{numbers_of}
use Rattle.blocks.proofs.read_numbers.Given as goal

abbrev pub invariant-loop-i : goal.invariant-loop-i
invariant-loop-i l = (length l.places ≡ capacity) × (take l.i l.places ≡ numbers_of l.i (drop 8 l.b))
