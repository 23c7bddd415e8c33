use lib.ListN.{drop}
use Rattle.codes.proofs.Climbs.{Climbs}
use Rattle.blocks.specs.Block.{numbers_of}
use Rattle.blocks.proofs.ascending.Given as goal

abbrev pub invariant-loop-k : goal.invariant-loop-k
invariant-loop-k l = Climbs (numbers_of l.n (drop 8 l.b)) l.k l.good
