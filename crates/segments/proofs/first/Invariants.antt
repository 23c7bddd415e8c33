use Prim.Native.Nat.{◌-◌}
use lib.ListN.{length}
use Rattle.segments.specs.Searching.{Tests}
use Rattle.segments.proofs.Seeking.{Seeks}
use Rattle.segments.proofs.first.Given as goal

abbrev pub invariant-search : goal.invariant-search
invariant-search g l = Seeks (Tests g.F.Fn l.is_sought) l.text l.from l.at

abbrev pub decreases-search : goal.decreases-search
decreases-search g l = length l.text - l.at
