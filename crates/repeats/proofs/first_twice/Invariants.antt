use Prim.Native.Nat.{◌-◌}
use Rattle.codes.specs.Places.{prefixes}
use Rattle.repeats.proofs.Passes.{Asked}
use Rattle.repeats.proofs.first_twice.Given as goal

abbrev pub invariant-loop-low : goal.invariant-loop-low
invariant-loop-low l = Asked l.text l.at l.low l.best

abbrev pub decreases-loop-low : goal.decreases-loop-low
decreases-loop-low l = prefixes - l.low
