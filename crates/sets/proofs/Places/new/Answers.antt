use mathlib.Core.Path.{refl}
use Rattle.sets.specs.Held.{vacant}
use Rattle.sets.proofs.Places.new.Goals as goal

pub returns : goal.returns
unfolding vacant
returns c = refl
