use Rattle.calendar.specs.Calendar.{is_time}
use mathlib.Core.Path.{refl}
use Rattle.calendar.proofs.is_time.Goals as goal

pub returns : goal.returns
unfolding is_time
returns c = refl
