use mathlib.Core.Path.{sym, ap}
use Rattle.history.specs.Changing.{changed_of}
use Rattle.history.proofs.segments.Goals as goal

pub returns-in-One : goal.returns-in-One
returns-in-One c = sym (ap changed_of c.in-One.is)

pub returns-in-Two : goal.returns-in-Two
returns-in-Two c = sym (ap changed_of c.in-Two.is)
