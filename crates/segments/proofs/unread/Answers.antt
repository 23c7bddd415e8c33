use mathlib.Core.Path.{refl}
use Rattle.segments.specs.Seen.{unread}
use Rattle.segments.proofs.unread.Goals as goal

pub returns : goal.returns
unfolding unread
returns c = refl
