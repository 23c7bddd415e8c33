use mathlib.Core.Path.{◌∙◌}
use Rattle.edits.proofs.Places.{member_any}
use Rattle.edits.proofs.has_place.Goals as goal

pub returns : goal.returns
returns c = c.contains.ensures.value ∙ member_any c.args.p _
