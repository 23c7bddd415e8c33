use mathlib.Core.Path.{sym, ◌∙◌}
use Rattle.edits.proofs.Places.{without_none, without_held}
use Rattle.edits.proofs.without_place.Goals as goal

pub returns-in-Some-clause-is : goal.returns-in-Some-clause-is
returns-in-Some-clause-is c = without_held _ _ c.requires _ (sym c.index_of.ensures ∙ c.in-Some.is) _ c.copy_within.ensures.after

pub returns-in_default-clause-is : goal.returns-in_default-clause-is
returns-in_default-clause-is c = without_none _ _ c.requires (sym c.index_of.ensures ∙ c.in_default.is)
