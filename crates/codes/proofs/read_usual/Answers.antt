use mathlib.Core.Path.{sym, ◌∙◌}
use Rattle.codes.proofs.Forms.{usual_single, usual_range, usual_none}
use Rattle.std.proofs.Common.{rules}
use Rattle.codes.proofs.read_usual.Goals as goal

pub single-requires-clause-stands : goal.single-requires-clause-stands
single-requires-clause-stands c = sym c.is_single.ensures ∙ c.if-is_single.true

pub returns-then-is_single : goal.returns-then-is_single
returns-then-is_single c = search (usual_single, rules)

pub range-requires-clause-stands : goal.range-requires-clause-stands
range-requires-clause-stands c = sym c.is_range.ensures ∙ c.if-is_range.true

pub returns-then-is_range : goal.returns-then-is_range
returns-then-is_range c = search (usual_range, rules)

pub returns : goal.returns
returns c = search (usual_none, rules)
