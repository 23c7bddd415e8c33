use mathlib.Core.Path.{sym, ◌∙◌}
use Rattle.codes.proofs.Forms.{numbers_all, numbers_none}
use Rattle.std.proofs.Common.{rules}
use Rattle.codes.proofs.numbers.Goals as goal

pub single-requires-clause-stands : goal.single-requires-clause-stands
single-requires-clause-stands c = sym c.is_single.ensures ∙ c.if-is_single.true

pub returns-then-is_all : goal.returns-then-is_all
returns-then-is_all c = search (numbers_all, rules)

pub range-requires-clause-stands : goal.range-requires-clause-stands
range-requires-clause-stands c = sym c.is_range.ensures ∙ c.if-is_range.true

pub returns : goal.returns
returns c = numbers_none _ _ _ _ c.is_single.ensures c.if-is_single.false _ c.is_all.ensures c.if-is_all.false _
    c.is_range.ensures c.if-is_range.false
