use Rattle.codes.specs.Elements.{range_form}
use Rattle.codes.proofs.Forms.{form_short, range_by}
use Rattle.std.proofs.Common.{rules}
use Rattle.codes.proofs.is_range.Goals as goal

pub returns-then-text-i-lt8 : goal.returns-then-text-i-lt8
returns-then-text-i-lt8 c = search (form_short range_form, rules)

pub returns : goal.returns
returns c = search (range_by, rules)
