use Rattle.codes.specs.Elements.{single_form}
use Rattle.codes.proofs.Forms.{form_short, single_by, single_not}
use Rattle.std.proofs.Common.{rules}
use Rattle.codes.proofs.is_single.Goals as goal

pub returns-then-text-i-lt4 : goal.returns-then-text-i-lt4
returns-then-text-i-lt4 c = search (form_short single_form, rules)

pub returns-then-text-i-eq45 : goal.returns-then-text-i-eq45
returns-then-text-i-eq45 c = search (single_by, rules)

pub returns : goal.returns
returns c = search (single_not, rules)
