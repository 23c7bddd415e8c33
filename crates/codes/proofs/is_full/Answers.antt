use Rattle.lines.specs.Lines.{prefix_form}
use Rattle.codes.proofs.Forms.{form_short, full_by, full_not}
use Rattle.std.proofs.Common.{rules}
use Rattle.codes.proofs.is_full.Goals as goal

pub returns-then-text-i-lt3 : goal.returns-then-text-i-lt3
returns-then-text-i-lt3 c = search (form_short prefix_form, rules)

pub returns-then-capital : goal.returns-then-capital
returns-then-capital c = full_by c.args.text.now c.args.i _ c.capital.ensures c.if-capital.true _ c.capital-then-capital.ensures

pub returns : goal.returns
returns c = search (full_not, rules)
