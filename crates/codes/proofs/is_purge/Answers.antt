use Rattle.codes.specs.Elements.{purge_form}
use Rattle.codes.proofs.Forms.{form_short, purge_by}
use Rattle.std.proofs.Common.{rules}
use Rattle.codes.proofs.is_purge.Goals as goal

pub returns-then-text-i-lt7 : goal.returns-then-text-i-lt7
returns-then-text-i-lt7 c = search (form_short purge_form, rules)

pub returns : goal.returns
returns c = search (purge_by, rules)
