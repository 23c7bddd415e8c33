use Rattle.forms.proofs.Forming.{form_block, form_few, form_length}
use Rattle.std.proofs.Common.{rules}
use Rattle.forms.proofs.write_form.Goals as goal

pub load-held-requires : goal.load-held-requires
load-held-requires c = (search (form_block, rules), rw c.as_book.ensures (search (form_few, rules)))

pub returns : goal.returns
returns c = let holds = rw c.as_book.ensures at c.load-held.ensures.is in search (form_length, holds, rules)
