use Rattle.writing.proofs.Spelling.{stored_element}
use Rattle.std.proofs.Common.{rules}
use Rattle.writing.proofs.put_element.Goals as goal

pub returns : goal.returns
returns c = search (stored_element, rules)
