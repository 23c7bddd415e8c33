use Rattle.plugin.proofs.Ways.{edited_packed, edited_left}
use Rattle.std.proofs.Common.{rules}
use Rattle.plugin.proofs.hollgrimsa_write_edited.Goals as goal

pub returns-clause-is : goal.returns-clause-is
returns-clause-is c = search (edited_packed, rules)

pub returns-clause-left : goal.returns-clause-left
returns-clause-left c = search (edited_left, rules)
