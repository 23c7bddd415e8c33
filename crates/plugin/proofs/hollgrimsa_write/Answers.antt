use Rattle.plugin.proofs.Ways.{write_packed, write_left}
use Rattle.std.proofs.Common.{rules}
use Rattle.plugin.proofs.hollgrimsa_write.Goals as goal

pub returns-clause-is : goal.returns-clause-is
returns-clause-is c = search (write_packed, rules)

pub returns-clause-left : goal.returns-clause-left
returns-clause-left c = search (write_left, rules)
