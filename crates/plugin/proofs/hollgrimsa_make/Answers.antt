use Rattle.plugin.proofs.Ways.{make_packed, make_left}
use Rattle.std.proofs.Common.{rules}
use Rattle.plugin.proofs.hollgrimsa_make.Goals as goal

pub returns-clause-is : goal.returns-clause-is
returns-clause-is c = search (make_packed, rules)

pub returns-clause-left : goal.returns-clause-left
returns-clause-left c = search (make_left, rules)
