use Rattle.plugin.proofs.Ways.{does_packed, does_left}
use Rattle.std.proofs.Common.{rules}
use Rattle.plugin.proofs.hollgrimsa_take.Goals as goal

pub returns-clause-is : goal.returns-clause-is
returns-clause-is c = search (does_packed, rules)

pub returns-clause-left : goal.returns-clause-left
returns-clause-left c = search (does_left, rules)
