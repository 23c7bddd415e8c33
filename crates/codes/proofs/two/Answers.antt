use Rattle.codes.proofs.Forms.{two_past, two_by}
use Rattle.std.proofs.Common.{rules}
use Rattle.codes.proofs.two.Goals as goal

pub returns-then-e-k-clause-is : goal.returns-then-e-k-clause-is
returns-then-e-k-clause-is c = search (two_past, rules)

pub returns-clause-is : goal.returns-clause-is
returns-clause-is c = search (two_by, rules)
