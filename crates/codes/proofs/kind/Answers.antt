use Rattle.codes.proofs.Forms.{kind_z, kind_c}
use Rattle.std.proofs.Common.{rules}
use Rattle.codes.proofs.kind.Goals as goal

pub returns-then-f-eq90-clause-is : goal.returns-then-f-eq90-clause-is
returns-then-f-eq90-clause-is c = search (kind_z, rules)

pub returns-else-f-eq90-clause-is : goal.returns-else-f-eq90-clause-is
returns-else-f-eq90-clause-is c = search (kind_c, rules)
