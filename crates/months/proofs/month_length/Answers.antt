use Rattle.months.proofs.Lengths.{length_is}
use Rattle.std.proofs.Common.{rules}
use Rattle.months.proofs.month_length.Goals as goal

pub returns-clause-is : goal.returns-clause-is
returns-clause-is c = search (length_is, rules)
