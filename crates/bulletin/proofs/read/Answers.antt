use Rattle.bulletin.proofs.Reports.{answers_reads, answers_sized}
use Rattle.std.proofs.Common.{rules}
use Rattle.bulletin.proofs.read.Goals as goal

pub returns-clause-is : goal.returns-clause-is
returns-clause-is c = search (answers_reads, rules)

pub returns-clause-sized : goal.returns-clause-sized
returns-clause-sized c = search (answers_sized, rules)
