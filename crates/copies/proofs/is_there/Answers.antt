use Rattle.copies.proofs.Finds.{there_zero, there_is}
use Rattle.std.proofs.Common.{rules}
use Rattle.copies.proofs.is_there.Goals as goal

pub returns-then-s-lt1 : goal.returns-then-s-lt1
returns-then-s-lt1 c = search (there_zero, rules)

pub returns : goal.returns
returns c = search (there_is, rules)
