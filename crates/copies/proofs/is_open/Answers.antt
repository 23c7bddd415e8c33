use Rattle.copies.proofs.Finds.{open_zero, open_far, open_is}
use Rattle.std.proofs.Common.{rules}
use Rattle.copies.proofs.is_open.Goals as goal

pub returns-then-d-lt1 : goal.returns-then-d-lt1
returns-then-d-lt1 c = search (open_zero, rules)

pub returns-then-d-gt4 : goal.returns-then-d-gt4
returns-then-d-gt4 c = search (open_far, rules)

pub returns : goal.returns
returns c = search (open_is, rules)
