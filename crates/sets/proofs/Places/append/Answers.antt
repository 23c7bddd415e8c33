use Rattle.sets.proofs.Sets.{append_over, append_total}
use Rattle.std.proofs.Common.{rules}
use Rattle.sets.proofs.Places.append.Goals as goal

pub returns-then-end-gt120 : goal.returns-then-end-gt120
returns-then-end-gt120 c = search (append_over, rules)

pub returns : goal.returns
returns c = search (append_total, rules)
