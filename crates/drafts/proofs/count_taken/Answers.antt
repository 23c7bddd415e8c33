use Rattle.drafts.proofs.Takes.{count_none, count_one, count_two}
use Rattle.std.proofs.Common.{rules}
use Rattle.drafts.proofs.count_taken.Goals as goal

pub returns-then-first-eq0 : goal.returns-then-first-eq0
returns-then-first-eq0 c = search (count_none, rules)

pub returns-then-second-eq0 : goal.returns-then-second-eq0
returns-then-second-eq0 c = search (count_one, rules)

pub returns : goal.returns
returns c = search (count_two, rules)
