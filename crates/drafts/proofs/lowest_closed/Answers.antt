use Rattle.drafts.proofs.Opens.{lowest_1, lowest_2, lowest_3, lowest_4, lowest_none}
use Rattle.std.proofs.Common.{rules}
use Rattle.drafts.proofs.lowest_closed.Goals as goal

pub returns-then-first-eq0 : goal.returns-then-first-eq0
returns-then-first-eq0 c = search (lowest_1, rules)

pub returns-then-second-eq0 : goal.returns-then-second-eq0
returns-then-second-eq0 c = search (lowest_2, rules)

pub returns-then-third-eq0 : goal.returns-then-third-eq0
returns-then-third-eq0 c = search (lowest_3, rules)

pub returns-then-fourth-eq0 : goal.returns-then-fourth-eq0
returns-then-fourth-eq0 c = search (lowest_4, rules)

pub returns : goal.returns
returns c = search (lowest_none, rules)
