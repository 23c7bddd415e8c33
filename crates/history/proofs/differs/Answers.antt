use Rattle.history.proofs.CommitFound.{differing_zero, differing_some}
use Rattle.std.proofs.Common.{rules}
use Rattle.history.proofs.differs.Goals as goal

pub returns-then-s-eq0 : goal.returns-then-s-eq0
returns-then-s-eq0 c = search (differing_zero, rules)

pub returns : goal.returns
returns c = search (differing_some, rules)
