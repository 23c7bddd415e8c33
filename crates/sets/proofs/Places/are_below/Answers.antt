use Rattle.sets.proofs.Searches.{none_below, last_below}
use Rattle.std.proofs.Common.{rules}
use Rattle.sets.proofs.Places.are_below.Goals as goal

pub returns-then-self-eq0 : goal.returns-then-self-eq0
returns-then-self-eq0 c = search (none_below, rules)

pub returns-else-self-eq0 : goal.returns-else-self-eq0
returns-else-self-eq0 c = search (last_below, rules)
