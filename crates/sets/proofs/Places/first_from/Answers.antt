use Rattle.sets.proofs.Searches.{counted_room, counted_done}
use Rattle.std.proofs.Common.{rules}
use Rattle.sets.proofs.Places.first_from.Goals as goal

pub overflow_sub-result-2 : goal.overflow_sub-result-2
overflow_sub-result-2 c = counted_room _ _ c.requires c.if-p-eq0.false _ c.count_below.ensures

pub returns-clause-is : goal.returns-clause-is
returns-clause-is c = search (counted_done, rules)
