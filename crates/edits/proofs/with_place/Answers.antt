use Rattle.edits.proofs.Places.{with_held}
use Rattle.std.proofs.Common.{rules}
use Rattle.edits.proofs.with_place.Goals as goal

pub returns-clause-is : goal.returns-clause-is
returns-clause-is c = search (with_held, rules)
