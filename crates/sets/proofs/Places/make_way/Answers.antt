use Rattle.sets.proofs.Sets.{eights_moved}
use Rattle.std.proofs.Common.{rules}
use Rattle.sets.proofs.Places.make_way.Goals as goal

pub returns-then-i-n-le120-clause-held : goal.returns-then-i-n-le120-clause-held
returns-then-i-n-le120-clause-held c = search (eights_moved, rules)
