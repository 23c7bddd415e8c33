use Rattle.sets.proofs.Sets.{filling_on, filling_done}
use Rattle.std.proofs.Common.{rules}
use Rattle.sets.proofs.Places.fill.Goals as goal

pub loop-k-preserved : goal.loop-k-preserved
loop-k-preserved c = search (filling_on, rules)

pub returns-clause-held : goal.returns-clause-held
returns-clause-held c = search (filling_done, rules)
