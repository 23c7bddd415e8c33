use Rattle.replay.proofs.Sums.{weighed, weighed_fits}
use Rattle.std.proofs.Common.{rules}
use Rattle.replay.proofs.weigh.Goals as goal

pub overflow_mul-result : goal.overflow_mul-result
overflow_mul-result c = search (weighed_fits, rules)

pub returns : goal.returns
returns c = search (weighed, rules)
