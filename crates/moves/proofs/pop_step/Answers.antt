use Rattle.moves.proofs.StepsOne.{pop_step_done}
use Rattle.std.proofs.Common.{rules}
use Rattle.moves.proofs.pop_step.Goals as goal

pub returns : goal.returns
returns c = search (pop_step_done, rules)
