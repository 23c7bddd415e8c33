use Rattle.moves.proofs.StepsOne.{append_one_done}
use Rattle.std.proofs.Common.{rules}
use Rattle.moves.proofs.append_one.Goals as goal

pub returns : goal.returns
returns c = search (append_one_done, rules)
