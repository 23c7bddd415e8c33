use Rattle.moves.proofs.StepsOne.{append_two_done}
use Rattle.std.proofs.Common.{rules}
use Rattle.moves.proofs.append_two.Goals as goal

pub returns : goal.returns
returns c = search (append_two_done, rules)
