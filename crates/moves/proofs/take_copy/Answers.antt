use Rattle.moves.proofs.Drafts.{taken}
use Rattle.std.proofs.Common.{rules}
use Rattle.moves.proofs.take_copy.Goals as goal

pub returns : goal.returns
returns c = search (taken, rules)
