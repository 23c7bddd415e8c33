use Rattle.writing.proofs.Turning.{closed}
use Rattle.std.proofs.Common.{rules}
use Rattle.writing.proofs.State.close.Goals as goal

pub returns : goal.returns
returns c = search (closed, rules)
