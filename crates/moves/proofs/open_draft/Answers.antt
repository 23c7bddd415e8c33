use Rattle.moves.proofs.Drafts.{opened}
use Rattle.std.proofs.Common.{rules}
use Rattle.moves.proofs.open_draft.Goals as goal

pub returns : goal.returns
returns c = search (opened, rules)
