use Rattle.history.proofs.CommitFound.{changes_are}
use Rattle.std.proofs.Common.{rules}
use Rattle.history.proofs.changes_in.Goals as goal

pub returns : goal.returns
returns c = search (changes_are, rules)
