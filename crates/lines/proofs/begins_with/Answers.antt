use Rattle.lines.proofs.Strings.{starts_is}
use Rattle.std.proofs.Common.{rules}
use Rattle.lines.proofs.begins_with.Goals as goal

pub returns : goal.returns
returns c = search (starts_is, rules)
