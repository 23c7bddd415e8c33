use Rattle.codes.proofs.Forms.{prefix_by}
use Rattle.std.proofs.Common.{rules}
use Rattle.codes.proofs.prefix.Goals as goal

pub returns : goal.returns
returns c = search (prefix_by, rules)
