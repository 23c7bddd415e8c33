use Rattle.making.proofs.Indexing.{indexed}
use Rattle.std.proofs.Common.{rules}
use Rattle.making.proofs.write_index.Goals as goal

pub returns : goal.returns
returns c = search (indexed, rules)
