use Rattle.laws.proofs.Stores.{copied_start, copied_on}
use Rattle.writing.proofs.Spelling.{stored_all}
use Rattle.std.proofs.Common.{rules}
use Rattle.writing.proofs.put.Goals as goal

pub loop-i-init : goal.loop-i-init
loop-i-init c = search (copied_start, rules)

pub loop-i-preserved : goal.loop-i-preserved
loop-i-preserved c = search (copied_on, rules)

pub returns : goal.returns
returns c = search (stored_all, rules)
