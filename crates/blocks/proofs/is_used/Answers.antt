use Rattle.blocks.proofs.Used.{used_tests}
use Rattle.std.proofs.Common.{rules}
use Rattle.blocks.proofs.is_used.Goals as goal

pub returns : goal.returns
returns c = search (used_tests, rules)
