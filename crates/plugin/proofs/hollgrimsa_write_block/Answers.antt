use Rattle.plugin.proofs.Ways.{block_packed, block_left}
use Rattle.std.proofs.Common.{rules}
use Rattle.plugin.proofs.hollgrimsa_write_block.Goals as goal

pub returns-clause-is : goal.returns-clause-is
returns-clause-is c = search (block_packed, rules)

pub returns-clause-left : goal.returns-clause-left
returns-clause-left c = search (block_left, rules)
