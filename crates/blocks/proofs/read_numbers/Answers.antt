use Rattle.blocks.proofs.Stored.{reading_more}
use Rattle.std.proofs.Common.{rules}
use Rattle.blocks.proofs.read_numbers.Goals as goal

pub loop-i-preserved : goal.loop-i-preserved
loop-i-preserved c = (search rules, search (reading_more, rules))
