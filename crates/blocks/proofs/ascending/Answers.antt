use Rattle.blocks.proofs.Scans.{rising_none, rising_more, rising_all}
use Rattle.std.proofs.Common.{rules}
use Rattle.blocks.proofs.ascending.Goals as goal

pub loop-k-init : goal.loop-k-init
loop-k-init c = search (rising_none, rules)

pub loop-k-preserved : goal.loop-k-preserved
loop-k-preserved c = search (rising_more, rules)

pub returns : goal.returns
returns c = search (rising_all, rules)
