use Rattle.reading.proofs.Blocks.{reads_start, reads_low, reads_less, reads_known, reads_held, reads_over, reads_twice, reads_purge, reads_wrong, over_good}
use Rattle.std.proofs.Common.{rules}
use Rattle.reading.proofs.read_block.Goals as goal

pub loop-prefix-init : goal.loop-prefix-init
loop-prefix-init c = search (reads_start, rules)

pub cover-requires-clause-low : goal.cover-requires-clause-low
cover-requires-clause-low c = search (reads_low, rules)

pub loop-prefix-smaller : goal.loop-prefix-smaller
loop-prefix-smaller c = search (reads_less, rules)

pub loop-prefix-preserved : goal.loop-prefix-preserved
loop-prefix-preserved c = search (reads_held, rules)

pub found_over-requires : goal.found_over-requires
found_over-requires c = search (reads_known, rules)

pub returns-in-Over-clause-is : goal.returns-in-Over-clause-is
returns-in-Over-clause-is c = search (reads_over, rules)

pub returns-in-Over-clause-good : goal.returns-in-Over-clause-good
returns-in-Over-clause-good c = search (over_good, rules)

pub found_twice-requires : goal.found_twice-requires
found_twice-requires c = search (reads_known, rules)

pub returns-in-Twice-clause-is : goal.returns-in-Twice-clause-is
returns-in-Twice-clause-is c = search (reads_twice, rules)

pub returns-in-Purge-clause-is : goal.returns-in-Purge-clause-is
returns-in-Purge-clause-is c = search (reads_purge, rules)

pub returns-in-Wrong-clause-is : goal.returns-in-Wrong-clause-is
returns-in-Wrong-clause-is c = search (reads_wrong, rules)
