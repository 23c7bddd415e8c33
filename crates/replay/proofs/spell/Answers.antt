use Rattle.replay.proofs.Words.{spells_start, spells_empty, spells_wrong, spells_many, spells_none, spells_on, spells_done}
use Rattle.std.proofs.Common.{rules}
use Rattle.replay.proofs.spell.Goals as goal

pub returns-then-line-eq0 : goal.returns-then-line-eq0
returns-then-line-eq0 c = search (spells_empty, rules)

pub loop-at-init : goal.loop-at-init
loop-at-init c = search (spells_start, rules)

pub returns-then-line-at-ne32 : goal.returns-then-line-at-ne32
returns-then-line-at-ne32 c = search (spells_wrong, rules)

pub returns-then-count-eq5 : goal.returns-then-count-eq5
returns-then-count-eq5 c = search (spells_many, rules)

pub returns-then-n-at : goal.returns-then-n-at
returns-then-n-at c = search (spells_none, rules)

pub loop-at-preserved : goal.loop-at-preserved
loop-at-preserved c = search (spells_on, rules)

pub returns : goal.returns
returns c = search (spells_done, rules)
