use Rattle.copies.proofs.Finds.{find_first, find_second, find_none}
use Rattle.std.proofs.Common.{rules}
use Rattle.copies.proofs.find_copy.Goals as goal

pub returns-then-first-s : goal.returns-then-first-s
returns-then-first-s c = search (find_first, rules)

pub returns-then-second-s : goal.returns-then-second-s
returns-then-second-s c = find_second _ _ _ c.requires _ c.size-first.ensures.0
    c.if-first-s.false _ c.size-second.ensures.0 c.if-second-s.true

pub returns : goal.returns
returns c = find_none _ _ _ c.requires _ c.size-first.ensures.0
    c.if-first-s.false _ c.size-second.ensures.0 c.if-second-s.false
