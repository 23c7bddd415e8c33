use Rattle.codes.proofs.Forms.{purge_last, purge_more, purge_wrong}
use Rattle.std.proofs.Common.{rules}
use Rattle.codes.proofs.purge.Goals as goal

pub returns-then-is_last : goal.returns-then-is_last
returns-then-is_last c = search (purge_last, rules)

pub returns-then-is_time : goal.returns-then-is_time
returns-then-is_time c = purge_more _ _ c.requires.stands _ _ _ c.two.ensures.is c.two-2.ensures.is c.two-3.ensures.is _
    c.is_time.ensures c.if-is_time.true _ c.is_last.ensures c.if-is_last.false

pub returns : goal.returns
returns c = purge_wrong _ _ c.requires.stands _ _ _ c.two.ensures.is c.two-2.ensures.is c.two-3.ensures.is _
    c.is_time.ensures c.if-is_time.false
