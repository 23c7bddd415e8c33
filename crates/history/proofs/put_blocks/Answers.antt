use Rattle.history.proofs.Stores.{one_placing, first_placing, second_placing, put_none, put_one, put_two}
use Rattle.std.proofs.Common.{rules}
use Rattle.history.proofs.put_blocks.Goals as goal

pub put_segment-requires : goal.put_segment-requires
put_segment-requires c = let p = one_placing _ c.requires _ _ c.in-One.is in
    (p.low, p.high, p.one, p.eight)

pub put_segment-requires-in-Two : goal.put_segment-requires-in-Two
put_segment-requires-in-Two c = let p = second_placing _ c.requires _ _ _ _ c.in-Two.is in
    (p.low, p.high, p.one, p.eight)

pub put_segment-requires-in-Two-2 : goal.put_segment-requires-in-Two-2
put_segment-requires-in-Two-2 c = let p = first_placing _ c.requires _ _ _ _ c.in-Two.is in
    (p.low, p.high, p.one, p.eight)

pub returns-in-Nothing : goal.returns-in-Nothing
returns-in-Nothing c = search (put_none, rules)

pub returns-in-One : goal.returns-in-One
returns-in-One c = search (put_one, rules)

pub returns-in-Two : goal.returns-in-Two
returns-in-Two c = let told = c.in-Two.is in
    put_two _ _ _ c.args.found _ _ _ _ told (first_placing _ c.requires _ _ _ _ told).low c.put_segment-in-Two.ensures
    c.put_segment-in-Two-2.ensures
