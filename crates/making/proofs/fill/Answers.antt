use Rattle.making.proofs.Filling.{filling_start, filling_fits, filling_low, filling_end, filling_few, filling_on}
use Rattle.std.proofs.Common.{rules}
use Rattle.making.proofs.fill.Goals as goal

pub loop-i-init : goal.loop-i-init
loop-i-init c = search (filling_start, rules)

pub overflow_add-to : goal.overflow_add-to
overflow_add-to c = search (filling_fits, rules)

pub overflow_cast-segment : goal.overflow_cast-segment
overflow_cast-segment c = search (filling_low, rules)

pub slice_bounds-store-end : goal.slice_bounds-store-end
slice_bounds-store-end c = search (filling_end, rules)

pub store-requires : goal.store-requires
store-requires c = (search rules, search (filling_few, rules))

pub loop-i-preserved : goal.loop-i-preserved
loop-i-preserved c = filling_on _ _ _ _ c.loop-i.invariant (search rules) _ (search rules) _ c.store.ensures
