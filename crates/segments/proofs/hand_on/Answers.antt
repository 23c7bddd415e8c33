use Rattle.segments.proofs.Keeping.{handing_start, handing_at, handing_fits, handing_end, handing_few, handing_on}
use Rattle.std.proofs.Common.{rules}
use Rattle.segments.proofs.hand_on.Goals as goal

pub loop-i-init : goal.loop-i-init
loop-i-init c = search (handing_start, rules)

pub overflow_add-from : goal.overflow_add-from
overflow_add-from c = search (handing_fits, rules)

pub slice_bounds-keep-end : goal.slice_bounds-keep-end
slice_bounds-keep-end c = search (handing_end, rules)

pub keep-requires : goal.keep-requires
keep-requires c = (search (handing_at, rules), search (handing_few, rules))

pub loop-i-preserved : goal.loop-i-preserved
loop-i-preserved c = search (handing_on, rules)
