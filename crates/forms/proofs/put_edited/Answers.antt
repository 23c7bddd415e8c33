use Rattle.forms.proofs.Putting.{putting_fits, putting_kept, putting_block, putting_on, putting_rest, putting_done}
use Rattle.std.proofs.Common.{rules}
use Rattle.forms.proofs.put_edited.Goals as goal

pub overflow_add-next : goal.overflow_add-next
overflow_add-next c = search (putting_fits, rules)

pub put-pos-requires : goal.put-pos-requires
put-pos-requires c = search (putting_kept, rules)

pub put-pos-requires-in-loop-i : goal.put-pos-requires-in-loop-i
put-pos-requires-in-loop-i c = search (putting_block, rules)

pub loop-i-preserved : goal.loop-i-preserved
loop-i-preserved c = putting_on _ _ _ _ _ _ _ _ _ _ _ c.loop-i.invariant (search rules) _ _ c.part-kept.ensures _ _ c.put-pos.ensures
    _ c.part-block.ensures _ _ c.put-pos-in-loop-i.ensures

pub put-requires : goal.put-requires
put-requires c = search (putting_rest, rules)

pub returns : goal.returns
returns c = putting_done _ _ _ _ _ _ _ _ _ _ _ c.loop-i.invariant (search rules) _ c.part-rest.ensures _ _ c.put.ensures
