use Rattle.forms.proofs.Forming.{forming_start, forming_on, forming_done}
use Rattle.std.proofs.Common.{rules}
use Rattle.forms.proofs.write_forms.Goals as goal

pub loop-i-init : goal.loop-i-init
loop-i-init c = search (forming_start, rules)

pub loop-i-preserved : goal.loop-i-preserved
loop-i-preserved c = forming_on _ _ _ _ _ _ _ c.loop-i.invariant (search rules) _ _ _ c.write_form-size.ensures

pub returns : goal.returns
returns c = search (forming_done, rules)
