use Rattle.moves.proofs.StepsForgot.{moving_start, moving_on, forget_done, forget_count}
use Rattle.std.proofs.Common.{rules}
use Rattle.moves.proofs.forget_oldest.Goals as goal

pub loop-k-init : goal.loop-k-init
loop-k-init c = search (moving_start, rules)

pub loop-k-preserved : goal.loop-k-preserved
loop-k-preserved c = search (moving_on, rules)

pub returns : goal.returns
returns c = record { lies = search (forget_done, rules); count = search (forget_count, rules) }
