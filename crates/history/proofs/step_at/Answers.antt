use Rattle.history.proofs.UndoSteps.{step_single, step_pair}
use Rattle.history.proofs.step_at.Goals as goal

pub returns-then-second-eq0 : goal.returns-then-second-eq0
returns-then-second-eq0 c = step_single _ _ _ c.from-first.ensures _ c.from-second.ensures c.if-second-eq0.true

pub returns : goal.returns
returns c = step_pair _ _ _ c.from-first.ensures _ c.from-second.ensures c.if-second-eq0.false
