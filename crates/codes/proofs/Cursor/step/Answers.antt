use Rattle.codes.proofs.Steps.{step_none, step_purge, step_covers}
use Rattle.std.proofs.Common.{rules}
use Rattle.codes.proofs.Cursor.step.Goals as goal

pub returns-then-n-at : goal.returns-then-n-at
returns-then-n-at c = search (step_none, rules)

pub returns-in_default : goal.returns-in_default
returns-in_default c = search (step_purge, rules)

pub returns : goal.returns
returns c = search (step_covers, rules)
