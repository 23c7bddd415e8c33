use Rattle.codes.proofs.Steps.{step_usual}
use Rattle.std.proofs.Common.{rules}
use Rattle.codes.proofs.Cursor.quick_step.Goals as goal

pub returns : goal.returns
returns c = search (step_usual, rules)
