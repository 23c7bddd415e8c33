use Rattle.writing.proofs.Turning.{turn_join, turn_gap}
use Rattle.std.proofs.Common.{rules}
use Rattle.writing.proofs.State.turn.Goals as goal

pub returns-then-joins : goal.returns-then-joins
returns-then-joins c = search (turn_join, rules)

pub returns : goal.returns
returns c = search (turn_gap, rules)
