use Rattle.history.proofs.CommitFound.{pick_up, pick_down, pick_first, pick_second, pick_none}
use Rattle.std.proofs.Common.{rules}
use Rattle.history.proofs.pick.Goals as goal

pub returns-then-x-y : goal.returns-then-x-y
returns-then-x-y c = search (pick_up, rules)

pub returns-then-b : goal.returns-then-b
returns-then-b c = search (pick_down, rules)

pub returns-then-a : goal.returns-then-a
returns-then-a c = search (pick_first, rules)

pub returns-then-b-2 : goal.returns-then-b-2
returns-then-b-2 c = search (pick_second, rules)

pub returns : goal.returns
returns c = search (pick_none, rules)
