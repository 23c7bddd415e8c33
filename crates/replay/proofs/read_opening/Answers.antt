use Rattle.replay.proofs.Starts.{head_is, start_unasked, start_short, start_other, start_unended, start_few, start_case, start_end_lem}
use Rattle.std.proofs.Common.{rules}
use Rattle.replay.proofs.read_opening.Goals as goal

pub returns-in_err-time-clause-is : goal.returns-in_err-time-clause-is
returns-in_err-time-clause-is c = let gone = c.in_err-time.was in search (start_unasked, head_is, rules)

pub returns-then-room-lt14-clause-is : goal.returns-then-room-lt14-clause-is
returns-then-room-lt14-clause-is c = let time = c.in_ok-time.was in search (start_short, head_is, rules)

pub returns-then-n-ne13-clause-is : goal.returns-then-n-ne13-clause-is
returns-then-n-ne13-clause-is c = let time = c.in_ok-time.was in search (start_other, head_is, rules)

pub returns-then-head-ne10-clause-is : goal.returns-then-head-ne10-clause-is
returns-then-head-ne10-clause-is c = let time = c.in_ok-time.was in search (start_unended, head_is, rules)

pub returns-then-room-n-clause-is : goal.returns-then-room-n-clause-is
returns-then-room-n-clause-is c = let time = c.in_ok-time.was in search (start_few, head_is, rules)

pub returns-clause-is : goal.returns-clause-is
returns-clause-is c = let time = c.in_ok-time.was in search (start_case, head_is, rules)

pub returns-clause-ends : goal.returns-clause-ends
returns-clause-ends c = (search rules, search (start_end_lem, head_is, rules))
