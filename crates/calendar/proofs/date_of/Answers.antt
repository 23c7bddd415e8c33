-- date_of
use Rattle.months.proofs.Ways.{none_found, stands, start_low}
use Rattle.calendar.proofs.Ways.{date_on, date_none}
use Rattle.std.proofs.Common.{rules}
use Rattle.calendar.proofs.date_of.Goals as goal

pub returns-in_err-m : goal.returns-in_err-m
returns-in_err-m c = let gone = c.in_err-m.was in search (date_none, none_found, rules)

pub overflow_sub-left : goal.overflow_sub-left
overflow_sub-left c = let here = c.in_ok-m.was in search (start_low, rules)

pub returns : goal.returns
returns c = let here = c.in_ok-m.was in search (date_on, stands, rules)
