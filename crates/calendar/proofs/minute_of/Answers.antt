use Rattle.calendar.proofs.Ways.{minute_unusable, minute_month, minute_twelve, minute_time, minute_none, minute_here}
use Rattle.std.proofs.Common.{rules}
use Rattle.calendar.proofs.minute_of.Goals as goal

pub returns-then-not-usable : goal.returns-then-not-usable
returns-then-not-usable c = search (minute_unusable, rules)

pub month_length-requires : goal.month_length-requires
month_length-requires c = search (minute_twelve, rules)

pub month_start-requires : goal.month_start-requires
month_start-requires c = search (minute_month, rules)

pub time_in-requires : goal.time_in-requires
time_in-requires c = search (minute_time, rules)

pub returns-then-s-month_length : goal.returns-then-s-month_length
returns-then-s-month_length c = search (minute_here, rules)

pub returns : goal.returns
returns c = search (minute_none, rules)
