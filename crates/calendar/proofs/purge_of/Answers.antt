use Rattle.months.proofs.Ways.{none_found, stands, in_year, days_most, days_fit, sum_fits, next_fits, third_fits}
use Rattle.calendar.proofs.Ways.{purge_unusable, usable_time, purge_none, purge_first, purge_second, purge_third, purge_gone}
use Rattle.std.proofs.Common.{rules}
use Rattle.calendar.proofs.purge_of.Goals as goal

pub returns-then-not-usable : goal.returns-then-not-usable
returns-then-not-usable c = search (purge_unusable, rules)

pub returns-in_err-m : goal.returns-in_err-m
returns-in_err-m c = let gone = c.in_err-m.was in search (purge_none, none_found, rules)

pub time_in-requires : goal.time_in-requires
time_in-requires c = let here = c.in_ok-m.was in search (usable_time, rules)

pub overflow_add-here : goal.overflow_add-here
overflow_add-here c = let here = c.in_ok-m.was in search (sum_fits, rules)

pub returns-then-s-m : goal.returns-then-s-m
returns-then-s-m c = let here = c.in_ok-m.was in search (purge_first, stands, rules)

pub overflow_mul-lasts : goal.overflow_mul-lasts
overflow_mul-lasts c = let here = c.in_ok-m.was in search (days_fit, rules)

pub overflow_add-next : goal.overflow_add-next
overflow_add-next c = let here = c.in_ok-m.was in search (next_fits, rules)

pub length_after-days-requires : goal.length_after-days-requires
length_after-days-requires c = let here = c.in_ok-m.was in (search (in_year, rules), search rules)

pub returns-then-s-days : goal.returns-then-s-days
returns-then-s-days c = let here = c.in_ok-m.was in search (purge_second, stands, rules)

pub length_after-last-requires : goal.length_after-last-requires
length_after-last-requires c = let here = c.in_ok-m.was in (search (in_year, rules), search rules)

pub overflow_add-m : goal.overflow_add-m
overflow_add-m c = let here = c.in_ok-m.was in search (sum_fits, days_most, rules)

pub overflow_add-result : goal.overflow_add-result
overflow_add-result c = let here = c.in_ok-m.was in search (third_fits, rules)

pub returns-then-m-lasts : goal.returns-then-m-lasts
returns-then-m-lasts c = let here = c.in_ok-m.was in search (purge_third, stands, rules)

pub returns : goal.returns
returns c = let here = c.in_ok-m.was in search (purge_gone, stands, rules)
