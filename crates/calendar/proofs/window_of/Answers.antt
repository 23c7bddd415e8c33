use Rattle.months.proofs.Ways.{none_found, stands, in_year, start_low, days_most, days_fit, sum_fits, third_most, end_fits, longer_fits}
use Rattle.calendar.proofs.Ways.{window_late, window_none, window_is}
use Rattle.std.proofs.Common.{rules}
use Rattle.calendar.proofs.window_of.Goals as goal

pub returns-then-issue-ge-ISSUES : goal.returns-then-issue-ge-ISSUES
returns-then-issue-ge-ISSUES c = search (window_late, rules)

pub returns-in_err-m : goal.returns-in_err-m
returns-in_err-m c = let gone = c.in_err-m.was in search (window_none, none_found, rules)

pub overflow_mul-lasts : goal.overflow_mul-lasts
overflow_mul-lasts c = let here = c.in_ok-m.was in search (days_fit, rules)

pub length_after-then-requires : goal.length_after-then-requires
length_after-then-requires c = let here = c.in_ok-m.was in (search (in_year, rules), search rules)

pub overflow_add-second : goal.overflow_add-second
overflow_add-second c = let here = c.in_ok-m.was in search (sum_fits, days_most, rules)

pub overflow_add-third : goal.overflow_add-third
overflow_add-third c = let here = c.in_ok-m.was in search (end_fits, rules)

pub length_after-requires : goal.length_after-requires
length_after-requires c = let here = c.in_ok-m.was in (search (in_year, rules), search rules)

pub end_after-end-requires : goal.end_after-end-requires
end_after-end-requires c = let here = c.in_ok-m.was in (search (third_most, rules), search rules)

pub overflow_sub-result : goal.overflow_sub-result
overflow_sub-result c = let here = c.in_ok-m.was in search (start_low, rules)

pub overflow_add-result : goal.overflow_add-result
overflow_add-result c = let here = c.in_ok-m.was in search (longer_fits, rules)

pub returns : goal.returns
returns c = let here = c.in_ok-m.was in search (window_is, stands, rules)
