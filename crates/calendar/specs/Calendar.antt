-- Document 01, "Time": the issue's month, minutes and dates.
use Rattle.std.specs.Prelude.{ℕ, ◌+◌, ◌-◌, ◌*◌, ◌/◌, ◌%◌, Bool, cond, ◌&&◌, leb, ltb}
use Rattle.std.specs.Prelude.{Option, None, Some}
use Rattle.months.specs.Months.{month_number, year_of, month_of_year, days_in, all_months, start_of, month_of}
use Rattle.calendar.specs.declared.Stamp.{Stamp}
use Rattle.calendar.specs.declared.Date.{Date}

-- ---- the issue's month
-- "The caller lends the issue's year (1970..2099) and month."
unfoldable pub is_issue_month : ℕ → ℕ → Bool
is_issue_month year month = leb 1970 year && leb year 2099 && (leb 1 month && leb month 12)

-- ---- minutes
-- DDHHMM: "DD 01..31, HH 00..23, MM 00..59"
unfoldable pub is_time : Stamp → Bool
is_time s = leb 1 s.day && leb s.day 31 && leb s.hour 23 && leb s.minute 59

-- the minute of a DDHHMM in month k
unfoldable pub minute_in : ℕ → Stamp → ℕ
minute_in k s = start_of k + ((s.day - 1) * 1440 + s.hour * 60 + s.minute)

-- the day exists in month k
abbrev pub day_exists : ℕ → Stamp → Bool
day_exists k s = leb s.day (days_in k)

-- ---- dates
-- the minute of a date of the calendar's months
unfoldable pub is_month : ℕ → ℕ → Bool
is_month year month = leb 1970 year && (leb 1 month && leb month 12) && ltb (month_number year month) all_months

unfoldable pub minute_of : Date → Option ℕ
minute_of d =
    cond (is_month d.year d.month && is_time d.stamp && day_exists (month_number d.year d.month) d.stamp)
    (Some (minute_in (month_number d.year d.month) d.stamp))
    None

-- a month's DDHHMM, so many minutes after its start
abbrev pub stamp_after : ℕ → Stamp
stamp_after left = record { day = left / 1440 + 1; hour = left / 60 % 24; minute = left % 60 }

abbrev pub date_in : ℕ → Option ℕ → Option Date
date_in minute None = None
date_in minute (Some k) = Some (record { year = year_of k; month = month_of_year k; stamp = stamp_after (minute - start_of k) })

unfoldable pub date_of : ℕ → Option Date
date_of minute = date_in minute (month_of minute)
