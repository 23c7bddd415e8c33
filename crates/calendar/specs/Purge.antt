-- Document 01, "Time", as document 02, R-2, amends it: the purge rule.
use Rattle.std.specs.Prelude.{ℕ, zero, suc, ◌+◌, Bool, false, cond, ◌&&◌, List, [], ◌∷◌, leb, ltb, eqb}
use Rattle.std.specs.Prelude.{Option, None, Some}
use Rattle.months.specs.Months.{issue_months, month_of}
use Rattle.calendar.specs.Calendar.{is_time, minute_in, day_exists, date_of}
use Rattle.calendar.specs.declared.Stamp.{Stamp}
use Rattle.calendar.specs.declared.Date.{Date}

-- "in the month before, of or after the issue": the issue is of month k. No month is before January 1970, which is month 0, as no minute is
-- "before minute 0".
unfoldable pub months_around : ℕ → List ℕ
months_around zero = 0 ∷ 1 ∷ []
months_around (suc k) = k ∷ suc k ∷ suc (suc k) ∷ []

-- the minutes "with that DDHHMM" in some months: one in each month in which that day exists
unfoldable pub minutes_with : Stamp → List ℕ → List ℕ
minutes_with s [] = []
minutes_with s (k ∷ ks) = cond (day_exists k s) (minute_in k s ∷ minutes_with s ks) (minutes_with s ks)

-- "not before the issue less 1,440 minutes"
abbrev pub not_too_early : ℕ → ℕ → Bool
not_too_early issue minute = leb issue (minute + 1440)

-- "the first minute" of some "that is not" too early
unfoldable pub first_of : ℕ → List ℕ → Option ℕ
first_of issue [] = None
first_of issue (t ∷ ts) = cond (not_too_early issue t) (Some t) (first_of issue ts)

-- "the first minute with that DDHHMM, in the month before, of or after the issue, that is not before the issue less 1,440 minutes, nor before
-- minute 0"; "5 when no such minute exists"
unfoldable pub purge_in : ℕ → ℕ → Stamp → Option ℕ
purge_in k issue s = first_of issue (minutes_with s (months_around k))

-- an issue of the years 1970..2099 ("the year and month limits stay on the issue"), and a DDHHMM in its ranges
abbrev pub purge_under : Option ℕ → ℕ → Stamp → Option ℕ
purge_under None issue s = None
purge_under (Some k) issue s = cond (ltb k issue_months && is_time s) (purge_in k issue s) None

unfoldable pub purge_of : ℕ → Stamp → Option ℕ
purge_of issue s = purge_under (month_of issue) issue s

-- "every purge minute is what its DDHHMM gives under the issue"
abbrev pub gives : Option ℕ → ℕ → Bool
gives None minute = false
gives (Some m) minute = eqb m minute

abbrev pub own_stamp : ℕ → ℕ → Option Date → Bool
own_stamp issue minute None = false
own_stamp issue minute (Some d) = gives (purge_of issue d.stamp) minute

unfoldable pub is_purge : ℕ → ℕ → Bool
is_purge issue minute = own_stamp issue minute (date_of minute)
