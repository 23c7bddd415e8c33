-- Document 01, "Time": months, and the minutes at which they start.
use Rattle.std.specs.Prelude.{ℕ, zero, suc, ◌+◌, ◌-◌, ◌*◌, ◌/◌, ◌%◌, Bool, true, false, cond, ltb, eqb}
use Rattle.std.specs.Prelude.{Option, None, Some}

-- ---- months
-- "In these years every fourth is a leap year." 1972 is the first of them.
unfoldable pub leap : ℕ → Bool
leap year = eqb (year % 4) 0

-- the twelve months of a year
pub data MonthName : Type 0 where
  january : MonthName
  february : MonthName
  march : MonthName
  april : MonthName
  may : MonthName
  june : MonthName
  july : MonthName
  august : MonthName
  september : MonthName
  october : MonthName
  november : MonthName
  december : MonthName

-- the days of each of them in a year
unfoldable pub month_length : ℕ → MonthName → ℕ
month_length year january = 31
month_length year february = cond (leap year) 29 28
month_length year march = 31
month_length year april = 30
month_length year may = 31
month_length year june = 30
month_length year july = 31
month_length year august = 31
month_length year september = 30
month_length year october = 31
month_length year november = 30
month_length year december = 31

-- "the month after"
unfoldable pub next_month : MonthName → MonthName
next_month january = february
next_month february = march
next_month march = april
next_month april = may
next_month may = june
next_month june = july
next_month july = august
next_month august = september
next_month september = october
next_month october = november
next_month november = december
next_month december = january

-- the month so many after January
unfoldable pub after_january : ℕ → MonthName
after_january zero = january
after_january (suc n) = next_month (after_january n)

-- Months are counted as minutes are, from January 1970 on, which is month 0. The months of a year have the numbers 1..12.
abbrev pub month_number : ℕ → ℕ → ℕ
month_number year month = 12 * (year - 1970) + (month - 1)

abbrev pub year_of : ℕ → ℕ
year_of k = 1970 + k / 12

abbrev pub month_of_year : ℕ → ℕ
month_of_year k = k % 12 + 1

-- the days of month k: it stands k % 12 after its year's January
unfoldable pub days_in : ℕ → ℕ
days_in k = month_length (year_of k) (after_january (k % 12))

-- The issue's months, and January 2100, which a December 2099 issue can reach.
abbrev pub issue_months : ℕ
issue_months = month_number 2100 1

abbrev pub all_months : ℕ
all_months = suc issue_months

-- ---- minutes
-- "Minutes count from 1970-01-01 0000 UTC": the minute at which month k starts
unfoldable pub start_of : ℕ → ℕ
start_of zero = 0
start_of (suc k) = start_of k + 1440 * days_in k

-- The month that a minute falls in, month after month: the minute stands `left` after the start of month k, and n months are left of the calendar.
unfoldable pub month_from : ℕ → ℕ → ℕ → Option ℕ
month_from zero k left = None
month_from (suc n) k left = elim (ltb left (1440 * days_in k)) [ true ↦ Some k | false ↦ month_from n (suc k) (left - 1440 * days_in k) ]

unfoldable pub month_of : ℕ → Option ℕ
month_of minute = month_from all_months 0 minute
