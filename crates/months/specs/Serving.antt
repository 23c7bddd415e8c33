-- Serves the code: what it keeps of a month, and what it asks of one.
use Rattle.std.specs.Prelude.{ℕ, ◌-◌, ◌≤◌}
use Rattle.std.specs.Prelude.{Option, None, Some}
use Rattle.months.specs.Months.{month_length, after_january, year_of, month_of_year, days_in, start_of}
use Rattle.months.specs.declared.Month.{Month}

-- one of the twelve months
pub record Twelve (month : ℕ) : Type 0 where
  pub first : 1 ≤ month
  pub last : month ≤ 12

-- its length in a year
abbrev pub length_in : ℕ → ℕ → ℕ
length_in year month = month_length year (after_january (month - 1))

abbrev pub month_at : ℕ → Month
month_at k = record { year = year_of k; month = month_of_year k; start = start_of k; days = days_in k }

abbrev pub month_in : Option ℕ → Option Month
month_in None = None
month_in (Some k) = Some (month_at k)

-- a month of the years 1970..2100
pub record InYear (year month : ℕ) : Type 0 where
  pub from : 1970 ≤ year
  pub to : year ≤ 2100
  pub first : 1 ≤ month
  pub last : month ≤ 12
