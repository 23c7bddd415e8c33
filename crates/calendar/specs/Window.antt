-- This file serves the code: the purge minutes under an issue, told by seven numbers. That they are the minutes of `is_purge` is a law (proofs/Windows).
use Rattle.std.specs.Prelude.{ℕ, suc, ◌+◌, ◌-◌, ◌*◌, ◌≡◌, Bool, not, cond, ◌&&◌, ◌||◌, leb, ltb}
use Rattle.std.specs.Prelude.{Option, None, Some}
use Rattle.months.specs.Months.{days_in, issue_months, start_of, month_of}
use Rattle.calendar.specs.Purge.{is_purge}
use Rattle.calendar.specs.declared.Window.{Window}

-- ---- the window of an issue
-- The earliest minute that can be a purge minute: 1,440 before the issue, or minute 0, where the numbers start.
abbrev pub earliest : ℕ → ℕ
earliest issue = issue - 1440

-- Where the month after the issue's ends. The earliest minute is of month a, and the issue of that one or of the next.
abbrev pub end_after : ℕ → ℕ → ℕ
end_after issue a = cond (ltb issue (start_of (suc a))) (start_of (suc (suc a))) (start_of (suc (suc (suc a))))

-- The earliest minute is of month a: how long after its start that is, and how long the month lasts; where the second month starts, and the third; where
-- in the third the days begin that the second has not; and where all ends.
abbrev pub window_at : ℕ → ℕ → Window
window_at issue a =
    record {
      from = earliest issue;
      since = earliest issue - start_of a;
      lasts = 1440 * days_in a;
      second = start_of (suc a);
      third = start_of (suc (suc a));
      longer = start_of (suc (suc a)) + 1440 * days_in (suc a);
      end = end_after issue a;
    }

abbrev pub window_in : ℕ → Option ℕ → Option Window
window_in issue None = None
window_in issue (Some a) = Some (window_at issue a)

-- An issue whose year is not 1970..2099 has none.
unfoldable pub window_of : ℕ → Option Window
window_of issue = cond (ltb issue (start_of issue_months)) (window_in issue (month_of (earliest issue))) None

-- ---- the minutes within it
-- So long after a later month's start: the same DDHHMM is in the first month, and not too early.
abbrev pub comes_first : Window → ℕ → Bool
comes_first w over = ltb over w.lasts && leb w.since over

-- In the second month: no minute of the first has the DDHHMM.
abbrev pub in_second : Window → ℕ → Bool
in_second w minute = not (comes_first w (minute - w.second))

-- In the third: no minute of the first has the DDHHMM, and the second month has not the day.
abbrev pub in_third : Window → ℕ → Bool
in_third w minute = ltb minute w.end && not (comes_first w (minute - w.third)) && leb w.longer minute

-- Not too early; and in the first month, or in a later one where no earlier minute has the DDHHMM.
unfoldable pub within : Window → ℕ → Bool
within w minute = leb w.from minute && (ltb minute w.second || cond (ltb minute w.third) (in_second w minute) (in_third w minute))

-- The numbers tell just the purge minutes under the issue.
abbrev pub WindowOf : ℕ → Window → Type 0
WindowOf issue w = (minute : ℕ) → within w minute ≡ is_purge issue minute
