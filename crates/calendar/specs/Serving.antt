-- Serves the code: what it asks of a DDHHMM.
use Rattle.std.specs.Prelude.{◌≤◌}
use Rattle.calendar.specs.declared.Stamp.{Stamp}

-- the ranges of DDHHMM
pub record Time (s : Stamp) : Type 0 where
  pub first : 1 ≤ s.day
  pub last : s.day ≤ 31
  pub hours : s.hour ≤ 23
  pub minutes : s.minute ≤ 59
