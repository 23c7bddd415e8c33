-- Serves the code: the newest step of a sound book, as block 0 counts it.
use Rattle.std.specs.Prelude.{ℕ, ◌+◌, ◌<◌, ◌≡◌, true, List, get_or}
use Rattle.steps.specs.Calls.{steps_most}
use Rattle.layout.specs.Tests.{is_sound}

-- step r, counted from 0, is the newest
pub record LastStep (l : List ℕ) (r : ℕ) : Type 0 where
  pub sound : is_sound l ≡ true
  pub count : get_or l 24 0 ≡ r + 1
  pub sixteen : r < steps_most
