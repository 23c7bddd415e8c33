-- Serves the code: what its types mean, places held by value.
use Rattle.std.specs.Prelude.{ℕ, ◌≤◌, ◌≡◌, List, ◌++◌, length, take, drop, replicate}
use Rattle.codes.specs.Places.{Ascending, capacity}
use Rattle.sets.specs.declared.Places.{Places}

-- an array that holds no place
unfoldable pub vacant : List ℕ
vacant = replicate capacity 0

-- ---- places by value: these, and zeros behind them
abbrev pub places_for : List ℕ → Places
places_for ps = record { held = ps ++ drop (length ps) vacant; count = length ps }

abbrev pub places_in : Places → List ℕ
places_in t = take t.count t.held

-- what the code keeps true of them
pub record Good (t : Places) : Type 0 where
  pub long : length t.held ≡ capacity
  pub few : t.count ≤ capacity
  pub rising : Ascending 0 (places_in t)
  pub rest : drop t.count t.held ≡ drop t.count vacant
