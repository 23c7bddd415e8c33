-- Serves the code: the segments that a call changes, as the code hands them on, and the drafts that have taken one of them.
use Rattle.std.specs.Prelude.{ℕ, ◌+◌, ◌*◌, ◌≤◌, Bool, cond, ◌||◌, List, length, get_or, set, eqb}
use Rattle.laws.specs.Lists.{All}
use Rattle.steps.specs.Book.{Draft}
use Rattle.layout.specs.Layout.{copies_of}
use Rattle.layout.specs.Rule.{segments_said}
use Rattle.layout.specs.declared.Changed.{Changed}

-- segments of n
pub record Among (n : ℕ) (c : Changed) : Type 0 where
  pub each : All (λ (s : ℕ). (1 ≤ s) × (s ≤ n)) (segments_said c)

-- a draft that has taken at most two segments
abbrev pub TwoTaken : Draft → Type 0
TwoTaken d = length (copies_of d) ≤ 2

-- is segment s one of x and y, those that a draft has taken?
unfoldable pub meets : ℕ → ℕ → ℕ → Bool
meets s x y = eqb s x || eqb s y

-- a book's bytes with draft d marked, if it has taken segment s
unfoldable pub marked : List ℕ → ℕ → ℕ → List ℕ
marked l d s = cond (meets s (get_or l (5 + 4 * d) 0) (get_or l (6 + 4 * d) 0)) (set l (7 + 4 * d) 1) l
