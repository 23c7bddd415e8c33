-- Lines before, from and after the first that passes a test.
use Rattle.std.specs.Prelude.{ℕ, List, [], ◌∷◌, Bool, cond, ◌||◌}
use Rattle.lines.specs.Lines.{Line, blank, is_end}

unfoldable pub from_first : (List ℕ → Bool) → List Line → List Line
from_first p [] = []
from_first p (l ∷ ls) = cond (p l.body) (l ∷ ls) (from_first p ls)

unfoldable pub up_to_first : (List ℕ → Bool) → List Line → List Line
up_to_first p [] = []
up_to_first p (l ∷ ls) = cond (p l.body) [] (l ∷ up_to_first p ls)

abbrev pub lines_after : List Line → List Line
lines_after [] = []
lines_after (l ∷ ls) = ls

abbrev pub after_first : (List ℕ → Bool) → List Line → List Line
after_first p ls = lines_after (from_first p ls)

-- "up to the next blank line, the next `$$` line or the end of text": a line that closes the MND block
abbrev pub closes : List ℕ → Bool
closes s = blank s || is_end s
