-- Places that are kept in lent numbers: those of segment i, counted from 0, from 120 * i on, if there is room for 120 there.
use Rattle.std.specs.Prelude.{ℕ, suc, ◌+◌, ◌*◌, cond, List, [], ◌∷◌, length, leb}
use Rattle.std.proofs.lemmas.List.Edits.{sets}
use Rattle.codes.specs.Places.{capacity}

-- the numbers with these places from `at` on, if there is room for 120 there
unfoldable pub keep_at : ℕ → List ℕ → List ℕ → List ℕ
keep_at at ps ks = cond (leb (at + capacity) (length ks)) (sets ks at ps) ks

-- the numbers with the places of each of these, the first of which is segment i
unfoldable pub keep_each : {A : Type 0} → (ℕ → A → List ℕ) → ℕ → List A → List ℕ → List ℕ
keep_each f i [] ks = ks
keep_each f i (g ∷ gs) ks = keep_each f (suc i) gs (keep_at (capacity * i) (f i g) ks)
