-- Serves the code: what the functions of this crate say while a run is put in.
-- Only the reading of a block builds on it.
use Rattle.std.specs.Prelude.{ℕ, ◌-◌, ◌≡◌, List, [], ◌∷◌, Bool, true, false, cond, ◌&&◌, ◌||◌, length, ltb, leb}
use Rattle.std.specs.Prelude.{Option, None, Some}
use Rattle.laws.specs.Lists.{every}
use Rattle.codes.specs.Places.{capacity}
use Rattle.codes.specs.Block.{insert_run}
use Rattle.sets.specs.Held.{places_in, Good}
use Rattle.sets.specs.declared.Places.{Places}
use Rattle.sets.specs.declared.Put.{Put}
use Rattle.sets.specs.declared.Put.TheVariants as put

-- at most 120 places, or none: there are more
unfoldable pub capped : List ℕ → Option (List ℕ)
capped l = cond (leb (length l) capacity) (Some l) None

-- what they are, or the mark that there are more
abbrev pub held_by : Bool → Places → Option (List ℕ)
held_by true t = None
held_by false t = Some (places_in t)

-- what became of a run that was to be put in
abbrev pub is_over : Put → Bool
is_over put.Held = false
is_over put.Over = true
is_over put.Twice = false

abbrev pub is_twice : Put → Bool
is_twice put.Held = false
is_twice put.Over = false
is_twice put.Twice = true

-- one of these places lies from `low` to `high`
unfoldable pub holds_in : ℕ → ℕ → List ℕ → Bool
holds_in low high [] = false
holds_in low high (q ∷ qs) = (leb low q && leb q high) || holds_in low high qs

-- The places from p up to before q were put to those of `before`, unless one of them was held already or they would be too many: then nothing changed.
pub record Grown (before : Places) (p q : ℕ) (after : Places) (r : Put) : Type 0 where
  pub good : Good after
  pub twice : is_twice r ≡ holds_in p (q - 1) (places_in before)
  pub held : is_twice r ≡ false → held_by (is_over r) after ≡ capped (insert_run (q - p) p (places_in before))
  pub left : (r ≡ put.Held → ⊥) → after ≡ before

-- every place of the list is less than p
abbrev pub all_below : ℕ → List ℕ → Bool
all_below p l = every (λ (x : ℕ). ltb x p) l
