-- Whether places are those of a segment: the answer of each way out. Assumes nothing.
use Prim.Native.Nat.{ℕ, ◌+◌, ◌-◌, ◌≤◌, ◌<◌}
use native.Mathlib.Omega.{arith}
use mathlib.Core.Path.{◌≡◌, refl, ap, ◌∙◌}
use mathlib.Core.Bool.{Bool, false, ◌&&◌}
use mathlib.Core.List.{List}
use lib.ListN.{length, get_or, take, drop, length-drop}
use lib.Seq.{get_or-take, get_or-drop, length-take-le}
use lib.Dec.{ltb}
use borrow.Author.Tests.{le-leb, lt-leb}
use Rattle.codes.specs.Places.{places_end, capacity, is_set}
use Rattle.codes.proofs.Climbs.{Climbs, climbs_done}

module _ (ps : List ℕ) where
  pub set_short : length ps < 1 → false ≡ is_set ps
  unfolding is_set
  set_short h = rw (lt-leb 1 (length ps) h)

  pub set_long : 1 ≤ length ps → capacity < length ps → false ≡ is_set ps
  unfolding is_set
  set_long g h = rw (le-leb 1 (length ps) g, lt-leb (length ps) capacity h)

  -- the places behind the first
  abbrev pub behind : List ℕ
  behind = take (length ps - 1) (drop 1 ps)

  pub behind_long : length behind ≡ length ps - 1
  behind_long = omega (arith, length-take-le (length ps - 1) (drop 1 ps) (omega (arith, length-drop 1 ps)), length-drop 1 ps)

  pub behind_at : (k : ℕ) → k < length behind → get_or behind k 0 ≡ get_or ps (k + 1) 0
  behind_at k h =
      let e : 1 + k ≡ k + 1 = omega arith in
      get_or-take (length ps - 1) (drop 1 ps) k 0 (omega (arith, behind_long)) ∙ get_or-drop 1 ps k 0 ∙ ap (λ (j : ℕ). get_or ps j 0) e

  pub set_done : (i : ℕ) (good : Bool) → Climbs ps i good → 1 ≤ length ps → length ps ≤ capacity → length ps ≤ i
      → (good && ltb (get_or ps (length ps - 1) 0) places_end) ≡ is_set ps
  unfolding is_set
  set_done i good v g f h = rw (le-leb 1 (length ps) g, le-leb (length ps) capacity f) (climbs_done ps i good v h (get_or ps (length ps - 1) 0) refl)
