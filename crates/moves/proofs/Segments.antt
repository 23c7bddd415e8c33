-- The segments that are handed on exist. Assumes nothing.
use mathlib.Core.Path.{◌≡◌, subst}
use Prim.Native.Nat.{ℕ, ◌≤◌}
use Rattle.laws.proofs.Lists.{all_head, all_tail}
use Rattle.layout.specs.declared.Changed.{Changed}
use Rattle.layout.specs.declared.Changed.TheVariants.{One, Two}
use Rattle.moves.specs.Named.{Among}

module _ {n : ℕ} {c : Changed} (a : Among n c) where
  module _ {s : ℕ} (is : c ≡ One s) where
    of_one : (1 ≤ s) × (s ≤ n)
    of_one = all_head (subst (Among n) is a).each

    pub one_from : 1 ≤ s
    one_from = of_one.0

    pub one_to : s ≤ n
    one_to = of_one.1

  module _ {s t : ℕ} (is : c ≡ Two s t) where
    first_of : (1 ≤ s) × (s ≤ n)
    first_of = all_head (subst (Among n) is a).each

    second_of_lem : (1 ≤ t) × (t ≤ n)
    second_of_lem = all_head (all_tail (subst (Among n) is a).each)

    pub first_from : 1 ≤ s
    first_from = first_of.0

    pub first_to : s ≤ n
    first_to = first_of.1

    pub second_from : 1 ≤ t
    second_from = second_of_lem.0

    pub second_to : t ≤ n
    second_to = second_of_lem.1
