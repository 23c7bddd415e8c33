-- A rule of a table's entries, which one test of the whole table shows. Assumes nothing.
use Prim.Native.Nat.{ℕ, zero, suc, ◌<◌}
use native.Mathlib.Omega.{arith}
use mathlib.Core.Path.{◌≡◌}
use mathlib.Core.Bool.{Bool, true}
use mathlib.Core.List.{List, [], ◌∷◌}
use lib.ListN.{length, get_or}
use Rattle.laws.specs.Lists.{every}
use Rattle.laws.proofs.Tests.{impossible, and_left, and_right}

pub every_at : (p : ℕ → Bool) (xs : List ℕ) (d i : ℕ) → every p xs ≡ true → i < length xs → p (get_or xs i d) ≡ true
unfolding every
every_at p [] d i e h = impossible (omega arith)
every_at p (x ∷ xs) d zero e h = and_left (p x) (every p xs) e
every_at p (x ∷ xs) d (suc i) e h = every_at p xs d i (and_right (p x) (every p xs) e) (omega arith)
