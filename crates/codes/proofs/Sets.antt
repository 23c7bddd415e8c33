-- Sets of places: the tests, and what they say in relations. Assumes nothing.
use Prim.Native.Nat.{ℕ, zero, suc, ◌≤◌, ◌<◌}
use native.Mathlib.Omega.{arith}
use mathlib.Core.Path.{◌≡◌, refl}
use mathlib.Core.Bool.{true, ◌&&◌}
use mathlib.Core.List.{List, [], ◌∷◌}
use lib.ListN.{length, get_or}
use lib.Dec.{leb, ltb}
use borrow.Author.Tests.{ltb-true, leb-true, lt-ltb, le-leb}
use Rattle.laws.proofs.Tests.{impossible, and_left, and_right}
use Rattle.codes.specs.Places.{places_end, capacity, Ascending, nil, cons, ascends, is_set}

-- ---- the test of ascending places, and the relation
pub rising : (b : ℕ) (ps : List ℕ) → ascends b ps ≡ true → Ascending b ps
unfolding ascends
rising b [] e = nil
rising b (p ∷ ps) e =
    let low = and_left (leb b p && ltb p places_end) (ascends (suc p) ps) e in
    cons (leb-true b p (and_left (leb b p) (ltb p places_end) low)) (ltb-true p places_end (and_right (leb b p) (ltb p places_end) low))
    (rising (suc p) ps (and_right (leb b p && ltb p places_end) (ascends (suc p) ps) e))

pub risen : {b : ℕ} {ps : List ℕ} → Ascending b ps → ascends b ps ≡ true
unfolding ascends
risen nil = refl
risen {b} (cons {p = p} h k a) = rw (le-leb b p h, lt-ltb p places_end k) (risen a)

-- a set, in relations
pub record Set (ps : List ℕ) : Type 0 where
  pub one : 1 ≤ length ps
  pub few : length ps ≤ capacity
  pub up : Ascending 0 ps

pub set_true : (ps : List ℕ) → is_set ps ≡ true → Set ps
unfolding is_set
set_true ps e =
    let a = leb 1 (length ps) in
    let b = leb (length ps) capacity in
    let n = and_left (a && b) (ascends 0 ps) e in
    record {
      one = leb-true 1 (length ps) (and_left a b n);
      few = leb-true (length ps) capacity (and_right a b n);
      up = rising 0 ps (and_right (a && b) (ascends 0 ps) e);
    }

pub set_is : (ps : List ℕ) → Set ps → is_set ps ≡ true
unfolding is_set
set_is ps v = rw (le-leb 1 (length ps) v.one, le-leb (length ps) capacity v.few) (risen v.up)

-- each of them is a place
pub ascending_below : {b : ℕ} {ps : List ℕ} → Ascending b ps → (i : ℕ) → i < length ps → get_or ps i 0 < places_end
ascending_below nil i h = impossible (omega arith)
ascending_below (cons g k a) zero h = k
ascending_below (cons g k a) (suc i) h = ascending_below a i (omega arith)
