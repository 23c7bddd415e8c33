-- Ascending places by their neighbours: where each is less than the next and the last is a place, all are ascending places. Assumes nothing.
use Prim.Native.Nat.{ℕ, suc, ◌+◌, ◌-◌, ◌≤◌, ◌<◌}
use native.Mathlib.Omega.{arith}
use mathlib.Core.Path.{◌≡◌, refl, sym, ap, ap₂, ◌∙◌}
use mathlib.Core.Bool.{Bool, true, false, ◌&&◌, and-true, and_assoc}
use mathlib.Core.List.{List, [], ◌∷◌}
use lib.ListN.{length, drop, get_or, drop_of_length-le}
use lib.Seq.{drop-cons}
use lib.Dec.{ltb}
use borrow.Author.Tests.{lt-ltb, le-leb, ltb-true}
use Rattle.laws.proofs.Tests.{and_left, and_right}
use Rattle.codes.specs.Places.{ascends, places_end}

-- one place
ascends_one : (x : ℕ) → ascends 0 (x ∷ []) ≡ ltb x places_end
unfolding ascends
ascends_one x = rw (le-leb 0 x (omega arith)) (and-true (ltb x places_end))

-- a test that another one implies
implied : (p q : Bool) → (q ≡ true → p ≡ true) → (p && q) ≡ q
implied true q f = refl
implied false true f = f refl
implied false false f = refl

-- of two neighbours the first is a place if it is less than the second, which is one
ascends_two : (x y : ℕ) (r : List ℕ) → ascends 0 (x ∷ y ∷ r) ≡ (ltb x y && ascends 0 (y ∷ r))
unfolding ascends
ascends_two x y r =
    let a : Bool = ltb x y in
    let b : Bool = ltb y places_end in
    let c : Bool = ascends (suc y) r in
    rw (le-leb 0 x (omega arith), le-leb 0 y (omega arith))
    (implied (ltb x places_end) (a && b && c)
    (λ h. let t = and_left (a && b) c h in
    let p = ltb-true x y (and_left a b t) in
    let q = ltb-true y places_end (and_right a b t) in
    lt-ltb x places_end (omega arith))
    ∙ and_assoc a b c)

-- the scan of a list: the first k have been compared with their neighbours, and `good` says of all so far whether each was less than the next
pub record Climbs (l : List ℕ) (k : ℕ) (good : Bool) : Type 0 where
  pub some : 1 ≤ k
  pub left : k ≤ length l
  pub rest : ascends 0 l ≡ (good && ascends 0 (drop (k - 1) l))

pub climbs_start : (l : List ℕ) → 1 ≤ length l → Climbs l 1 true
climbs_start l h = record { some = omega arith; left = h; rest = refl }

module _ (l : List ℕ) (k : ℕ) (good : Bool) (v : Climbs l k good) where
  -- what is left: the last one that was compared, and those behind it
  last_on : drop (k - 1) l ≡ get_or l (k - 1) 0 ∷ drop k l
  last_on =
      let s : 1 ≤ k = v.some in
      let e : suc (k - 1) ≡ k = omega arith in
      drop-cons l (k - 1) 0 (omega (arith, v.left)) ∙ ap (λ (j : ℕ). get_or l (k - 1) 0 ∷ drop j l) e

  pub climbs_on : k < length l → (x y : ℕ) → x ≡ get_or l (k - 1) 0 → y ≡ get_or l k 0 → Climbs l (k + 1) (good && ltb x y)
  climbs_on h x y p q =
      let r : List ℕ = drop (suc k) l in
      let here : drop k l ≡ y ∷ r = drop-cons l k 0 h ∙ ap (λ (z : ℕ). z ∷ r) (sym q) in
      let e : k + 1 - 1 ≡ k = omega arith in
      record {
        some = omega arith;
        left = omega arith;
        rest =
            v.rest
            ∙ ap (λ (m : List ℕ). good && ascends 0 m) (last_on ∙ ap₂ (λ (z : ℕ) (m : List ℕ). z ∷ m) (sym p) here)
            ∙ ap (λ (t : Bool). good && t) (ascends_two x y r)
            ∙ sym (and_assoc good (ltb x y) (ascends 0 (y ∷ r)))
            ∙ ap (λ (m : List ℕ). good && ltb x y && ascends 0 m) (sym here ∙ ap (λ (j : ℕ). drop j l) (sym e));
      }

  pub climbs_done : length l ≤ k → (z : ℕ) → z ≡ get_or l (length l - 1) 0 → (good && ltb z places_end) ≡ ascends 0 l
  climbs_done h z p =
      let e : k ≡ length l = omega (arith, v.left) in
      let f : k - 1 ≡ length l - 1 = omega arith in
      sym
      (v.rest
      ∙ ap (λ (m : List ℕ). good && ascends 0 m)
      (last_on ∙ ap₂ (λ (x : ℕ) (m : List ℕ). x ∷ m) (ap (λ (j : ℕ). get_or l j 0) f ∙ sym p) (drop_of_length-le l h))
      ∙ ap (λ (t : Bool). good && t) (ascends_one z))
