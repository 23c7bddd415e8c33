-- Sets of places: a place put in or taken out leaves a set. Assumes nothing.
use Prim.Native.Nat.{ℕ, suc, ◌≤◌, ◌<◌}
use native.Mathlib.Omega.{arith}
use mathlib.Core.Path.{◌≡◌, refl}
use mathlib.Core.Logic.{◌≢◌}
use mathlib.Core.Bool.{Bool, true, false, cond, ◌||◌}
use mathlib.Core.List.{List, [], ◌∷◌}
use lib.ListN.{length}
use lib.Dec.{leb, eqb}
use borrow.Author.Tests.{leb-false, eqb-false}
use Rattle.codes.proofs.Sets.{set_true, set_is}
use Rattle.laws.proofs.Tests.{apart, or_no, choose}
use Rattle.codes.specs.Places.{places_end, capacity, Ascending, nil, cons, is_set}
use Rattle.codes.specs.Block.{insert}
use Rattle.codes.proofs.Members.{insert_cases, insert_ascending}
use Rattle.steps.specs.Calls.{member, without}

-- ---- a place that is not there is put in
pub insert_one_more : (p : ℕ) (ps : List ℕ) → member p ps ≡ false → length (insert p ps) ≡ suc (length ps)
unfolding insert member
insert_one_more p [] e = refl
insert_one_more p (q ∷ qs) e =
    let n = or_no (eqb p q) (member p qs) e in
    insert_cases (λ (l : List ℕ). length l ≡ suc (suc (length qs))) p q qs
    (λ k. refl)
    (λ k. absurd (eqb-false p q n.0 k))
    (λ k. omega (arith, insert_one_more p qs n.1))

pub insert_set : (p : ℕ) (ps : List ℕ) → is_set ps ≡ true → member p ps ≡ false → leb capacity (length ps) ≡ false → p < places_end
    → is_set (insert p ps) ≡ true
insert_set p ps s e f h =
    let v = set_true ps s in
    let l : length ps < capacity = leb-false capacity (length ps) f in
    set_is (insert p ps) (
    record {
      one = omega (arith, insert_one_more p ps e);
      few = omega (arith, insert_one_more p ps e);
      up = insert_ascending p (omega arith) h v.up;
    }
    )

-- ---- a place is taken out
-- a lower bound may be less
pub ascending_from : {a b : ℕ} {ps : List ℕ} → a ≤ b → Ascending b ps → Ascending a ps
ascending_from h nil = nil
ascending_from {a} h (cons {p = p} g k s) = let l : a ≤ p = omega arith in cons l k s

pub without_ascending : (p : ℕ) {b : ℕ} {ps : List ℕ} → Ascending b ps → Ascending b (without p ps)
unfolding without
without_ascending p nil = nil
without_ascending p {b} (cons {p = q} {ps = qs} h k s) =
    choose (Ascending b) (eqb p q) qs (q ∷ without p qs) (λ e. ascending_from (omega arith) s) (λ e. cons h k (without_ascending p s))

pub without_one_less : (p : ℕ) (ps : List ℕ) → member p ps ≡ true → suc (length (without p ps)) ≡ length ps
unfolding without member
without_one_less p [] e = apart cc
without_one_less p (q ∷ qs) e = go (eqb p q) e (without_one_less p qs)
  where
    go : (t : Bool) → (t || member p qs) ≡ true → (member p qs ≡ true → suc (length (without p qs)) ≡ length qs)
        → suc (length (cond t qs (q ∷ without p qs))) ≡ suc (length qs)
    go true f g = refl
    go false f g = let r = g f in omega arith

pub without_set : (p : ℕ) (ps : List ℕ) → is_set ps ≡ true → member p ps ≡ true → eqb (length ps) 1 ≡ false → is_set (without p ps) ≡ true
without_set p ps s e f =
    let v = set_true ps s in
    let n : length ps ≢ 1 = eqb-false (length ps) 1 f in
    set_is (without p ps) (
    record {
      one = omega (arith, without_one_less p ps e, v.one);
      few = omega (arith, without_one_less p ps e, v.few);
      up = without_ascending p v.up;
    }
    )
