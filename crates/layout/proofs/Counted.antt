-- Lists made of the numbers from a up: how long they are, what stands in them, and what holds of all of them. Assumes nothing.
use mathlib.Core.Path.{◌≡◌, refl, ap, ap₂, ◌∙◌, subst}
use mathlib.Core.Bool.{Bool, true}
use mathlib.Core.List.{List, ◌∷◌, ◌++◌, map}
use Rattle.std.specs.Prelude.{None, Some}
use Prim.Native.Nat.{ℕ, zero, suc, ◌+◌, ◌*◌, ◌≤◌, ◌<◌}
use native.Mathlib.Nat.{suc-mul, mul-suc}
use native.Mathlib.Omega.{arith}
use lib.ListN.{length, take, drop}
use Rattle.std.specs.Prelude.{slice_get}
use lib.Seq.{take-add, drop-drop}
use Rattle.laws.proofs.Tests.{impossible, and_left, and_right, by_order}
use Rattle.laws.specs.Lists.{All, all_nil, all_cons, every}
use Rattle.codes.specs.Places.{upward}
use Rattle.blocks.specs.Block.{flat}

module _ {A : Type 0} (f : ℕ → A) where
  -- how many there are
  pub count_length : (a n : ℕ) → length (map f (upward a n)) ≡ n
  unfolding upward
  count_length a zero = refl
  count_length a (suc n) = ap suc (count_length (suc a) n)

  -- the one at i
  pub count_at : (a n i : ℕ) → i < n → slice_get (map f (upward a n)) i ≡ Some (f (a + i))
  unfolding upward
  count_at a zero i h = impossible (omega arith)
  count_at a (suc n) zero h = let e : a ≡ a + 0 = omega arith in ap (λ (j : ℕ). Some (f j)) e
  count_at a (suc n) (suc i) h =
      let e : suc a + i ≡ a + suc i = omega arith in
      count_at (suc a) n i (omega arith) ∙ ap (λ (j : ℕ). Some (f j)) e

  -- none behind them
  pub count_past : (a n i : ℕ) → n ≤ i → slice_get (map f (upward a n)) i ≡ None
  unfolding upward
  count_past a zero i h = refl
  count_past a (suc n) zero h = impossible (omega arith)
  count_past a (suc n) (suc i) h = count_past (suc a) n i (omega arith)

  -- what holds of each holds of all
  pub count_all : {P : A → Type 0} (a n : ℕ) → ((i : ℕ) → a ≤ i → i < a + n → P (f i)) → All P (map f (upward a n))
  unfolding upward
  count_all a zero h = all_nil
  count_all a (suc n) h = all_cons (h a (omega arith) (omega arith)) (count_all (suc a) n (λ i g k. h i (omega arith) (omega arith)))

-- what a test says of all it says of each
pub every_up : (p : ℕ → Bool) (a n : ℕ) → every p (upward a n) ≡ true → (i : ℕ) → a ≤ i → i < a + n → p i ≡ true
unfolding upward every
every_up p a zero e i h g = impossible (omega arith)
every_up p a (suc n) e i h g =
    by_order a i (λ l. every_up p (suc a) n (and_right (p a) (every p (upward (suc a) n)) e) i (omega arith) (omega arith))
    (λ l. let q : a ≡ i = omega arith in subst (λ (j : ℕ). p j ≡ true) q (and_left (p a) (every p (upward (suc a) n)) e))

-- A part of a list is items of w elements one after another, if each w elements are their item.
pub flat_back : {X : Type 0} (f : X → List ℕ) (h : ℕ → X) (w o : ℕ) (b : List ℕ) (a n : ℕ)
    → ((s : ℕ) → a ≤ s → s < a + n → take w (drop (o + w * s) b) ≡ f (h s))
    → take (n * w) (drop (o + w * a) b) ≡ flat f (map h (upward a n))
unfolding upward flat
flat_back f h w o b a zero same =
    let e : 0 * w ≡ 0 = omega arith in
    ap (λ (k : ℕ). take k (drop (o + w * a) b)) e
flat_back f h w o b a (suc n) same =
    let e : suc n * w ≡ w + n * w = omega (arith, suc-mul n w) in
    let g : o + w * a + w ≡ o + w * suc a = omega (arith, mul-suc w a) in
    ap (λ (k : ℕ). take k (drop (o + w * a) b)) e
    ∙ take-add w (n * w) (drop (o + w * a) b)
    ∙ ap₂ (λ (p q : List ℕ). p ++ q) (same a (omega arith) (omega arith))
    (ap (take (n * w)) (drop-drop w (o + w * a) b)
    ∙ ap (λ (k : ℕ). take (n * w) (drop k b)) g
    ∙ flat_back f h w o b (suc a) n (λ s k m. same s (omega arith) (omega arith)))

-- the numbers themselves
pub count_self : (a n : ℕ) → map (λ (k : ℕ). k) (upward a n) ≡ upward a n
unfolding upward
count_self a zero = refl
count_self a (suc n) = ap (λ (ks : List ℕ). a ∷ ks) (count_self (suc a) n)
