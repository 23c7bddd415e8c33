-- The first repeating element under some prefixes; that under two sets of prefixes is the earlier one of both. Assumes nothing.
use Prim.Native.Nat.{ℕ, ◌+◌, ◌≤◌}
use native.Mathlib.Omega.{arith}
use mathlib.Core.Path.{◌≡◌, refl, sym, ap, ap₂, ◌∙◌}
use mathlib.Core.List.{List, [], ◌∷◌}
use mathlib.Core.Bool.{Bool, false, ◌&&◌, ◌||◌, and-false}
use Rattle.std.specs.Prelude.{Option, None, Some}
use borrow.Author.Tests.{le-leb, lt-leb, lt-ltb, le-ltb}
use Rattle.laws.proofs.Tests.{by, by_order, apart}
use Rattle.codes.specs.Places.{prefixes}
use Rattle.codes.specs.Block.{Stretch, covered_before, twice_at}
use Rattle.repeats.specs.Marks.{window, from_up_to}
use Rattle.repeats.specs.Passes.{earlier, Covering, stretch, coverings, first_twice}
use Rattle.repeats.proofs.Elements.{Ordered, ordered_cons, coverings_ordered, first_here, first_on, first_all}

-- ---- the earlier of two places
front : (x : ℕ) (b : Option ℕ) → ((y : ℕ) → b ≡ Some y → x ≤ y) → Some x ≡ earlier (Some x) b
front x None h = refl
front x (Some y) h = rw (le-leb x y (h y refl))

back : (x : ℕ) (a : Option ℕ) → ((y : ℕ) → a ≡ Some y → x ≤ y) → Some x ≡ earlier a (Some x)
back x None h = refl
back x (Some y) h =
    by_order x y (λ k. rw (lt-leb y x k)) (λ k. let e : x ≡ y = omega (arith, h y refl) in rw (le-leb y x k) (ap Some e))

-- ---- two sets of prefixes
-- what is found does not stand before the elements
later : (these : ℕ → Bool) (at : ℕ) (before : List Stretch) (xs : List Covering) → Ordered at xs
    → (y : ℕ) → first_twice these before xs ≡ Some y → at ≤ y
unfolding first_twice
later these at before [] o y e = apart cc
later these at before (x ∷ xs) (ordered_cons _ _ l w o) y e =
    by (these x.prefix && covered_before (stretch x) before)
    (λ t. let f : Some x.at ≡ Some y = sym (first_here these before x xs t) ∙ e in let g : x.at ≡ y = cc in omega arith)
    λ t. let h = later these x.at (stretch x ∷ before) xs o y (sym (first_on these before x xs t) ∙ e) in omega arith

first_after : (these : ℕ → Bool) (at : ℕ) (before : List Stretch) (x : Covering) (xs : List Covering) → Ordered at (x ∷ xs)
    → (y : ℕ) → first_twice these before (x ∷ xs) ≡ Some y → x.at ≤ y
first_after these at before x xs (ordered_cons _ _ l w o) = later these x.at before (x ∷ xs) (ordered_cons x.at x (omega arith) w o)

module _ (f g both : ℕ → Bool) (joined : (p : ℕ) → both p ≡ (f p || g p)) where
  abbrev Splits : List Stretch → List Covering → Type 0
  Splits before xs = first_twice both before xs ≡ earlier (first_twice f before xs) (first_twice g before xs)

  split_one : (at : ℕ) (before : List Stretch) (x : Covering) (xs : List Covering) → Ordered at (x ∷ xs)
      → Splits (stretch x ∷ before) xs → Splits before (x ∷ xs)
  split_one at before x xs o more =
      let p : ℕ = x.prefix in
      let t : Bool = covered_before (stretch x) before in
      let on : (f p && t) ≡ false → (g p && t) ≡ false → (both p && t) ≡ false → Splits before (x ∷ xs)
      = λ a b c. first_on both before x xs c ∙ more ∙ ap₂ earlier (sym (first_on f before x xs a)) (sym (first_on g before x xs b)) in
      by t
      (λ e. by (f p)
      (λ u. first_here both before x xs (rw (joined p, e, u))
      ∙ front x.at (first_twice g before (x ∷ xs)) (first_after g at before x xs o)
      ∙ ap (λ (a : Option ℕ). earlier a (first_twice g before (x ∷ xs))) (sym (first_here f before x xs (rw (e, u)))))
      λ u. by (g p)
      (λ v. first_here both before x xs (rw (joined p, e, u, v))
      ∙ back x.at (first_twice f before (x ∷ xs)) (first_after f at before x xs o)
      ∙ ap (earlier (first_twice f before (x ∷ xs))) (sym (first_here g before x xs (rw (e, v)))))
      λ v. on (rw u) (rw v) (rw (joined p, u, v)))
      λ e. on (rw (e, and-false (f p))) (rw (e, and-false (g p))) (rw (e, and-false (both p)))

  split : (at : ℕ) (before : List Stretch) (xs : List Covering) → Ordered at xs → Splits before xs
  unfolding first_twice
  split at before [] o = refl
  split at before (x ∷ xs) (ordered_cons _ _ l w o) = split_one at before x xs (ordered_cons at x l w o) (split x.at (stretch x ∷ before) xs o)

-- ---- window after window: all prefixes below `low` have been asked for
joined : (low next p : ℕ) → low ≤ next → from_up_to 0 next p ≡ (from_up_to 0 low p || from_up_to low next p)
joined low next p h =
    by_order p low
    (λ k. rw (le-leb 0 p (omega arith), lt-ltb p low k, lt-ltb p next (omega arith)))
    λ k. rw (le-leb 0 p (omega arith), le-ltb p low k, le-leb low p k)

pub record Asked (text : List ℕ) (at low : ℕ) (best : Option ℕ) : Type 0 where
  pub so_far : best ≡ first_twice (from_up_to 0 low) [] (coverings text at)

module _ (text : List ℕ) (at low : ℕ) (best : Option ℕ) (v : Asked text at low best) where
  pub asked_on : (next : ℕ) → low + window ≤ next → (found : Option ℕ) → found ≡ first_twice (from_up_to low next) [] (coverings text at)
      → (r : Option ℕ) → r ≡ earlier best found → Asked text at next r
  asked_on next h found ef r er =
      let both : (p : ℕ) → from_up_to 0 next p ≡ (from_up_to 0 low p || from_up_to low next p) = λ p. joined low next p (omega arith) in
      record {
        so_far =
            er ∙ ap₂ earlier v.so_far ef
            ∙ sym (split (from_up_to 0 low) (from_up_to low next) (from_up_to 0 next) both at [] (coverings text at) (coverings_ordered text at));
      }

  pub asked_done : prefixes ≤ low → best ≡ twice_at text at
  asked_done h = v.so_far ∙ first_all (from_up_to 0 low) (λ p k. rw (le-leb 0 p (omega arith), lt-ltb p low (omega arith))) text at
