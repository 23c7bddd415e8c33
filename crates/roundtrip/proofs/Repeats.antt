-- The element that `twice_from` finds covers a place that one before it covers, and where it finds none no two elements cover one place. Assumes nothing.
use Prim.Native.Nat.{ℕ, suc, ◌+◌, ◌-◌, ◌≤◌, ◌<◌}
use native.Mathlib.Omega.{arith}
use mathlib.Core.Path.{◌≡◌, refl, sym, ◌∙◌}
use mathlib.Core.Bool.{true, false, cond}
use mathlib.Core.List.Memᴰ
use mathlib.Core.List.{List, [], ◌∷◌, Memᴰ}
use mathlib.Core.Logic.{◌⊎◌, inl, inr, ⊎_elim}
use Rattle.std.specs.Prelude.{Option, None, Some}
use Rattle.laws.specs.Lists.{All, all_nil, all_cons}
use Rattle.laws.proofs.Tests.{by, impossible, apart}
use Rattle.codes.specs.Places.{place_of}
use Rattle.codes.specs.Elements.{Element, said, covers, purge, wrong, Said}
use Rattle.codes.specs.Block.{Stretch, stretch_of, covered_before, twice_from}
use Rattle.codes.proofs.Bounds.{Below, covers_low}
use Rattle.codes.proofs.Members.{run_keeps, run_here, run_from_lem}
use Rattle.codes.proofs.Twice.{Stretched, gathered, before_gathered, gathered_before, twice_covers, twice_purge, twice_wrong}
use Rattle.roundtrip.specs.Round.{CoveredAt, this, further, CoveredTwice, both, both_further}

-- a place so far that the element at y covers, or a place that two elements cover, the later one at y
abbrev Found : ℕ → Option ℕ → List Stretch → List Element → Type 0
Found y last before es = (q : ℕ) × ((Memᴰ q (gathered before) × CoveredAt q y last es) ⊎ CoveredTwice q y last es)

-- ---- what is found is covered twice
module _ (y : ℕ) (last : Option ℕ) (before : List Stretch) (e : Element) (es : List Element) (p n m : ℕ) (s : said last e.bytes ≡ covers p n m) where
  found_later : Found y (Some p) (stretch_of p n m ∷ before) es → Found y last before (e ∷ es)
  unfolding gathered
  found_later (q, inr t) = (q, inr (both_further p n m s t))
  found_later (q, inl (w, c)) = (
    q,
    ⊎_elim
        (λ (h : (place_of p n ≤ q) × (q < place_of p n + (suc (place_of p m) - place_of p n))). inr (both p n m s h.0 (omega (arith, h.0, h.1)) c))
        (λ (g : Memᴰ q (gathered before)). inl (g, further p n m s c))
        (run_from_lem (suc (place_of p m) - place_of p n) (place_of p n) q (gathered before) w),
  )

found : (y : ℕ) (last : Option ℕ) (before : List Stretch) (es : List Element) → Below last → All Stretched before → twice_from last before es ≡ Some y → Found y last before es
unfolding twice_from
found y last before [] b u w = apart cc
found y last before (e ∷ es) b u w = go (λ p l. found y (Some p) l es) (said last e.bytes) refl
  where
    go : ((p : ℕ) (l : List Stretch) → Below (Some p) → All Stretched l → twice_from (Some p) l es ≡ Some y → Found y (Some p) l es)
        → (x : Said) → said last e.bytes ≡ x → Found y last before (e ∷ es)
    go i (covers p n m) s =
        let low = covers_low last e.bytes p n m b s in
        let here : Stretched (stretch_of p n m) = record { order = omega (arith, low.order) } in
        let v : cond (covered_before (stretch_of p n m) before) (Some e.at) (twice_from (Some p) (stretch_of p n m ∷ before) es) ≡ Some y =
        sym (twice_covers last before e es p n m s) ∙ w in
        by (covered_before (stretch_of p n m) before)
        (λ t. let z : Some e.at ≡ Some y = rw t at v in
        let a : e.at ≡ y = cc in
        let h = before_gathered (stretch_of p n m) before here u t in
        (h.place, inl (h.among, this p n m s h.from h.to a)))
        (λ t. found_later y last before e es p n m s (i p (stretch_of p n m ∷ before) low.known (all_cons here u) (rw t at v)))
    go i (purge t) s = let z : None ≡ Some y = sym (twice_purge last before e es t s) ∙ w in apart cc
    go i wrong s = let z : None ≡ Some y = sym (twice_wrong last before e es s) ∙ w in apart cc

pub repeat_covered : (y : ℕ) (es : List Element) → twice_from None [] es ≡ Some y → (q : ℕ) × CoveredTwice q y None es
unfolding gathered
repeat_covered y es w = out (found y None [] es tt all_nil w)
  where
    out : Found y None [] es → (q : ℕ) × CoveredTwice q y None es
    out (q, inr t) = (q, t)
    out (q, inl (m, c)) = impossible (Memᴰ.not-nil m)

-- ---- what is covered twice is found
module _ (q y : ℕ) where
  none_on : (last : Option ℕ) (before : List Stretch) (e : Element) (es : List Element) (p n m : ℕ) → said last e.bytes ≡ covers p n m → twice_from last before (e ∷ es) ≡ None
      → (covered_before (stretch_of p n m) before ≡ false) × (twice_from (Some p) (stretch_of p n m ∷ before) es ≡ None)
  none_on last before e es p n m s w =
      let v : cond (covered_before (stretch_of p n m) before) (Some e.at) (twice_from (Some p) (stretch_of p n m ∷ before) es) ≡ None =
      sym (twice_covers last before e es p n m s) ∙ w in
      by (covered_before (stretch_of p n m) before) (λ t. let z : Some e.at ≡ None = rw t at v in apart cc) (λ t. (t, rw t at v))

  met : {last : Option ℕ} {es : List Element} → CoveredAt q y last es → (before : List Stretch) → Memᴰ q (gathered before) → twice_from last before es ≡ None → ⊥
  unfolding gathered
  met (this {last} {e} {es} p n m s h k a) before g w =
      let f : true ≡ false = sym (gathered_before (stretch_of p n m) before (record { place = q; from = h; to = k; among = g })) ∙ (none_on last before e es p n m s w).0 in
      apart cc
  met (further {last} {e} {es} p n m s c) before g w =
      met c (stretch_of p n m ∷ before) (run_keeps (suc (place_of p m) - place_of p n) (place_of p n) q g) (none_on last before e es p n m s w).1

  twice_found : {last : Option ℕ} {es : List Element} → CoveredTwice q y last es → (before : List Stretch) → twice_from last before es ≡ None → ⊥
  unfolding gathered
  twice_found (both {last} {e} {es} p n m s h k c) before w =
      met c (stretch_of p n m ∷ before) (run_here (suc (place_of p m) - place_of p n) (place_of p n) q (gathered before) h (omega (arith, h, k)))
      (none_on last before e es p n m s w).1
  twice_found (both_further {last} {e} {es} p n m s t) before w = twice_found t (stretch_of p n m ∷ before) (none_on last before e es p n m s w).1

  pub covered_once : (es : List Element) → twice_from None [] es ≡ None → CoveredTwice q y None es → ⊥
  covered_once es w t = twice_found t [] w
