-- The places that are kept: of one segment, after each step, and of all of them. Assumes nothing.
use Prim.Native.Nat.{ℕ, zero, suc, ◌+◌, ◌-◌, ◌*◌, ◌≤◌, ◌<◌}
use native.Mathlib.Nat.{add-zero, zero-add}
use native.Mathlib.Numerals.{add-one}
use native.Mathlib.Omega.{arith}
use mathlib.Core.Path.{◌≡◌, refl, sym, ap, ◌∙◌}
use mathlib.Core.List.{List, [], ◌∷◌, ◌++◌, map, append_assoc}
use Rattle.std.specs.Prelude.{Some}
use lib.ListN.{length, take, drop, set, get_or, length-append, length-drop}
use Rattle.std.specs.Prelude.{slice_get}
use lib.Seq.{drop-drop, sets, length-sets, sets-eq, take-suc, length-take-le, take-set-le, take_at, drop_at}
use lib.Dec.{leb}
use borrow.Rule.Slice.PartMut.{put_mid}
use mir.Syntax.{w64}
use mir.Val.{Fits}
use borrow.Author.Tests.{le-leb, lt-leb}
use Rattle.laws.proofs.Tests.{either_way, apart}
use Rattle.laws.proofs.Lists.{drop_take, all_get}
use Rattle.laws.proofs.Lookups.{some_same}
use Rattle.std.specs.Prelude.{Result, Ok}
use Rattle.refusal.specs.Answer.{answer_by}
use Rattle.refusal.specs.declared.Refusal.{Refusal}
use Rattle.codes.specs.Places.{capacity}
use Rattle.codes.specs.Block.{content_at}
use Rattle.reading.specs.Placed.{placed_at}
use Rattle.sets.specs.Held.{Good}
use Rattle.reading.specs.Held.{placed_of}
use Rattle.reading.proofs.Placing.{content_told}
use Rattle.sets.specs.declared.Places.{Places}
use Rattle.reading.specs.declared.Content.{Content}
use Rattle.segments.specs.Seen.{Sized}
use Rattle.segments.specs.KeptAt.{keep_at, keep_each}
use Rattle.segments.specs.KeptBy.{places_said, places_from, handed_on}
use Rattle.segments.specs.declared.Segment.{Segment}
use Rattle.segments.specs.declared.Segments.{Segments}

-- ---- one segment
pub keep_none : (at : ℕ) (ps ks : List ℕ) → length ks < at + capacity → ks ≡ keep_at at ps ks
unfolding keep_at
keep_none at ps ks h = rw (lt-leb (at + capacity) (length ks) h)

pub keep_all : (at : ℕ) (ps ks d : List ℕ) → at + capacity ≤ length ks → length ps ≤ capacity → d ≡ ps → put_mid at (at + length ps - at) ks d ≡ keep_at at ps ks
unfolding keep_at
keep_all at ps ks d h few e =
    let n : at + length ps - at ≡ length ps = omega arith in
    rw (n, le-leb (at + capacity) (length ks) h, e, drop-drop (length ps) at ks) (sym (sets-eq ps ks at (omega arith) ∙ append_assoc (take at ks) ps (drop (at + length ps) ks)))

-- a segment's places are few enough
pub keep_few : (t : Places) → Good t → length (take (t.count - 0) t.held) ≤ capacity
keep_few t g = rw (length-take-le (t.count - 0) t.held (omega (arith, g.few, g.long))) (omega (arith, g.few))

-- ---- one step
module _ (s : List ℕ) (issue at : ℕ) (ks : List ℕ) where
  pub kept_content : (a : ℕ) (r : Result Content Refusal) → answer_by placed_of r ≡ placed_at s issue a → (c : Content) → r ≡ Ok c → (d : List ℕ)
      → d ≡ keep_at at (take (c.places.count - 0) c.places.held) ks → d ≡ keep_at at (places_said (content_at s issue a)) ks
  kept_content a r e c q d f =
      let n : c.places.count - 0 ≡ c.places.count = omega arith in
      f ∙ ap (λ (m : ℕ). keep_at at (take m c.places.held) ks) n ∙ rw (← content_told s issue a r e, q)

-- ---- step after step
keep_length : (at : ℕ) (ps ks : List ℕ) → length (keep_at at ps ks) ≡ length ks
unfolding keep_at
keep_length at ps ks = either_way (λ (l : List ℕ). length l ≡ length ks) (leb (at + capacity) (length ks)) (length-sets ks at ps) refl

take_sets : (n : ℕ) (ps ks : List ℕ) (at : ℕ) → n ≤ at → take n (sets ks at ps) ≡ take n ks
take_sets n [] ks at h = refl
take_sets n (p ∷ ps) ks at h = take_sets n ps (set ks at p) (suc at) (omega arith) ∙ take-set-le n ks at p h

-- below where they are kept all is as it was
keep_below : (n at : ℕ) (ps ks : List ℕ) → n ≤ at → take n (keep_at at ps ks) ≡ take n ks
unfolding keep_at
keep_below n at ps ks h = either_way (λ (l : List ℕ). take n l ≡ take n ks) (leb (at + capacity) (length ks)) (take_sets n ps ks at h) refl

module _ {A : Type 0} (f : ℕ → A → List ℕ) where
  pub kept_length_lem : (i : ℕ) (gs : List A) (ks : List ℕ) → length (keep_each f i gs ks) ≡ length ks
  unfolding keep_each
  kept_length_lem i [] ks = refl
  kept_length_lem i (g ∷ gs) ks = kept_length_lem (suc i) gs _ ∙ keep_length _ _ ks

  pub kept_more : (i : ℕ) (gs : List A) (g : A) (ks : List ℕ)
      → keep_each f i (gs ++ (g ∷ [])) ks ≡ keep_at (capacity * (i + length gs)) (f (i + length gs) g) (keep_each f i gs ks)
  unfolding keep_each
  kept_more i [] g ks = rw add-zero
  kept_more i (x ∷ gs) g ks =
      let e : suc i + length gs ≡ i + suc (length gs) = omega arith in
      kept_more (suc i) gs g _ ∙ rw e

  -- ---- what a caller who lends room for all of them finds: the places of segment k, from 120 * k on
  kept_below : (n i : ℕ) (gs : List A) (ks : List ℕ) → n ≤ capacity * i → take n (keep_each f i gs ks) ≡ take n ks
  unfolding keep_each
  kept_below n i [] ks h = refl
  kept_below n i (g ∷ gs) ks h = kept_below n (suc i) gs _ (omega arith) ∙ keep_below n (capacity * i) _ ks h

  -- what is kept first stays
  kept_first : (i : ℕ) (ps : List ℕ) (gs : List A) (ks : List ℕ) → capacity * i + capacity ≤ length ks → length ps ≤ capacity
      → take (length ps) (drop (capacity * i) (keep_each f (suc i) gs (keep_at (capacity * i) ps ks))) ≡ ps
  unfolding keep_at
  kept_first i ps gs ks h few =
      let at : ℕ = capacity * i in
      let d : List ℕ = keep_each f (suc i) gs (keep_at at ps ks) in
      let long : length d ≡ length ks = kept_length_lem (suc i) gs (keep_at at ps ks) ∙ keep_length at ps ks in
      let front : length (take at ks) ≡ at = length-take-le at ks (omega arith) in
      let both : length (take at ks ++ ps) ≡ at + length ps = length-append (take at ks) ps ∙ rw front in
      let stored : take (at + length ps) d ≡ take at ks ++ ps =
      kept_below (at + length ps) (suc i) gs (keep_at at ps ks) (omega arith)
      ∙ rw (le-leb (at + capacity) (length ks) h, sets-eq ps ks at (omega arith)) (take_at (take at ks ++ ps) (drop (at + length ps) ks) (at + length ps) both) in
      let n : at + length ps - at ≡ length ps = omega arith in
      sym (ap (λ (m : ℕ). take m (drop at d)) n) ∙ sym (drop_take at (at + length ps) d (omega arith) (omega arith)) ∙ ap (drop at) stored ∙ drop_at (take at ks) ps at front

  kept_at : (i : ℕ) (gs : List A) (ks : List ℕ) → capacity * (i + length gs) ≤ length ks → (k : ℕ) (g : A) → slice_get gs k ≡ Some g
      → length (f (i + k) g) ≤ capacity → take (length (f (i + k) g)) (drop (capacity * (i + k)) (keep_each f i gs ks)) ≡ f (i + k) g
  unfolding keep_each
  kept_at i [] ks h k g e few = apart cc
  kept_at i (x ∷ gs) ks h zero g e few =
      let same : x ≡ g = some_same e in
      let n : i + 0 ≡ i = add-zero i in
      let short : length (f i g) ≤ capacity = rw n at few in
      rw (n, ap (f i) same) (kept_first i (f i g) gs ks (omega arith) short)
  kept_at i (x ∷ gs) ks h (suc k) g e few =
      let n : suc i + k ≡ i + suc k = omega arith in
      rw (← n) (kept_at (suc i) gs _ (omega (arith, keep_length (capacity * i) (f i x) ks)) k g e (rw n few))

  pub kept_part : (gs : List A) (ks : List ℕ) → capacity * length gs ≤ length ks → (k : ℕ) (g : A) → slice_get gs k ≡ Some g
      → length (f k g) ≤ capacity → take (length (f k g)) (drop (capacity * k) (keep_each f 0 gs ks)) ≡ f k g
  kept_part gs ks h k g e few = rw (← zero-add k) (kept_at 0 gs ks (omega arith) k g e (rw (zero-add k) few))

-- ---- the same places in the same order
pub kept_same : {A B : Type 0} (h : A → B) (f : ℕ → B → List ℕ) (f' : ℕ → A → List ℕ) (i : ℕ) (gs : List A) (ks : List ℕ)
    → ((k : ℕ) (g : A) → slice_get gs k ≡ Some g → f (i + k) (h g) ≡ f' (i + k) g) → keep_each f i (map h gs) ks ≡ keep_each f' i gs ks
unfolding keep_each
kept_same h f f' i [] ks w = refl
kept_same h f f' i (g ∷ gs) ks w =
    let here : f i (h g) ≡ f' i g = rw add-zero at (w 0 g refl) in
    ap (λ (ps : List ℕ). keep_each f (suc i) (map h gs) (keep_at (capacity * i) ps ks)) here
    ∙ (kept_same h f f' (suc i) gs (keep_at (capacity * i) (f' i g) ks) (λ k x e. let n : i + suc k ≡ suc i + k = omega arith in rw n at (w (suc k) x e)))

-- ---- handing them on
pub record Handing (own : List ℕ) (held : List Segment) (count : ℕ) (ks₀ ks : List ℕ) (i : ℕ) : Type 0 where
  pub left : i ≤ count
  pub sized : Sized (record { held = held; count = count })
  pub same : ks ≡ handed_on own (take i held) ks₀

pub handing_start : (own : List ℕ) (gs : Segments) (ks : List ℕ) → Sized gs → Handing own gs.held gs.count ks ks 0
unfolding keep_each
handing_start own gs ks z = record { left = omega arith; sized = z; same = refl }

module _ (own : List ℕ) (held : List Segment) (count : ℕ) (ks₀ ks : List ℕ) (i : ℕ) (v : Handing own held count ks₀ ks i) where
  pub handing_done : count ≤ i → ks ≡ handed_on own (take count held) ks₀
  handing_done h = let e : i ≡ count = omega (arith, v.left) in rw (← e) v.same

  pub handing_length : (d : List ℕ) → length d ≡ length ks → length d ≡ length ks₀
  handing_length d h = h ∙ ap (λ (l : List ℕ). length l) v.same ∙ kept_length_lem (places_from own) 0 (take i held) ks₀

  module _ (h : i < count) (z : Segment) where
    few : (get_or held i z).count ≤ capacity
    few = all_get z i v.sized.each (omega (arith, v.sized.few, v.sized.long))

    pub handing_at : capacity * i ≤ 960
    handing_at = omega (arith, v.sized.few)

    pub handing_fits : Fits w64 (capacity * i + (get_or held i z).count)
    handing_fits = omega (arith, v.sized.few, few)

    module _ (m : length own ≡ 960) where
      pub handing_end : capacity * i + (get_or held i z).count ≤ length own
      handing_end = omega (arith, v.sized.few, few)

      pub handing_few : length (take (capacity * i + (get_or held i z).count - capacity * i) (drop (capacity * i) own)) ≤ capacity
      handing_few =
          rw (length-take-le (capacity * i + (get_or held i z).count - capacity * i) (drop (capacity * i) own) (rw length-drop (omega (arith, handing_end)))) (omega (arith, few))

      pub handing_on : (d : List ℕ) → d ≡ keep_at (capacity * i) (take (capacity * i + (get_or held i z).count - capacity * i) (drop (capacity * i) own)) ks
          → Handing own held count ks₀ d (i + 1)
      handing_on d e =
          let n : capacity * i + (get_or held i z).count - capacity * i ≡ (get_or held i z).count = omega arith in
          let eight : i < length held = omega (arith, v.sized.few, v.sized.long) in
          let taken : length (take i held) ≡ i = length-take-le i held (omega arith) in
          let more : take (i + 1) held ≡ take i held ++ (get_or held i z ∷ []) = rw add-one (take-suc held i z eight) in
          record {
            left = omega arith;
            sized = v.sized;
            same = e ∙ rw (n, v.same, more) (sym (kept_more (places_from own) 0 (take i held) (get_or held i z) ks₀ ∙ rw (taken, zero-add i)));
          }
