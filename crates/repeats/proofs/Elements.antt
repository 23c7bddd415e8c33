-- The elements of a block that cover places: step by step, and the first of them that repeats a place. Assumes nothing.
use Prim.Native.Nat.{ℕ, zero, suc, ◌+◌, ◌-◌, ◌≤◌, ◌<◌}
use native.Mathlib.Omega.{arith}
use mathlib.Core.Path.{◌≡◌, refl, sym, ap, ◌∙◌}
use mathlib.Core.List.{List, [], ◌∷◌}
use mathlib.Core.Bool.{Bool, true, false, cond, ◌&&◌}
use Rattle.std.specs.Prelude.{Option, None, Some}
use lib.ListN.{length, drop}
use borrow.Author.Tests.{le-leb, lt-leb, lt-ltb, le-ltb}
use Rattle.laws.proofs.Tests.{by_order, impossible}
use Rattle.codes.specs.Places.{prefixes}
use Rattle.codes.specs.Elements.{elements_from}
use Rattle.codes.specs.Serving.{Low}
use Rattle.codes.specs.Block.{Stretch, stretch_of, covered_before, twice_from, twice_at}
use Rattle.codes.specs.Cursor.{step_at}
use Rattle.codes.specs.declared.Cursor.{Cursor}
use Rattle.codes.specs.declared.Step.{Step}
use Rattle.codes.specs.declared.Step.TheVariants.{Covers, Purge, Wrong}
use Rattle.codes.proofs.Bounds.{Below}
use Rattle.codes.proofs.Steps.{Ahead, step_ahead}
use Rattle.codes.proofs.Twice.{twice_then, twice_step}
use Rattle.repeats.specs.Passes.{cursor_behind, nearest, Covering, stretch, coverings_from, coverings, first_twice}

coverings_none : (text : List ℕ) (c : Cursor) → coverings_from zero text c ≡ []
unfolding coverings_from
coverings_none text c = refl

-- ---- a step
abbrev pub covering : ℕ → ℕ → ℕ → ℕ → Covering
covering at p n m = record { at = at; prefix = p; first = n; last = m }

-- those from a step on, which stands at the place `at`
abbrev pub coverings_then : ℕ → List ℕ → ℕ → Step → List Covering
coverings_then k text at (Covers p n m next) = covering at p n m ∷ coverings_from k text (cursor_behind p next)
coverings_then k text at (Purge t place) = []
coverings_then k text at (Wrong place) = []

coverings_step : (k : ℕ) (text : List ℕ) (c : Cursor) (y : Step) → step_at text c ≡ y → coverings_from (suc k) text c ≡ coverings_then k text c.at y
unfolding coverings_from
coverings_step k text c (Covers p n m next) e = rw (e, coverings_from)
coverings_step k text c (Purge t place) e = rw (e, coverings_from)
coverings_step k text c (Wrong place) e = rw (e, coverings_from)

-- ---- the first that repeats a place: element after element
module _ (these : ℕ → Bool) (before : List Stretch) (x : Covering) (xs : List Covering) where
  abbrev repeats : Bool
  repeats = these x.prefix && covered_before (stretch x) before

  pub first_here : repeats ≡ true → first_twice these before (x ∷ xs) ≡ Some x.at
  unfolding first_twice
  first_here e = rw e

  pub first_on : repeats ≡ false → first_twice these before (x ∷ xs) ≡ first_twice these (stretch x ∷ before) xs
  unfolding first_twice
  first_on e = rw e

-- ---- a reading place with all that is left of the text
pub record Reading (text : List ℕ) (c : Cursor) : Type 0 where
  pub most : ℕ
  pub enough : length text ≤ c.at + most
  pub known : Below c.last

abbrev pub start : ℕ → Cursor
start at = record { at = at; last = None }

abbrev pub reading_start : (text : List ℕ) (at : ℕ) → Reading text (start at)
reading_start text at = record { most = length text; enough = omega arith; known = tt }

module _ (text : List ℕ) (c : Cursor) (v : Reading text c) where
  -- the elements that are left
  abbrev pub rest : List Covering
  rest = coverings_from v.most text c

  rest_none : (y : Step) → y ≡ step_at text c → ((k : ℕ) → coverings_then k text c.at y ≡ []) → rest ≡ []
  rest_none y e ends = none_from v.most
    where
      none_from : (k : ℕ) → coverings_from k text c ≡ []
      none_from zero = coverings_none text c
      none_from (suc k) = coverings_step k text c y (sym e) ∙ ends k

  -- the purge ends the block, and so does a wrong element
  pub rest_end : (y : Step) → y ≡ step_at text c → ((p n m : ℕ) (next : Cursor) → y ≡ Covers p n m next → ⊥) → rest ≡ []
  rest_end (Covers p n m next) e other = absurd (other p n m next refl)
  rest_end (Purge t place) e other = rest_none (Purge t place) e (λ k. refl)
  rest_end (Wrong place) e other = rest_none (Wrong place) e (λ k. refl)

  module _ (p n m : ℕ) (next : Cursor) (e : Covers p n m next ≡ step_at text c) where
    pub ahead : Ahead text c p n m next
    ahead = step_ahead text c p n m next v.known (sym e)

    abbrev pub reading_on : Reading text (cursor_behind p next)
    reading_on =
        record {
          most = v.most - 1;
          enough = omega (arith, v.enough, ahead.inside, ahead.more);
          known = ahead.low.known;
        }

    pub rest_covers : rest ≡ covering c.at p n m ∷ coverings_from (v.most - 1) text (cursor_behind p next)
    rest_covers =
        let more : v.most ≡ suc (v.most - 1) = omega (arith, v.enough, ahead.inside) in
        ap (λ (k : ℕ). coverings_from k text c) more ∙ coverings_step (v.most - 1) text c (Covers p n m next) (sym e)

-- what is found from a reading place on, with these stretches before it, is what is found from the start
abbrev pub Seeks : (text : List ℕ) (at : ℕ) (c : Cursor) → Reading text c → List Stretch → (ℕ → Bool) → Type 0
Seeks text at c v before these = first_twice these before (rest text c v) ≡ first_twice these [] (coverings text at)

module _ (text : List ℕ) (at : ℕ) (c : Cursor) (v : Reading text c) (before : List Stretch) (these : ℕ → Bool)
    (s : Seeks text at c v before these) where
  pub seeks_none : rest text c v ≡ [] → None ≡ first_twice these [] (coverings text at)
  unfolding first_twice
  seeks_none z = sym (ap (first_twice these before) z) ∙ s

  module _ (p n m : ℕ) (next : Cursor) (e : Covers p n m next ≡ step_at text c) where
    abbrev that : Stretch
    that = stretch_of p n m

    pub seeks_here : (these p && covered_before that before) ≡ true → Some c.at ≡ first_twice these [] (coverings text at)
    seeks_here t = sym (ap (first_twice these before) (rest_covers text c v p n m next e) ∙ first_here these before (covering c.at p n m) _ t) ∙ s

    pub seeks_on : (these p && covered_before that before) ≡ false → Seeks text at (cursor_behind p next) (reading_on text c v p n m next e) (that ∷ before) these
    seeks_on t = sym (ap (first_twice these before) (rest_covers text c v p n m next e) ∙ first_on these before (covering c.at p n m) _ t) ∙ s

-- ---- all of them
-- they start one behind the other, from a place on, under prefixes and with numbers that there are
pub data Ordered : ℕ → List Covering → Type 0 where
  ordered_nil : {at : ℕ} → Ordered at []
  ordered_cons : (at : ℕ) (x : Covering) {xs : List Covering} → at ≤ x.at → Low x.prefix x.first x.last
      → Ordered x.at xs → Ordered at (x ∷ xs)

ordered_from : {a b : ℕ} {xs : List Covering} → a ≤ b → Ordered b xs → Ordered a xs
ordered_from h ordered_nil = ordered_nil
ordered_from {a} h (ordered_cons _ x l w o) = ordered_cons a x (omega arith) w o

ordered_read : (k : ℕ) (text : List ℕ) (c : Cursor) → Below c.last → Ordered c.at (coverings_from k text c)
ordered_read zero text c b = rw (coverings_none text c) ordered_nil
ordered_read (suc k) text c b = by_step (step_at text c) refl (ordered_read k text)
  where
    by_step : (y : Step) → step_at text c ≡ y → ((next : Cursor) → Below next.last → Ordered next.at (coverings_from k text next))
        → Ordered c.at (coverings_from (suc k) text c)
    by_step (Covers p n m next) e more =
        let a : Ahead text c p n m next = step_ahead text c p n m next b e in
        let o : Ordered next.at (coverings_from k text (cursor_behind p next)) = more (cursor_behind p next) a.low.known in
        rw (coverings_step k text c (Covers p n m next) e)
        (ordered_cons c.at (covering c.at p n m) (omega arith) a.low (ordered_from (omega (arith, a.more)) o))
    by_step (Purge t place) e more = rw (coverings_step k text c (Purge t place) e) ordered_nil
    by_step (Wrong place) e more = rw (coverings_step k text c (Wrong place) e) ordered_nil

pub coverings_ordered : (text : List ℕ) (at : ℕ) → Ordered at (coverings text at)
coverings_ordered text at = ordered_read (length text) text (start at) tt

-- under all prefixes, the first that repeats a place is the one that document 02 asks for
module _ (these : ℕ → Bool) (all : (p : ℕ) → p < prefixes → these p ≡ true) (text : List ℕ) where
  first_from : (k : ℕ) (before : List Stretch) (c : Cursor) → Below c.last → length text ≤ c.at + k
      → first_twice these before (coverings_from k text c) ≡ twice_from c.last before (elements_from c.at (drop c.at text))
  unfolding first_twice
  first_from zero before c b h = rw (coverings_none text c, twice_step text before c) (by_step (step_at text c) refl)
    where
      by_step : (y : Step) → step_at text c ≡ y → None ≡ twice_then text c.at before y
      by_step (Covers p n m next) e = let a = step_ahead text c p n m next b e in impossible (omega (arith, a.inside))
      by_step (Purge t place) e = refl
      by_step (Wrong place) e = refl
  first_from (suc k) before c b h = rw (twice_step text before c) (by_step (step_at text c) refl (first_from k))
    where
      by_step : (y : Step) → step_at text c ≡ y
          → ((before : List Stretch) (c : Cursor) → Below c.last → length text ≤ c.at + k
          → first_twice these before (coverings_from k text c) ≡ twice_from c.last before (elements_from c.at (drop c.at text)))
          → first_twice these before (coverings_from (suc k) text c) ≡ twice_then text c.at before y
      by_step (Covers p n m next) e more =
          let a : Ahead text c p n m next = step_ahead text c p n m next b e in
          let s : Stretch = stretch_of p n m in
          rw (coverings_step k text c (Covers p n m next) e, all p a.low.known)
          (ap (λ (x : Option ℕ). cond (covered_before s before) (Some c.at) x)
          (more (s ∷ before) (cursor_behind p next) a.low.known (omega (arith, a.more))))
      by_step (Purge t place) e more = rw (coverings_step k text c (Purge t place) e)
      by_step (Wrong place) e more = rw (coverings_step k text c (Wrong place) e)

  pub first_all : (at : ℕ) → first_twice these [] (coverings text at) ≡ twice_at text at
  unfolding twice_at
  first_all at = first_from (length text) [] (start at) tt (omega arith)

-- ---- the nearer of two prefixes
pub record Nearer (next end p r : ℕ) : Type 0 where
  pub low : r ≤ next
  pub past : end ≤ p → r ≤ p
  pub from : end ≤ next → end ≤ r

pub nearer_is : (next end p r : ℕ) → r ≡ nearest next end p → Nearer next end p r
nearer_is next end p r e =
    by_order p end (λ h. let f : r ≡ next = e ∙ rw (lt-leb end p h) in omega arith)
    λ h. by_order p next (λ k. let f : r ≡ p = e ∙ rw (le-leb end p h, lt-ltb p next k) in omega arith)
    λ k. let f : r ≡ next = e ∙ rw (le-leb end p h, le-ltb p next k) in omega arith
