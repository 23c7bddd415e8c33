-- A block whose elements rise repeats nothing, nor does one whose elements fall. Assumes nothing.
use Prim.Native.Nat.{ℕ, ◌+◌, ◌-◌, ◌*◌, ◌≤◌, ◌<◌}
use native.Mathlib.Omega.{arith}
use mathlib.Core.Path.{◌≡◌, refl, sym, ap, ◌∙◌}
use mathlib.Core.List.{List, [], ◌∷◌}
use mathlib.Core.Bool.{Bool, true, false, ◌&&◌, ◌||◌, and-true, and-false, and_assoc}
use Rattle.std.specs.Prelude.{None}
use lib.ListN.{length}
use lib.Dec.{leb, ltb}
use borrow.Author.Tests.{lt-leb, leb-true, ltb-true, le-ltb}
use mir.Val.{Fits}
use mir.Syntax.{w64}
use Rattle.laws.specs.Lists.{All, all_nil, all_cons}
use Rattle.laws.proofs.Tests.{and_left, and_right}
use Rattle.laws.proofs.Lists.{all_map}
use Rattle.codes.specs.Places.{prefixes, places_end}
use Rattle.codes.specs.Block.{Stretch, stretch_of, share, covered_before, twice_at}
use Rattle.codes.specs.Cursor.{step_at}
use Rattle.codes.specs.declared.Cursor.{Cursor}
use Rattle.codes.specs.declared.Step.{Step}
use Rattle.codes.proofs.Steps.{Ahead}
use Rattle.repeats.specs.Marks.{window, from_up_to}
use Rattle.repeats.specs.Passes.{cursor_behind, nearest, Covering, stretch, coverings, Way, up, down, beyond, edge_of, onward, rising, falling, first_twice}
use Rattle.repeats.proofs.Elements.{Reading, rest, start, reading_start, rest_end, rest_covers, ahead, reading_on}
use Rattle.repeats.proofs.Elements.{Seeks, seeks_none, seeks_on}
use Rattle.repeats.proofs.Elements.{Ordered, ordered_nil, ordered_cons, coverings_ordered, first_all, Nearer, nearer_is}

-- ---- an element beyond an edge repeats nothing of those on this side of it
abbrev Passed : Way → ℕ → Stretch → Type 0
Passed up edge b = b.to < edge
Passed down edge b = edge ≤ b.from

not_shared : (way : Way) (edge : ℕ) (a b : Stretch) → beyond way edge a ≡ true → Passed way edge b → share a b ≡ false
not_shared up edge a b e l = rw (lt-leb a.from b.to (omega (arith, l, leb-true edge a.from e)))
not_shared down edge a b e l = rw (lt-leb b.from a.to (omega (arith, l, ltb-true a.to edge e)), and-false (leb a.from b.to))

passed_this : (way : Way) (a : Stretch) → Passed way (edge_of way a) a
passed_this up a = omega arith
passed_this down a = omega arith

passed_more : (way : Way) (edge : ℕ) (a b : Stretch) → a.from ≤ a.to → beyond way edge a ≡ true → Passed way edge b → Passed way (edge_of way a) b
passed_more up edge a b h e l = omega (arith, h, l, leb-true edge a.from e)
passed_more down edge a b h e l = omega (arith, h, l, ltb-true a.to edge e)

not_covered : (way : Way) (edge : ℕ) (a : Stretch) (before : List Stretch) → beyond way edge a ≡ true → All (Passed way edge) before
    → covered_before a before ≡ false
unfolding covered_before
not_covered way edge a [] e all_nil = refl
not_covered way edge a (b ∷ bs) e (all_cons l ls) = rw (not_shared way edge a b e l) (not_covered way edge a bs e ls)

onward_first : (way : Way) (edge at : ℕ) (before : List Stretch) (xs : List Covering) → All (Passed way edge) before → Ordered at xs
    → onward way edge xs ≡ true → None ≡ first_twice (λ p. true) before xs
unfolding onward first_twice
onward_first way edge at before [] ls ordered_nil r = refl
onward_first way edge at before (x ∷ xs) ls (ordered_cons _ _ l w o) r =
    let a : Stretch = stretch x in
    let here : beyond way edge a ≡ true = and_left (beyond way edge a) (onward way (edge_of way a) xs) r in
    rw (not_covered way edge a before here ls)
    (onward_first way (edge_of way a) x.at (a ∷ before) xs
    (all_cons (passed_this way a) (all_map (λ b u. passed_more way edge a b (omega (arith, w.order)) here u) ls)) o
    (and_right (beyond way edge a) (onward way (edge_of way a) xs) r))

onward_once : (way : Way) (edge : ℕ) (text : List ℕ) (at : ℕ) → onward way edge (coverings text at) ≡ true → None ≡ twice_at text at
onward_once way edge text at e =
    onward_first way edge at [] (coverings text at) all_nil (coverings_ordered text at) e ∙ first_all (λ p. true) (λ p h. refl) text at

pub rising_or_falling_once : (text : List ℕ) (at : ℕ) (r f : Bool) → r ≡ rising (coverings text at) → f ≡ falling (coverings text at)
    → (r || f) ≡ true → None ≡ twice_at text at
rising_or_falling_once text at true f er ef t = onward_once up 0 text at (sym er)
rising_or_falling_once text at false f er ef t = onward_once down places_end text at (sym ef ∙ t)

-- ---- the loop: whether all run a way is whether those so far do and the rest does
abbrev Onward : (text : List ℕ) (at : ℕ) (c : Cursor) → Reading text c → Way → ℕ → Bool → ℕ → Type 0
Onward text at c v way from so_far edge = (so_far && onward way edge (rest text c v)) ≡ onward way from (coverings text at)

module _ (text : List ℕ) (at : ℕ) (c : Cursor) (v : Reading text c) (way : Way) (from : ℕ) (so_far : Bool) (edge : ℕ)
    (s : Onward text at c v way from so_far edge) where
  onward_none : rest text c v ≡ [] → so_far ≡ onward way from (coverings text at)
  unfolding onward
  onward_none z = sym (and-true so_far) ∙ ap (λ (xs : List Covering). so_far && onward way edge xs) (sym z) ∙ s

  onward_on : (p n m : ℕ) (next : Cursor) (e : Step.Covers p n m next ≡ step_at text c)
      → Onward text at (cursor_behind p next) (reading_on text c v p n m next e) way from (so_far && beyond way edge (stretch_of p n m)) (edge_of way (stretch_of p n m))
  unfolding onward
  onward_on p n m next e =
      and_assoc so_far (beyond way edge (stretch_of p n m)) _
      ∙ ap (λ (xs : List Covering). so_far && onward way edge xs) (sym (rest_covers text c v p n m next e))
      ∙ s

-- both ways; and below `lowest` no prefix has been met
pub record Outlined (text : List ℕ) (at : ℕ) (c : Cursor) (rises falls : Bool) (high low lowest : ℕ) : Type 0 where
  pub reading : Reading text c
  pub rise : Onward text at c reading up 0 rises high
  pub fall : Onward text at c reading down places_end falls low
  pub before : List Stretch
  pub quiet : (n : ℕ) → n ≤ lowest → Seeks text at c reading before (from_up_to 0 n)

pub outlined_start : (text : List ℕ) (at : ℕ) → Outlined text at (start at) true true 0 places_end (prefixes + window)
outlined_start text at = record { reading = reading_start text at; rise = refl; fall = refl; before = []; quiet = λ n h. refl }

module _ (text : List ℕ) (at : ℕ) (c : Cursor) (rises falls : Bool) (high low lowest : ℕ)
    (v : Outlined text at c rises falls high low lowest) (y : Step) (e : y ≡ step_at text c) where
  module _ (other : (p n m : ℕ) (next : Cursor) → y ≡ Step.Covers p n m next → ⊥) where
    pub rise_end : rises ≡ rising (coverings text at)
    rise_end = onward_none text at c v.reading up 0 rises high v.rise (rest_end text c v.reading y e other)

    pub fall_end : falls ≡ falling (coverings text at)
    fall_end = onward_none text at c v.reading down places_end falls low v.fall (rest_end text c v.reading y e other)

    pub quiet_end : None ≡ first_twice (from_up_to 0 lowest) [] (coverings text at)
    quiet_end = seeks_none text at c v.reading v.before (from_up_to 0 lowest) (v.quiet lowest (omega arith)) (rest_end text c v.reading y e other)

  module _ (p n m : ℕ) (next : Cursor) (q : y ≡ Step.Covers p n m next) where
    this_ahead : Ahead text c p n m next
    this_ahead = ahead text c v.reading p n m next (sym q ∙ e)

    pub outlined_less : length text - next.at < length text - c.at
    outlined_less = omega (arith, this_ahead.inside, this_ahead.more, this_ahead.within)

    pub outlined_base : Fits w64 (p * 1000)
    outlined_base = omega (arith, this_ahead.low.known)

    pub outlined_from : Fits w64 (p * 1000 + n)
    outlined_from = omega (arith, this_ahead.low.known, this_ahead.low.number, this_ahead.low.order)

    pub outlined_to : Fits w64 (p * 1000 + m)
    outlined_to = omega (arith, this_ahead.low.known, this_ahead.low.number)

    pub outlined_end : Fits w64 (p * 1000 + m + 1)
    outlined_end = omega (arith, this_ahead.low.known, this_ahead.low.number)

    pub outlined_on : (lower : ℕ) → lower ≡ nearest lowest 0 p
        → Outlined text at (cursor_behind p next) (rises && leb high (p * 1000 + n)) (falls && ltb (p * 1000 + m) low) (p * 1000 + m + 1) (p * 1000 + n) lower
    outlined_on lower el =
        let near : Nearer lowest 0 p lower = nearer_is lowest 0 p lower el in
        record {
          reading = reading_on text c v.reading p n m next (sym q ∙ e);
          rise = onward_on text at c v.reading up 0 rises high v.rise p n m next (sym q ∙ e);
          fall = onward_on text at c v.reading down places_end falls low v.fall p n m next (sym q ∙ e);
          before = stretch_of p n m ∷ v.before;
          quiet = λ k h. let away : ltb p k ≡ false = le-ltb p k (omega (arith, near.past (omega arith))) in
              seeks_on text at c v.reading v.before (from_up_to 0 k) (v.quiet k (omega (arith, near.low)))
              p n m next (sym q ∙ e) (rw (away, and-false (leb 0 p)));
        }
