-- One pass over a block, with a mark for each place of a window. Assumes nothing.
use Prim.Native.Nat.{ℕ, ◌+◌, ◌-◌, ◌*◌, ◌/◌, ◌%◌, ◌≤◌, ◌<◌}
use native.Mathlib.Omega.{arith}
use mathlib.Core.Path.{◌≡◌, refl, sym, ◌∙◌}
use mathlib.Core.List.{List, [], ◌∷◌}
use mathlib.Core.Bool.{Bool, true, false, cond, ◌&&◌, and-false}
use Rattle.std.specs.Prelude.{None, Some}
use lib.ListN.{length, replicate, length-replicate, get_or-replicate}
use lib.Dec.{leb, ltb}
use lib.Pow.{shr_le}
use borrow.Author.Tests.{ltb-true, leb-true, le-leb, lt-leb, lt-ltb, le-ltb}
use Rattle.laws.specs.Lists.{All, all_nil, all_cons}
use Rattle.laws.proofs.Tests.{by, by_order, impossible, apart, and_left, and_right}
use Rattle.codes.specs.Places.{prefixes, place_of}
use Rattle.codes.specs.Serving.{Low}
use Rattle.codes.specs.Block.{Stretch, stretch_of, share, covered_before}
use Rattle.codes.specs.Cursor.{step_at}
use Rattle.codes.specs.declared.Cursor.{Cursor}
use Rattle.codes.specs.declared.Step.{Step}
use Rattle.codes.proofs.Steps.{Ahead}
use Rattle.codes.proofs.Twice.{Stretched, Both, before_gathered, gathered_before}
use Rattle.repeats.specs.Marks.{window, window_words, from_up_to, bit_at, mark, Noted}
use Rattle.repeats.specs.Passes.{cursor_behind, nearest, coverings, first_twice}
use Rattle.repeats.proofs.Elements.{Reading, start, reading_start, rest_end, ahead, reading_on}
use Rattle.repeats.proofs.Elements.{Seeks, seeks_none, seeks_here, seeks_on, Nearer, nearer_is}

-- ---- a stretch repeats a place exactly if one of its places is covered
abbrev point : ℕ → Stretch
point q = record { from = q; to = q }

record Point (a : Stretch) (before : List Stretch) : Type 0 where
  place : ℕ
  from : a.from ≤ place
  to : place ≤ a.to
  covered : covered_before (point place) before ≡ true

point_in : (a : Stretch) (before : List Stretch) → All Stretched before → Point a before → covered_before a before ≡ true
point_in a before s x =
    let b : Both (point x.place) _ = before_gathered (point x.place) before (record { order = omega arith }) s x.covered in
    gathered_before a before (record { place = b.place; from = omega (arith, x.from, b.from); to = omega (arith, x.to, b.to); among = b.among })

point_out : (a : Stretch) (before : List Stretch) → Stretched a → All Stretched before → covered_before a before ≡ true → Point a before
point_out a before h s e =
    let b = before_gathered a before h s e in
    record {
      place = b.place;
      from = b.from;
      to = b.to;
      covered = gathered_before (point b.place) before (record { place = b.place; from = omega arith; to = omega arith; among = b.among });
    }

-- ---- of the window's places, just those that are covered are marked
abbrev window_places : ℕ
window_places = window * 1000

pub record Marked (low : ℕ) (before : List Stretch) (marks : List ℕ) : Type 0 where
  pub long : length marks ≡ window_words
  pub same : (i : ℕ) → i < window_places → mark marks i ≡ cond (covered_before (point (low * 1000 + i)) before) 1 0

is_covered : (t : Bool) → ◌≡◌ {A = ℕ} (cond t 1 0) 1 → t ≡ true
is_covered true e = refl
is_covered false e = impossible (omega arith)

marked_start : (low : ℕ) → Marked low [] (replicate window_words 0)
unfolding mark bit_at covered_before
marked_start low =
    record {
      long = length-replicate {A = ℕ} window_words 0;
      same = λ i h. rw (get_or-replicate {A = ℕ} window_words (i / 64) 0 0 (omega arith)) (omega (arith, shr_le 0 (i % 64)));
    }

-- a prefix that is not in the window
beside : {P : Type 0} (low p : ℕ) → from_up_to low (low + window) p ≡ false → (p < low → P) → (low + window ≤ p → P) → P
beside low p u f g =
    by_order p low f
    λ a. by_order p (low + window) (λ b. let t : from_up_to low (low + window) p ≡ true = rw (le-leb low p a, lt-ltb p (low + window) b) in apart cc) g

-- ---- one element, with the stretches before it and the marks after it
record Met (low p n m : ℕ) (before : List Stretch) (after : List ℕ) (hit : Bool) : Type 0 where
  marked : hit ≡ false → Marked low (stretch_of p n m ∷ before) after
  again : hit ≡ true → (from_up_to low (low + window) p && covered_before (stretch_of p n m) before) ≡ true
  passes : hit ≡ false → (k : ℕ) → (low + window ≤ p → k ≤ p) → (from_up_to low k p && covered_before (stretch_of p n m) before) ≡ false

module _ (low p n m : ℕ) (w : Low p n m) (before : List Stretch) (marks : List ℕ) (v : Marked low before marks) where
  abbrev this : Stretch
  this = stretch_of p n m

  -- whether a place of the window lies in this stretch
  within : (i : ℕ) → place_of p n ≤ low * 1000 + i → low * 1000 + i ≤ place_of p m → share (point (low * 1000 + i)) this ≡ true
  within i a b = rw (le-leb (low * 1000 + i) (place_of p m) b, le-leb (place_of p n) (low * 1000 + i) a)

  under_this : (i : ℕ) → low * 1000 + i < place_of p n → share (point (low * 1000 + i)) this ≡ false
  under_this i a = rw (lt-leb (place_of p n) (low * 1000 + i) a, and-false (leb (low * 1000 + i) (place_of p m)))

  over_this : (i : ℕ) → place_of p m < low * 1000 + i → share (point (low * 1000 + i)) this ≡ false
  over_this i a = rw (lt-leb (low * 1000 + i) (place_of p m) a)

  -- an element in another window
  marked_past : from_up_to low (low + window) p ≡ false → Marked low (this ∷ before) marks
  unfolding covered_before
  marked_past u = record { long = v.long; same = λ i h. rw (apart_from i h) (v.same i h) }
    where
      apart_from : (i : ℕ) → i < window_places → share (point (low * 1000 + i)) this ≡ false
      apart_from i h =
          beside low p u (λ a. over_this i (omega (arith, w.number))) (λ a. under_this i (omega arith))

  module _ (after : List ℕ) (hit : Bool) (r : Noted low p n m marks after hit) (s : All Stretched before) where
    module _ (u : from_up_to low (low + window) p ≡ true) where
      from_low : low ≤ p
      from_low = leb-true low p (and_left (leb low p) (ltb p (low + window)) u)

      to_end : p < low + window
      to_end = ltb-true p (low + window) (and_right (leb low p) (ltb p (low + window)) u)

      -- one of its places was marked
      claim_hit : hit ≡ true → covered_before this before ≡ true
      claim_hit t =
          let f = (r.inside u).taken t in
          let q : ℕ = low * 1000 + f.place in
          let inside : f.place < window_places = omega (arith, f.high, w.number, from_low, to_end) in
          let c : covered_before (point q) before ≡ true = is_covered (covered_before (point q) before) (sym (v.same f.place inside) ∙ f.marked) in
          point_in this before s (record { place = q; from = omega (arith, f.low, from_low); to = omega (arith, f.high, from_low); covered = c })

      -- none was
      claim_free : hit ≡ false → covered_before this before ≡ false
      claim_free t =
          by (covered_before this before) (λ e. impossible (none_in (point_out this before (record { order = omega (arith, w.order) }) s e))) (λ e. e)
        where
          none_in : Point this before → ⊥
          none_in x =
              let i : ℕ = x.place - low * 1000 in
              let e : low * 1000 + i ≡ x.place = omega (arith, x.from, from_low) in
              let one : mark marks i ≡ 1 = v.same i (omega (arith, x.to, w.number, to_end)) ∙ rw (e, x.covered) in
              omega (arith, ((r.inside u).claimed t).free i (omega (arith, x.from, from_low)) (omega (arith, x.to, from_low)))

      -- now they are
      marked_in : hit ≡ false → Marked low (this ∷ before) after
      unfolding covered_before
      marked_in t =
          let c = (r.inside u).claimed t in
          let l : low ≤ p = from_low in
          record {
            long = c.long ∙ v.long;
            same = λ i k. by_order i ((p - low) * 1000 + n)
                (λ a. rw (under_this i (omega arith)) (c.below i a ∙ v.same i k))
                (λ a. by_order i ((p - low) * 1000 + m + 1)
                (λ b. rw (within i (omega arith) (omega arith)) (c.inside i a b))
                (λ b. rw (over_this i (omega arith)) (c.above i b ∙ v.same i k)));
          }

    marked_on : hit ≡ false → Marked low (this ∷ before) after
    marked_on t = by (from_up_to low (low + window) p) (λ u. marked_in u t) (λ u. rw (r.kept u) (marked_past u))

    -- it covers a place already covered
    again : hit ≡ true → (from_up_to low (low + window) p && covered_before this before) ≡ true
    again t =
        by (from_up_to low (low + window) p) (λ u. rw (u, claim_hit u t))
        λ u. let f : true ≡ false = sym t ∙ r.missed u in apart cc

    -- it does not, or lies outside the window, and not between that and k
    passes : hit ≡ false → (k : ℕ) → (low + window ≤ p → k ≤ p) → (from_up_to low k p && covered_before this before) ≡ false
    passes t k h =
        by (from_up_to low (low + window) p) (λ u. rw (claim_free u t) (and-false (from_up_to low k p)))
        λ u. beside low p u (λ a. rw (lt-leb low p a)) (λ a. rw (le-ltb p k (h a), and-false (leb low p)))

    met : Met low p n m before after hit
    met = record { marked = marked_on; again = again; passes = passes }

-- ---- the pass, under the prefixes of the window and those behind it that no element has
pub record Passing (text : List ℕ) (at low : ℕ) (c : Cursor) (next : ℕ) (marks : List ℕ) : Type 0 where
  pub reading : Reading text c
  pub before : List Stretch
  pub some_each : All Stretched before
  pub marked : Marked low before marks
  pub from : low + window ≤ next
  pub same : (k : ℕ) → low + window ≤ k → k ≤ next → Seeks text at c reading before (from_up_to low k)

pub passing_start : (text : List ℕ) (at low : ℕ) → low ≤ prefixes → Passing text at low (start at) (prefixes + window) (replicate window_words 0)
passing_start text at low h =
    record {
      reading = reading_start text at;
      before = [];
      some_each = all_nil;
      marked = marked_start low;
      from = omega arith;
      same = λ k l g. refl;
    }

module _ (text : List ℕ) (at low : ℕ) (c : Cursor) (next : ℕ) (marks : List ℕ) (v : Passing text at low c next marks) where
  module _ (y : Step) (e : y ≡ step_at text c) where
    pub passing_end : ((p n m : ℕ) (past : Cursor) → y ≡ Step.Covers p n m past → ⊥) → None ≡ first_twice (from_up_to low next) [] (coverings text at)
    passing_end other = seeks_none text at c v.reading v.before (from_up_to low next) (v.same next v.from (omega arith)) (rest_end text c v.reading y e other)

    module _ (p n m : ℕ) (past : Cursor) (q : y ≡ Step.Covers p n m past) where
      this_ahead : Ahead text c p n m past
      this_ahead = ahead text c v.reading p n m past (sym q ∙ e)

      pub passing_low : Low p n m
      passing_low = this_ahead.low

      pub passing_less : length text - past.at < length text - c.at
      passing_less = omega (arith, this_ahead.inside, this_ahead.more, this_ahead.within)

      module _ (after : List ℕ) (hit : Bool) (r : Noted low p n m marks after hit) where
        this_met : Met low p n m v.before after hit
        this_met = met low p n m passing_low v.before marks v.marked after hit r v.some_each

        pub passing_hit : hit ≡ true → Some c.at ≡ first_twice (from_up_to low (low + window)) [] (coverings text at)
        passing_hit t =
            seeks_here text at c v.reading v.before (from_up_to low (low + window)) (v.same (low + window) (omega arith) v.from)
            p n m past (sym q ∙ e) (this_met.again t)

        pub passing_on : hit ≡ false → (next' : ℕ) → next' ≡ nearest next (low + window) p → Passing text at low (cursor_behind p past) next' after
        passing_on t next' en =
            let near : Nearer next (low + window) p next' = nearer_is next (low + window) p next' en in
            let some-place : Stretched (stretch_of p n m) = record { order = omega (arith, passing_low.order) } in
            record {
              reading = reading_on text c v.reading p n m past (sym q ∙ e);
              before = stretch_of p n m ∷ v.before;
              some_each = all_cons some-place v.some_each;
              marked = this_met.marked t;
              from = near.from v.from;
              same = λ k l g.
                  seeks_on text at c v.reading v.before (from_up_to low k) (v.same k l (omega (arith, near.low)))
                  p n m past (sym q ∙ e) (this_met.passes t k (λ h. omega (arith, near.past h)));
            }
