-- The block, read by steps, with its places held by value. Assumes nothing.
use Prim.Native.Nat.{ℕ, suc, ◌+◌, ◌-◌, ◌<◌}
use native.Mathlib.Omega.{arith}
use mathlib.Core.Path.{◌≡◌, refl, sym, ap, ap₂, ◌∙◌}
use mathlib.Core.List.{List, [], ◌∷◌, ◌++◌}
use mathlib.Core.Bool.{true, false}
use Rattle.std.specs.Prelude.{Option, None, Some, Result, Ok, Err, IfOk}
use borrow.Author.Tests.{le-leb, lt-leb}
use lib.Dec.{leb}
use lib.ListN.{length, drop, replicate, take-append-drop}
use lib.Seq.{length-take-le}
use Rattle.laws.specs.Lists.{All, all_nil, all_cons}
use Rattle.laws.proofs.Tests.{apart, same_test}
use Rattle.calendar.specs.declared.Stamp.{Stamp}
use Rattle.codes.specs.Places.{place_of, nil}
use Rattle.codes.specs.Serving.{Low}
use Rattle.codes.specs.Elements.{Element, elements_from}
use Rattle.codes.specs.Block.{insert_run, insert_covered, Read, block, wrong_at, read_from, read_block, Stretch, stretch_of, covered_before, twice_from, twice_at}
use Rattle.codes.specs.Cursor.{step_at}
use Rattle.codes.specs.declared.Cursor.{Cursor}
use Rattle.codes.specs.declared.Step.{Step}
use Rattle.codes.proofs.Bounds.{Below}
use Rattle.codes.proofs.Steps.{read_then, read_step, Ahead, step_ahead}
use Rattle.codes.proofs.Twice.{twice_then, twice_step, Stretched, gathered, before_gathered, gathered_before}
use Rattle.sets.specs.Held.{vacant, places_for, places_in, Good}
use Rattle.sets.specs.Runs.{capped, held_by, is_over, is_twice, holds_in, Grown}
use Rattle.sets.specs.declared.Places.{Places}
use Rattle.sets.specs.declared.Put.{Put}
use Rattle.sets.specs.declared.Put.TheVariants as put
use Rattle.sets.proofs.Searches.{holds_in_lem, holds_out}
use Rattle.sets.proofs.Sets.{held_many, held_is}
use Rattle.refusal.specs.Answer.{refusal_for}
use Rattle.refusal.specs.declared.Reason.TheVariants.{WrongBlock}
use Rattle.refusal.specs.declared.Refusal.{Refusal}
use Rattle.reading.specs.Held.{block_for}
use Rattle.reading.specs.Rests.{Known, read_on, rest_of, over_for}
use Rattle.reading.specs.declared.Block.{Block}
use Rattle.reading.proofs.Rests.{rest_any, read_long, below_known}

-- places by value are those that are held, and zeros behind them
places_are_lem : (t : Places) (ps : List ℕ) → Good t → places_in t ≡ ps → t ≡ places_for ps
places_are_lem t ps g e =
    let n : t.count ≡ length ps = sym (length-take-le t.count t.held (omega (arith, g.few, g.long))) ∙ ap length e in
    let a : t.held ≡ ps ++ drop (length ps) vacant =
    sym (take-append-drop t.count t.held) ∙ ap₂ (λ (x y : List ℕ). x ++ y) e (g.rest ∙ ap (λ (k : ℕ). drop k vacant) n) in
    λ i. record { held = a i; count = n i }

pub none_is : (held : List ℕ) → held ≡ replicate 120 0 → record { held = held; count = 0 } ≡ places_for []
unfolding vacant
none_is held e = rw e

pub none_good : Good (places_for [])
unfolding vacant
none_good = record { long = refl; few = omega arith; rising = nil; rest = refl }

pub over_good : (t : Option ℕ) (x : Result (Stamp × ℕ) Refusal) (r : Result Block Refusal) → r ≡ over_for t x → IfOk r (λ b. Good b.places)
over_good None (Ok e) r q = rw q none_good
over_good (Some again) (Ok e) r q = rw q tt
over_good t (Err w) r q = rw q tt

-- the first repeating element from the reading place on
abbrev twice_on : List ℕ → Cursor → List Stretch → Option ℕ
twice_on s c before = twice_from c.last before (elements_from c.at (drop c.at s))

-- the block from here is the block from its start: all places so far are held, and the first element that covers one of them again is still ahead
pub record Reads (s : List ℕ) (at : ℕ) (c : Cursor) (t : Places) : Type 0 where
  pub before : List Stretch
  pub each : All Stretched before
  pub good : Good t
  pub all : places_in t ≡ gathered before
  pub known : Below c.last
  pub same : read_from (length s) c.last (gathered before) (elements_from c.at (drop c.at s)) ≡ read_block s at
  pub repeat : twice_on s c before ≡ twice_at s at

pub reads_start : (s : List ℕ) (at : ℕ) → Reads s at (record { at = at; last = None }) (places_for [])
unfolding read_block twice_at gathered vacant
reads_start s at =
    record {
      before = [];
      each = all_nil;
      good = none_good;
      all = refl;
      known = tt;
      same = refl;
      repeat = refl;
    }

-- covered before, as the set of the places so far tells
covered_held : (a : Stretch) (before : List Stretch) → Stretched a → All Stretched before → holds_in a.from a.to (gathered before) ≡ covered_before a before
covered_held a before h k =
    same_test (holds_in a.from a.to (gathered before)) (covered_before a before)
    (λ e. gathered_before a before (holds_out a (gathered before) e))
    (λ e. let b = before_gathered a before h k e in holds_in_lem a.from a.to b.place b.among b.from b.to)

module _ (s : List ℕ) (at : ℕ) (c : Cursor) (t : Places) (v : Reads s at c t) (r : Step) (e : r ≡ step_at s c) where
  abbrev got : List ℕ
  got = gathered v.before

  then_is : (y : Step) → r ≡ y → read_then s got y ≡ read_block s at
  then_is y q = ap (read_then s got) (sym q ∙ e) ∙ sym (read_step s got c) ∙ v.same

  twice_is : (y : Step) → r ≡ y → twice_then s c.at v.before y ≡ twice_at s at
  twice_is y q = ap (twice_then s c.at v.before) (sym q ∙ e) ∙ sym (twice_step s v.before c) ∙ v.repeat

  pub reads_wrong : (place : ℕ) → r ≡ Step.Wrong place → (w : Refusal) → w ≡ refusal_for WrongBlock place → Err w ≡ block_for (twice_at s at) (read_block s at)
  reads_wrong place q w e = ap Err e ∙ ap (block_for (twice_at s at)) (then_is (Step.Wrong place) q)

  pub reads_purge : (stamp : Stamp) (place : ℕ) → r ≡ Step.Purge stamp place
      → Ok (record { stamp = stamp; place = place; over = false; places = t }) ≡ block_for (twice_at s at) (read_block s at)
  reads_purge stamp place q =
      let n : length got ≡ t.count = ap length (sym v.all) ∙ length-take-le t.count t.held (omega (arith, v.good.long, v.good.few)) in
      let few : leb (length got) 120 ≡ true = le-leb (length got) 120 (omega (arith, v.good.few)) in
      ap (λ (x : Places). Ok (record { stamp = stamp; place = place; over = false; places = x })) (places_are_lem t got v.good v.all)
      ∙ (rw few)
      ∙ ap₂ block_for (twice_is (Step.Purge stamp place) q) (then_is (Step.Purge stamp place) q)

  -- ---- an element that covers places
  module _ (p n m : ℕ) (next : Cursor) (q : r ≡ Step.Covers p n m next) where
    abbrev here : Stretch
    here = stretch_of p n m

    -- the reading place behind it, and the elements from there on
    abbrev behind : Cursor
    behind = record { at = next.at; last = Some p }

    abbrev rest_of_lem : List Element
    rest_of_lem = elements_from next.at (drop next.at s)

    ahead : Ahead s c p n m next
    ahead = step_ahead s c p n m next v.known (sym e ∙ q)

    pub reads_low : Low p n m
    reads_low = ahead.low

    pub reads_less : length s - next.at < length s - c.at
    reads_less = omega (arith, ahead.inside, ahead.more, ahead.within)

    pub reads_known : Known behind
    reads_known = record { low = below_known (Some p) ahead.low.known }

    some_here : Stretched here
    some_here = record { order = omega (arith, ahead.low.order) }

    more_is : insert_covered p n m got ≡ gathered (here ∷ v.before)
    unfolding gathered
    more_is = let f : suc m - n ≡ suc (place_of p m) - place_of p n = omega arith in ap (λ (k : ℕ). insert_run k (place_of p n) got) f

    next_is : read_from (length s) (Some p) (gathered (here ∷ v.before)) rest_of_lem ≡ read_block s at
    next_is = rw (← more_is) (then_is (Step.Covers p n m next) q)

    -- the end of the rest is the block's
    ends : rest_of (read_on s behind) ≡ rest_of (read_block s at)
    ends = rest_any (length s) (Some p) [] (gathered (here ∷ v.before)) rest_of_lem ∙ ap rest_of next_is

    -- where there are more than 120 places, or one of them twice, none is kept
    is_over_lem : (t : Option ℕ) (x : Read) → ((ps : List ℕ) (stamp : Stamp) (z : ℕ) → x ≡ block ps stamp z → t ≡ None → 120 < length ps) → over_for t (rest_of x) ≡ block_for t x
    is_over_lem None (block ps stamp z) h = rw (lt-leb (length ps) 120 (h ps stamp z refl refl))
    is_over_lem (Some y) (block ps stamp z) h = refl
    is_over_lem t (wrong_at z) h = refl

    module _ (after : Places) (x : Put) (w : Grown t (place_of p n) (place_of p m + 1) after x) where
      again_is : is_twice x ≡ covered_before here v.before
      again_is =
          let f : place_of p m + 1 - 1 ≡ place_of p m = omega arith in
          w.twice ∙ ap₂ (λ (k : ℕ) (l : List ℕ). holds_in (place_of p n) k l) f v.all ∙ covered_held here v.before some_here v.each

      held_now : is_twice x ≡ false → held_by (is_over x) after ≡ capped (gathered (here ∷ v.before))
      held_now t =
          let f : place_of p m + 1 - place_of p n ≡ suc m - n = omega arith in
          w.held t ∙ ap₂ (λ (k : ℕ) (l : List ℕ). capped (insert_run k (place_of p n) l)) f v.all ∙ ap capped more_is

      pub reads_held : x ≡ put.Held → Reads s at behind after
      reads_held h =
          let y : is_twice x ≡ false = rw h in
          let a : covered_before here v.before ≡ false = sym again_is ∙ y in
          record {
            before = here ∷ v.before;
            each = all_cons some_here v.each;
            good = w.good;
            all = held_is false after (gathered (here ∷ v.before)) (rw h at (held_now y)) refl;
            known = ahead.low.known;
            same = next_is;
            repeat = rw a at (twice_is (Step.Covers p n m next) q);
          }

      -- too many: asked for by itself
      pub reads_over : x ≡ put.Over → (b : Result Block Refusal) → b ≡ over_for (twice_at s at) (rest_of (read_on s behind)) → b ≡ block_for (twice_at s at) (read_block s at)
      reads_over h b eb =
          let t : is_twice x ≡ false = rw h in
          let k : 120 < length (gathered (here ∷ v.before)) = held_many true after (gathered (here ∷ v.before)) (rw h at (held_now t)) refl in
          eb ∙ ap (over_for (twice_at s at)) ends
          ∙ is_over_lem (twice_at s at) (read_block s at)
          (λ ps stamp z g o. omega (arith, read_long (length s) (Some p) (gathered (here ∷ v.before)) rest_of_lem ps stamp z (next_is ∙ g)))

      -- covered twice
      pub reads_twice : x ≡ put.Twice → (b : Result Block Refusal) → b ≡ over_for (Some c.at) (rest_of (read_on s behind)) → b ≡ block_for (twice_at s at) (read_block s at)
      reads_twice h b eb =
          let z : is_twice x ≡ true = rw h in
          let a : covered_before here v.before ≡ true = sym again_is ∙ z in
          let t : Some c.at ≡ twice_at s at = rw a at (twice_is (Step.Covers p n m next) q) in
          eb ∙ ap (over_for (Some c.at)) ends ∙ is_over_lem (Some c.at) (read_block s at) (λ ps stamp k g o. apart cc)
          ∙ ap (λ (y : Option ℕ). block_for y (read_block s at)) t
