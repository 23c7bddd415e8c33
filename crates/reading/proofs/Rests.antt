-- The rest of a block, whose end does not depend on the places so far. Assumes nothing.
use Prim.Native.Nat.{ℕ, suc, ◌-◌, ◌≤◌, ◌<◌}
use native.Mathlib.Omega.{arith}
use mathlib.Core.Path.{◌≡◌, refl, sym, ap, ◌∙◌}
use mathlib.Core.List.{List, [], ◌∷◌}
use mathlib.Core.Bool.{Bool, true, false}
use Rattle.std.specs.Prelude.{Option, None, Some, Result, Ok, Err}
use lib.ListN.{length, drop}
use Rattle.laws.proofs.Tests.{apart}
use Rattle.calendar.specs.declared.Stamp.{Stamp}
use Rattle.codes.specs.Places.{place_of, prefixes}
use Rattle.codes.specs.Elements.{Element, elements_from, said}
use Rattle.codes.specs.Elements as elements
use Rattle.codes.specs.Block.{insert_covered, block, wrong_at, ended, read_from}
use Rattle.codes.specs.Cursor.{step_at}
use Rattle.codes.specs.declared.Cursor.{Cursor}
use Rattle.codes.specs.declared.Step.{Step}
use Rattle.codes.proofs.Bounds.{Below}
use Rattle.codes.proofs.Members.{run_length}
use Rattle.codes.proofs.Turns.{read_covers, read_purge_lem, read_wrong}
use Rattle.codes.proofs.Steps.{read_then, read_step, Ahead, step_ahead}
use Rattle.refusal.specs.Answer.{refusal_for}
use Rattle.refusal.specs.declared.Reason.TheVariants.{WrongBlock, PlaceTwice}
use Rattle.refusal.specs.declared.Refusal.{Refusal}
use Rattle.sets.specs.Held.{places_for}
use Rattle.sets.specs.declared.Places.{Places}
use Rattle.reading.specs.Rests.{Known, read_on, rest_of, over_for}

-- ---- the end, and the places so far
ends_any : (l : Bool) (got other : List ℕ) (t : Stamp) (at next : ℕ) → rest_of (ended l (block got t at) next) ≡ rest_of (ended l (block other t at) next)
ends_any true got other t at next = refl
ends_any false got other t at next = refl

pub rest_any : (stop : ℕ) (last : Option ℕ) (got other : List ℕ) (es : List Element) → rest_of (read_from stop last got es) ≡ rest_of (read_from stop last other es)
unfolding read_from
rest_any stop last got other [] = refl
rest_any stop last got other (e ∷ es) = go (λ p a b. rest_any stop (Some p) a b es) (said last e.bytes) refl
  where
    go : ((p : ℕ) (a b : List ℕ) → rest_of (read_from stop (Some p) a es) ≡ rest_of (read_from stop (Some p) b es))
        → (x : elements.Said) → said last e.bytes ≡ x → rest_of (read_from stop last got (e ∷ es)) ≡ rest_of (read_from stop last other (e ∷ es))
    go i (elements.covers p n m) q =
        ap rest_of (read_covers stop last got e es p n m q) ∙ i p (insert_covered p n m got) (insert_covered p n m other)
        ∙ sym (ap rest_of (read_covers stop last other e es p n m q))
    go i (elements.purge t) q =
        ap rest_of (read_purge_lem stop last got e es t q) ∙ ends_any e.last got other t _ _ ∙ sym (ap rest_of (read_purge_lem stop last other e es t q))
    go i elements.wrong q = ap rest_of (read_wrong stop last got e es q) ∙ sym (ap rest_of (read_wrong stop last other e es q))

-- no place is lost
ends_long : (l : Bool) (got ps : List ℕ) (t s : Stamp) (at next z : ℕ) → ended l (block got t at) next ≡ block ps s z → length got ≤ length ps
ends_long true got ps t s at next z e = let q : got ≡ ps = cc in rw q (omega arith)
ends_long false got ps t s at next z e = apart cc

pub read_long : (stop : ℕ) (last : Option ℕ) (got : List ℕ) (es : List Element) (ps : List ℕ) (s : Stamp) (z : ℕ) → read_from stop last got es ≡ block ps s z
    → length got ≤ length ps
unfolding read_from
read_long stop last got [] ps s z e = apart cc
read_long stop last got (x ∷ es) ps s z e = go (λ p g. read_long stop (Some p) g es ps s z) (said last x.bytes) refl
  where
    go : ((p : ℕ) (g : List ℕ) → read_from stop (Some p) g es ≡ block ps s z → length g ≤ length ps) → (y : elements.Said) → said last x.bytes ≡ y
        → length got ≤ length ps
    go i (elements.covers p n m) q =
        let k = i p (insert_covered p n m got) (sym (read_covers stop last got x es p n m q) ∙ e) in
        omega (arith, run_length (suc m - n) (place_of p n) got)
    go i (elements.purge t) q = ends_long x.last got ps t s _ _ z (sym (read_purge_lem stop last got x es t q) ∙ e)
    go i elements.wrong q = let f : wrong_at x.at ≡ block ps s z = sym (read_wrong stop last got x es q) ∙ e in apart cc

-- ---- by steps
below_of_lem : (last : Option ℕ) → ((p : ℕ) → last ≡ Some p → p < prefixes) → Below last
below_of_lem None k = tt
below_of_lem (Some p) k = k p refl

pub below_known : (last : Option ℕ) → Below last → (p : ℕ) → last ≡ Some p → p < prefixes
below_known None b p e = apart cc
below_known (Some q) b p e = let f : q ≡ p = cc in omega arith

-- the end from here is the end from the start
pub record Resting (s : List ℕ) (from c : Cursor) : Type 0 where
  pub known : Below c.last
  pub same : rest_of (read_on s c) ≡ rest_of (read_on s from)

pub resting_start : (s : List ℕ) (from : Cursor) → Known from → Resting s from from
resting_start s from k = record { known = below_of_lem from.last k.low; same = refl }

module _ (s : List ℕ) (from c : Cursor) (v : Resting s from c) (r : Step) (e : r ≡ step_at s c) where
  rest_is : (y : Step) → r ≡ y → rest_of (read_then s [] y) ≡ rest_of (read_on s from)
  rest_is y q = ap rest_of (ap (read_then s []) (sym q ∙ e) ∙ sym (read_step s [] c)) ∙ v.same

  pub resting_purge : (stamp : Stamp) (place : ℕ) → r ≡ Step.Purge stamp place → Ok (stamp, place) ≡ rest_of (read_on s from)
  resting_purge stamp place q = rest_is (Step.Purge stamp place) q

  pub resting_wrong : (place : ℕ) → r ≡ Step.Wrong place → (w : Refusal) → w ≡ refusal_for WrongBlock place → Err w ≡ rest_of (read_on s from)
  resting_wrong place q w ew = ap Err ew ∙ rest_is (Step.Wrong place) q

  module _ (p n m : ℕ) (next : Cursor) (q : r ≡ Step.Covers p n m next) where
    ahead : Ahead s c p n m next
    ahead = step_ahead s c p n m next v.known (sym e ∙ q)

    pub resting_less : length s - next.at < length s - c.at
    resting_less = omega (arith, ahead.inside, ahead.more, ahead.within)

    pub resting_on : Resting s from (record { at = next.at; last = Some p })
    resting_on =
        record {
          known = ahead.low.known;
          same = rest_any (length s) (Some p) [] (insert_covered p n m []) (elements_from next.at (drop next.at s)) ∙ rest_is (Step.Covers p n m next) q;
        }

-- ---- what is found
module _ (end : Result (Stamp × ℕ) Refusal) (t : Option ℕ) where
  pub over_wrong : (w : Refusal) → (r : Result (Stamp × ℕ) Refusal) → r ≡ end → r ≡ Err w → Err w ≡ over_for t end
  over_wrong w r er q = ap (over_for t) (sym q ∙ er)

  module _ (e : Stamp × ℕ) (r : Result (Stamp × ℕ) Refusal) (er : r ≡ end) (q : r ≡ Ok e) where
    pub over_again : (again : ℕ) → t ≡ Some again → (w : Refusal) → w ≡ refusal_for PlaceTwice again → Err w ≡ over_for t end
    over_again again et w ew = rw (ew, et, ← er, q)

    pub over_many : t ≡ None → (ps : Places) → ps ≡ places_for [] → Ok (record { stamp = e.0; place = e.1; over = true; places = ps }) ≡ over_for t end
    over_many et ps ep = rw (ep, et, ← er, q)
