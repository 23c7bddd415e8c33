-- Places covered twice: step by step, place by place, and as the set of places that has been gathered. Assumes nothing.
use Prim.Native.Nat.{ℕ, suc, ◌+◌, ◌-◌, ◌≤◌, ◌<◌}
use native.Mathlib.Omega.{arith}
use mathlib.Core.Path.{◌≡◌, refl, ◌∙◌}
use mathlib.Core.List.Memᴰ
use mathlib.Core.List.{List, [], ◌∷◌, Memᴰ}
use mathlib.Core.Bool.{Bool, true, false, cond, or-true}
use Rattle.std.specs.Prelude.{Option, None, Some}
use mathlib.Core.Logic.{⊎_elim}
use lib.ListN.{length, drop}
use lib.Dec.{leb}
use borrow.Author.Tests.{le-leb, leb-true}
use Rattle.laws.specs.Lists.{All, all_nil, all_cons}
use Rattle.laws.proofs.Tests.{by, by_order, apart, and_left, and_right}
use Rattle.lines.specs.Spans.{part}
use Rattle.calendar.specs.declared.Stamp.{Stamp}
use Rattle.codes.specs.Elements.{Element, elements_from, said}
use Rattle.codes.specs.Elements as elements
use Rattle.codes.specs.Block.{insert_run, Stretch, stretch_of, share, covered_before, twice_from}
use Rattle.codes.specs.Cursor.{purged, step_over, past_end, last_of_line, step_at}
use Rattle.codes.specs.declared.Cursor.{Cursor}
use Rattle.codes.specs.declared.Step.{Step}
use Rattle.codes.proofs.Members.{run_here, run_keeps, run_from_lem}
use Rattle.codes.proofs.Steps.{runs, elements_last, next_place_lem, past_within}

-- ---- by elements
module _ (last : Option ℕ) (before : List Stretch) (e : Element) (es : List Element) where
  pub twice_covers : (p n m : ℕ) → said last e.bytes ≡ elements.covers p n m
      → twice_from last before (e ∷ es) ≡ cond (covered_before (stretch_of p n m) before) (Some e.at) (twice_from (Some p) (stretch_of p n m ∷ before) es)
  unfolding twice_from
  twice_covers p n m s = rw (s, twice_from)

  pub twice_purge : (t : Stamp) → said last e.bytes ≡ elements.purge t → twice_from last before (e ∷ es) ≡ None
  unfolding twice_from
  twice_purge t s = rw (s, twice_from)

  pub twice_wrong : said last e.bytes ≡ elements.wrong → twice_from last before (e ∷ es) ≡ None
  unfolding twice_from
  twice_wrong s = rw (s, twice_from)

-- ---- by steps: the first repeating element from a step on, which stands at the place `at`
abbrev pub twice_then : List ℕ → ℕ → List Stretch → Step → Option ℕ
twice_then s at before (Step.Covers p n m next) =
    cond (covered_before (stretch_of p n m) before) (Some at) (twice_from (Some p) (stretch_of p n m ∷ before) (elements_from next.at (drop next.at s)))
twice_then s at before (Step.Purge t place) = None
twice_then s at before (Step.Wrong place) = None

then_over : (s : List ℕ) (before : List Stretch) (last : Option ℕ) (e : Element) (next : ℕ) (x : elements.Said) → said last e.bytes ≡ x
    → twice_from last before (e ∷ elements_from next (drop next s)) ≡ twice_then s e.at before (step_over e next x)
then_over s before last e next (elements.covers p n m) q = twice_covers last before e _ p n m q
then_over s before last e next (elements.purge t) q = twice_purge last before e _ t q ∙ ends e.last
  where
    ends : (b : Bool) → None ≡ twice_then s e.at before (purged b t e.at (e.at + length e.bytes))
    ends true = refl
    ends false = refl
then_over s before last e next elements.wrong q = twice_wrong last before e _ q

pub twice_step : (s : List ℕ) (before : List Stretch) (c : Cursor)
    → twice_from c.last before (elements_from c.at (drop c.at s)) ≡ twice_then s c.at before (step_at s c)
unfolding step_at twice_from
twice_step s before c =
    by_order c.at (length s)
    (λ h. let r = runs s c.at h in
    rw (r.1.step, next_place_lem s (past_end s r.0) (past_within s r.0 r.1.high))
    (then_over s before c.last (record { at = c.at; bytes = part s c.at r.0; last = last_of_line s r.0 }) (past_end s r.0) _ refl))
    λ h. rw (elements_last s c.at h)

-- ---- by places
-- a stretch of at least one place
pub record Stretched (a : Stretch) : Type 0 where
  pub order : a.from ≤ a.to

-- a place that a stretch and one of these cover
pub record Both (a : Stretch) (l : List ℕ) : Type 0 where
  pub place : ℕ
  pub from : a.from ≤ place
  pub to : place ≤ a.to
  pub among : Memᴰ place l

-- the places that these cover
unfoldable pub gathered : List Stretch → List ℕ
gathered [] = []
gathered (b ∷ bs) = insert_run (suc b.to - b.from) b.from (gathered bs)

-- covered before: one of the places gathered lies in the stretch
pub before_gathered : (a : Stretch) (bs : List Stretch) → Stretched a → All Stretched bs → covered_before a bs ≡ true → Both a (gathered bs)
unfolding covered_before gathered
before_gathered a [] h all_nil e = apart cc
before_gathered a (b ∷ bs) h (all_cons k ks) e =
    by (share a b)
    (λ t. let low = leb-true a.from b.to (and_left (leb a.from b.to) (leb b.from a.to) t) in
    let high = leb-true b.from a.to (and_right (leb a.from b.to) (leb b.from a.to) t) in
    by_order a.from b.from
    (λ o. record { place = b.from; from = omega arith; to = high; among = run_here (suc b.to - b.from) b.from b.from (gathered bs) (omega arith) (omega (arith, k.order)) })
    λ o. record { place = a.from; from = omega arith; to = h.order; among = run_here (suc b.to - b.from) b.from a.from (gathered bs) o (omega (arith, low)) })
    λ f. let x = before_gathered a bs h ks (rw f at e) in
    record { place = x.place; from = x.from; to = x.to; among = run_keeps (suc b.to - b.from) b.from x.place x.among }

pub gathered_before : (a : Stretch) (bs : List Stretch) → Both a (gathered bs) → covered_before a bs ≡ true
unfolding covered_before gathered
gathered_before a [] x = absurd (Memᴰ.not-nil x.among)
gathered_before a (b ∷ bs) x =
    ⊎_elim
    (λ (w : (b.from ≤ x.place) × (x.place < b.from + (suc b.to - b.from))).
    rw (le-leb a.from b.to (omega (arith, x.from, w.0, w.1)), le-leb b.from a.to (omega (arith, x.to, w.0))))
    (λ w. rw (gathered_before a bs (record { place = x.place; from = x.from; to = x.to; among = w })) (or-true (share a b)))
    (run_from_lem (suc b.to - b.from) b.from x.place (gathered bs) x.among)
