-- The written form, seen by a pen that goes from left to right: one open run, one column. Assumes nothing.
use Prim.Native.Nat.{ℕ, zero, suc, ◌+◌, ◌/◌, ◌%◌, ◌≤◌}
use native.Mathlib.Omega.{arith}
use native.Mathlib.Nat.{add-zero}
use mathlib.Core.Path.{◌≡◌, refl, ap, ◌∙◌}
use mathlib.Core.Bool.{true, false, not, ◌&&◌}
use Rattle.std.specs.Prelude.{Option, Some}
use mathlib.Core.List.{List, [], ◌∷◌, ◌++◌, append_assoc, append-nil}
use lib.ListN.{length}
use lib.Dec.{eqb}
use borrow.Author.Tests.{eqb-true, eqb-false, not-true}
use Rattle.laws.proofs.Tests.{by, and_left, and_right}
use Rattle.lines.specs.Lines.{end_bytes}
use Rattle.lines.specs.declared.End.{End}
use Rattle.codes.specs.Places.{upward}
use Rattle.codes.specs.Written.{Run, single, joins, join, runs_of, parted, spans_of, elements_of, fits, wrap_from, wrapped, in_order, rendered}
use Rattle.writing.specs.Ink.{Open, open_one, open_more, ink_from}

-- ---- an open run
-- the next place, if there is one, does not join it
pub data Closes (hi : ℕ) : List ℕ → Type 0 where
  at_end : Closes hi []
  at_gap : {q : ℕ} {qs : List ℕ} → joins hi q ≡ false → Closes hi (q ∷ qs)

-- what `joins` says of the second place
pub joins_next : (p q : ℕ) → joins p q ≡ true → suc p ≡ q
joins_next p q j = eqb-true (suc p) q (and_left _ (not (eqb (p % 1000) 0)) (and_left _ (not (eqb (q % 1000) 0)) j))

joins_high : (p q : ℕ) → joins p q ≡ true → q % 1000 ≡ 0 → ⊥
joins_high p q j = eqb-false (q % 1000) 0 (not-true _ (and_right (eqb (suc p) q && not (eqb (p % 1000) 0)) _ j))

-- a place that joins the run makes it longer
pub open_next : {lo n : ℕ} → Open lo n → joins (lo + n) (suc (lo + n)) ≡ true → Open lo (suc n)
open_next (open_one {lo}) j = open_more (rw add-zero at j) open_one
open_next (open_more {lo} {n} i o) j =
    let e : lo + suc n ≡ suc lo + n = omega arith in
    open_more i (open_next o (rw e at j))

pub upward_next : (lo n : ℕ) (qs : List ℕ) → upward lo n ++ ((lo + n) ∷ qs) ≡ upward lo (suc n) ++ qs
unfolding upward
upward_next lo zero qs = rw add-zero
upward_next lo (suc n) qs =
    let e : lo + suc n ≡ suc lo + n = omega arith in
    rw e (ap (λ (x : List ℕ). lo ∷ x) (upward_next (suc lo) n qs))

-- its numbers are those of one prefix
pub open_within : {lo n : ℕ} → Open lo n → lo % 1000 + n ≤ 999
open_within open_one = omega arith
open_within (open_more {lo} {n} j o) = omega (arith, joins_high lo (suc lo) j, open_within o)

-- the first run of q ∷ qs starts at q
join_first : (p q : ℕ) (rs : List Run) → joins p q ≡ false → join p (join q rs) ≡ single p ∷ join q rs
unfolding join
join_first p q [] h = rw (h, join)
join_first p q (r ∷ rs) h = by (joins q r.first) (λ e. rw (e, h, join)) (λ e. rw (e, h, join))

-- where the open run closes, it is a run, and the rest has its own runs
pub runs_close : {lo n : ℕ} → Open lo n → (qs : List ℕ) → Closes (lo + n) qs
    → runs_of (upward lo (suc n) ++ qs) ≡ record { first = lo; more = n } ∷ runs_of qs
unfolding runs_of upward
runs_close (open_one {lo}) qs c = go (rw add-zero at c)
  where
    go : {qs : List ℕ} → Closes lo qs → join lo (runs_of qs) ≡ single lo ∷ runs_of qs
    go at_end = unfold join in refl
    go (at_gap {q} {qs} h) = join_first lo q (runs_of qs) h
runs_close (open_more {lo} {n} j o) qs c =
    let e : lo + suc n ≡ suc lo + n = omega arith in
    ap (join lo) (runs_close o qs (rw e at c)) ∙ unfold join in rw j

-- ---- its elements, and those of the places after it
parted_elements : (last : Option ℕ) (p n : ℕ) (rs : List Run) → p % 1000 + n ≤ 999
    → elements_of last (parted p n ++ rs) ≡ elements_of last (parted p n) ++ elements_of (Some (p / 1000)) rs
unfolding elements_of
parted_elements last p zero rs h = refl
parted_elements last p (suc zero) rs h =
    let e : suc p / 1000 ≡ p / 1000 = omega arith in
    rw e
parted_elements last p (suc (suc n)) rs h = refl

pub elements_close : (last : Option ℕ) {lo n : ℕ} → Open lo n → (qs : List ℕ) → Closes (lo + n) qs
    → elements_of last (spans_of (runs_of (upward lo (suc n) ++ qs)))
    ≡ elements_of last (parted lo n) ++ elements_of (Some (lo / 1000)) (spans_of (runs_of qs))
unfolding spans_of
elements_close last {lo} {n} o qs c =
    ap (λ (rs : List Run). elements_of last (spans_of rs)) (runs_close o qs c) ∙ parted_elements last lo n (spans_of (runs_of qs)) (open_within o)

-- no more than it has places
pub parted_few : (last : Option ℕ) (p n : ℕ) → length (elements_of last (parted p n)) ≤ suc n
unfolding elements_of
parted_few last p zero = omega arith
parted_few last p (suc zero) = omega arith
parted_few last p (suc (suc n)) = omega arith

-- ---- a column, where lines end so
module _ (end : End) where
  pub ink_start : (es : List (List ℕ)) → rendered end (wrapped es) ≡ ink_from end 0 es
  unfolding ink_from
  ink_start es = refl

  pub ink_end : (n : ℕ) → ink_from end n [] ≡ end_bytes end
  unfolding ink_from wrap_from in_order rendered
  ink_end n = append-nil (end_bytes end)

  pub ink_on : (n : ℕ) (e : List ℕ) (es : List (List ℕ)) → fits n e ≡ true → ink_from end n (e ∷ es) ≡ e ++ ink_from end (n + length e) es
  unfolding ink_from wrap_from in_order rendered
  ink_on n e es h = rw h (append_assoc e _ _)

  pub ink_next : (n : ℕ) (e : List ℕ) (es : List (List ℕ)) → fits n e ≡ false
      → ink_from end n (e ∷ es) ≡ end_bytes end ++ (e ++ ink_from end (length e) es)
  unfolding ink_from wrap_from in_order rendered
  ink_next n e es h = rw h (ap (λ (x : List ℕ). end_bytes end ++ x) (append_assoc e _ _))
