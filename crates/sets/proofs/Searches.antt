-- Places that ascend: the first that is not less than p, and whether all are less. Assumes nothing.
use Prim.Native.Nat.{ℕ, zero, suc, ◌+◌, ◌-◌, ◌*◌, ◌/◌, ◌≤◌, ◌<◌}
use native.Mathlib.Omega.{arith}
use mathlib.Core.Path.{◌≡◌, refl, sym, ap, ◌∙◌}
use mathlib.Core.List.{List, [], ◌∷◌, Memᴰ}
use mathlib.Core.Bool.{true, false, cond, ◌&&◌, or-true, and-false}
use lib.ListN.{length, get_or, take, drop, replicate}
use lib.Seq.{get_or-take, take-add, length-take-le}
use lib.Dec.{eqb, ltb, leb}
use borrow.Author.Tests.{ltb-true, lt-ltb, le-ltb, le-leb, lt-leb, leb-true}
use Rattle.laws.proofs.Tables.{every_at}
use Rattle.laws.specs.Lists.{every}
use Rattle.laws.proofs.Tests.{impossible, apart, by, by_order, same_test, and_left, and_right}
use Rattle.codes.specs.Places.{Ascending, nil, cons}
use Rattle.codes.specs.Serving.{First}
use Rattle.codes.specs.Block.{Stretch}
use Rattle.codes.proofs.Members.{first_none}
use Rattle.codes.proofs.Twice.{Both}
use Rattle.sets.specs.Held.{vacant, places_in, Good}
use Rattle.sets.specs.Runs.{all_below, holds_in}
use Rattle.sets.specs.declared.Places.{Places}
use Rattle.std.specs.List.{count_by}
use Rattle.std.proofs.lemmas.List.Sums.{sum_by-cons, sum_by-append}
use Rattle.std.proofs.lemmas.List.Folds.{sum_by-replicate}
use Rattle.laws.proofs.Lists.{drop_alike, take_alike}

-- ---- places that ascend
from_bound : {b : ℕ} {l : List ℕ} → Ascending b l → (j : ℕ) → j < length l → b ≤ get_or l j 0
from_bound nil j h = impossible (omega arith)
from_bound (cons g f a) zero h = g
from_bound (cons {p = x} {ps = xs} g f a) (suc j) h = omega (arith, from_bound a j (omega arith))

in_order_lem : {b : ℕ} {l : List ℕ} → Ascending b l → (i j : ℕ) → i ≤ j → j < length l → get_or l i 0 ≤ get_or l j 0
in_order_lem nil i j k h = impossible (omega arith)
in_order_lem (cons g f a) zero zero k h = omega arith
in_order_lem (cons {p = x} {ps = xs} g f a) zero (suc j) k h = omega (arith, from_bound a j (omega arith))
in_order_lem (cons g f a) (suc i) zero k h = impossible (omega arith)
in_order_lem (cons g f a) (suc i) (suc j) k h = in_order_lem a i j (omega arith) (omega arith)

-- ---- the search
-- up to one that is less than p all are
lower : (held : List ℕ) (n p : ℕ) → Ascending 0 (take n held) → (k : ℕ) → k < n → n ≤ length held → get_or held k 0 < p → (j : ℕ) → j ≤ k → get_or (take n held) j 0 < p
lower held n p rising k h fits l j g = omega (arith, in_order_lem rising j k g (omega (arith, length-take-le n held fits)), get_or-take n held k 0 h)

-- so many are less than p: where they ascend, these come first
none_less : (p x : ℕ) (xs : List ℕ) → p ≤ x → First p (x ∷ xs) 0
none_less p x xs h = record { within = omega arith; low = λ j k. impossible (omega arith); high = λ k. h }

one_less : (p x i : ℕ) (xs : List ℕ) → x < p → First p xs i → First p (x ∷ xs) (suc i)
one_less p x i xs h f = record { within = omega (arith, f.within); low = below; high = λ k. f.high (omega arith) }
  where
    below : (j : ℕ) → j < suc i → get_or (x ∷ xs) j 0 < p
    below zero k = h
    below (suc j) k = f.low j (omega arith)

abbrev less_than : ℕ → List ℕ → ℕ
less_than p l = count_by (λ x. ltb x p) l

counts_one : (p x : ℕ) (xs : List ℕ) → x < p → less_than p (x ∷ xs) ≡ suc (less_than p xs)
counts_one p x xs h = sum_by-cons (λ y. cond (ltb y p) 1 0) x xs ∙ rw (lt-ltb x p h) (omega arith)

counts_none : (p x : ℕ) (xs : List ℕ) → p ≤ x → less_than p (x ∷ xs) ≡ less_than p xs
counts_none p x xs h = sum_by-cons (λ y. cond (ltb y p) 1 0) x xs ∙ rw (le-ltb x p h) (omega arith)

first_counted : (p : ℕ) {b : ℕ} {l : List ℕ} → Ascending b l → First p l (less_than p l)
first_counted p nil = record { within = omega arith; low = λ j h. impossible (omega arith); high = λ h. impossible (omega arith) }
first_counted p (cons {p = x} {ps = xs} g f a) =
    let w = first_counted p a in
    by_order x p
    (λ h. rw (counts_one p x xs h) (one_less p x (less_than p xs) xs h w))
    λ h. let none : less_than p xs ≡ 0 =
    by_order 0 (less_than p xs) (λ k. impossible (omega (arith, w.low 0 k, from_bound a 0 (omega (arith, w.within))))) (λ k. omega arith) in
    rw (counts_none p x xs h, none) (none_less p x xs h)

-- so many in whole eights
abbrev eights : ℕ → ℕ
eights n = (n + 7) / 8 * 8

-- of the zeros behind the places all are less than p
pub vacant_part : (e k : ℕ) → k + e ≤ 120 → take e (drop k vacant) ≡ replicate e 0
unfolding vacant
vacant_part e k h = ap (take e) (drop_alike 0 k 120 (omega arith)) ∙ take_alike 0 e (120 - k) (omega arith)

zeros_less : (p k : ℕ) → (p ≡ 0 → ⊥) → less_than p (replicate k 0) ≡ k
zeros_less p k h = sum_by-replicate (λ y. cond (ltb y p) 1 0) k 0 ∙ rw (lt-ltb 0 p (omega arith)) (omega arith)

module _ (t : Places) (p : ℕ) (g : Good t) (some : p ≡ 0 → ⊥) where
  module _ (r : ℕ) (er : r ≡ less_than p (take (eights t.count) t.held)) where
    abbrev behind : ℕ
    behind = eights t.count - t.count

    all_less : r ≡ less_than p (places_in t) + behind
    all_less =
        let f : ℕ → ℕ = λ y. cond (ltb y p) 1 0 in
        let e : t.count + behind ≡ eights t.count = omega arith in
        er
        ∙ ap (λ (k : ℕ). less_than p (take k t.held)) (sym e)
        ∙ ap (less_than p) (take-add t.count behind t.held)
        ∙ sum_by-append f (places_in t) (take behind (drop t.count t.held))
        ∙ ap (λ (l : List ℕ). less_than p (places_in t) + less_than p l) (ap (take behind) g.rest ∙ vacant_part behind t.count (omega (arith, g.few)))
        ∙ ap (λ (k : ℕ). less_than p (places_in t) + k) (zeros_less p behind some)

    is_real : r - behind ≡ less_than p (places_in t)
    is_real = omega (arith, all_less)

    pub counted_room : eights t.count - t.count ≤ r
    counted_room = omega (arith, all_less)

    pub counted_done : First p (places_in t) (r - (eights t.count - t.count))
    counted_done = rw is_real (first_counted p g.rising)

-- ---- a run among places that ascend
above_out : (low high : ℕ) {b : ℕ} {l : List ℕ} → Ascending b l → high < b → holds_in low high l ≡ false
unfolding holds_in
above_out low high nil h = refl
above_out low high (cons {p = x} {ps = xs} g f a) h = rw (lt-leb x high (omega arith), and-false (leb low x)) (above_out low high a (omega arith))

-- where what is not less than p is not less than q either, none of them lies between
pub between_out : (p q : ℕ) {b : ℕ} {l : List ℕ} (i : ℕ) → Ascending b l → p < q → First p l i → First q l i → holds_in p (q - 1) l ≡ false
unfolding holds_in
between_out p q i nil h fp fq = refl
between_out p q zero (cons {p = x} g f a) h fp fq =
    let k : q ≤ x = fq.high (omega arith) in
    rw (lt-leb x (q - 1) (omega arith), and-false (leb p x)) (above_out p (q - 1) a (omega arith))
between_out p q (suc i) (cons {p = x} g f a) h fp fq =
    let k : x < p = fp.low 0 (omega arith) in
    rw (lt-leb p x k) (between_out p q i a h (first_none fp) (first_none fq))

-- one that lies there is found
pub holds_in_lem : (low high x : ℕ) {l : List ℕ} → Memᴰ x l → low ≤ x → x ≤ high → holds_in low high l ≡ true
unfolding holds_in
holds_in_lem low high x (Memᴰ.head {x = q} {xs = qs} e) h k = rw (le-leb low q (omega arith), le-leb q high (omega arith))
holds_in_lem low high x (Memᴰ.tail {x = q} {xs = qs} m) h k = rw (holds_in_lem low high x m h k) (or-true (leb low q && leb q high))

-- and one that is found lies there
pub holds_out : (a : Stretch) (l : List ℕ) → holds_in a.from a.to l ≡ true → Both a l
unfolding holds_in
holds_out a [] e = apart cc
holds_out a (q ∷ qs) e =
    by (leb a.from q && leb q a.to)
    (λ t. record {
      place = q;
      from = leb-true a.from q (and_left (leb a.from q) (leb q a.to) t);
      to = leb-true q a.to (and_right (leb a.from q) (leb q a.to) t);
      among = Memᴰ.head refl;
    })
    λ t. let h = holds_out a qs (rw t at e) in
    record { place = h.place; from = h.from; to = h.to; among = Memᴰ.tail h.among }

among : (l : List ℕ) (i : ℕ) → i < length l → Memᴰ (get_or l i 0) l
among [] i h = impossible (omega arith)
among (x ∷ xs) zero h = Memᴰ.head refl
among (x ∷ xs) (suc i) h = Memᴰ.tail (among xs i (omega arith))

-- the first that is not less than p tells
module _ (held : List ℕ) (n p q i : ℕ) (f : First p (take n held) i) (fits : n ≤ length held) where
  pub less_first : p < q → (i < n → q ≤ get_or held i 0) → First q (take n held) i
  less_first h k =
      let l : length (take n held) ≡ n = length-take-le n held fits in
      record {
        within = f.within;
        low = λ j g. omega (arith, f.low j g);
        high = λ g. rw (get_or-take n held i 0 (omega arith)) (k (omega arith));
      }

  pub less_held : i < n → get_or held i 0 < q → holds_in p (q - 1) (take n held) ≡ true
  less_held k m =
      let l : length (take n held) ≡ n = length-take-le n held fits in
      let g : get_or (take n held) i 0 ≡ get_or held i 0 = get_or-take n held i 0 k in
      holds_in_lem p (q - 1) (get_or (take n held) i 0) (among (take n held) i (omega arith)) (f.high (omega arith)) (omega arith)

-- ---- all below
pub below_each : (p : ℕ) (l : List ℕ) → all_below p l ≡ true → (j : ℕ) → j < length l → get_or l j 0 < p
below_each p l e j h = ltb-true (get_or l j 0) p (every_at (λ (x : ℕ). ltb x p) l 0 j e h)

-- none of them lies from p up
pub below_out : (p high : ℕ) (l : List ℕ) → all_below p l ≡ true → holds_in p high l ≡ false
unfolding every holds_in
below_out p high [] e = refl
below_out p high (x ∷ xs) e =
    let k : x < p = ltb-true x p (and_left (ltb x p) (all_below p xs) e) in
    rw (lt-leb p x k) (below_out p high xs (and_right (ltb x p) (all_below p xs) e))

each_below : (p : ℕ) (l : List ℕ) → ((j : ℕ) → j < length l → get_or l j 0 < p) → all_below p l ≡ true
unfolding every
each_below p [] h = refl
each_below p (x ∷ xs) h = rw (lt-ltb x p (h 0 (omega arith)), each_below p xs (λ j k. h (suc j) (omega arith)))

pub none_below : (held : List ℕ) (n p : ℕ) → n ≡ 0 → eqb n 0 ≡ all_below p (take n held)
unfolding every
none_below held n p h = rw h

pub last_below : (held : List ℕ) (n p : ℕ) → n ≤ length held → Ascending 0 (take n held) → (n ≡ 0 → ⊥) → ltb (get_or held (n - 1) 0) p ≡ all_below p (take n held)
last_below held n p fits rising h =
    let l : length (take n held) ≡ n = length-take-le n held fits in
    let k : n - 1 < n = omega arith in
    same_test (ltb (get_or held (n - 1) 0) p) (all_below p (take n held))
    (λ e. each_below p (take n held) (λ j g. lower held n p rising (n - 1) k fits (ltb-true (get_or held (n - 1) 0) p e) j (omega arith)))
    (λ e. lt-ltb (get_or held (n - 1) 0) p (omega (arith, below_each p (take n held) e (n - 1) (omega arith), get_or-take n held (n - 1) 0 k)))
