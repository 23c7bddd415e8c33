-- What `insert` and `insert_run` hold, that they stay strictly ascending, and a whole run put in at once. Assumes nothing.
use Prim.Native.Nat.{ℕ, zero, suc, ◌+◌, ◌≤◌, ◌<◌, suc-le-suc}
use native.Mathlib.Omega.{arith}
use native.Mathlib.Nat.{add-zero}
use mathlib.Core.Path.{◌≡◌, refl, sym, ap, ◌∙◌}
use mathlib.Core.Bool.{cond}
use mathlib.Core.List.{List, [], ◌∷◌, ◌++◌, Memᴰ}
use mathlib.Core.Logic.{◌⊎◌, inl, inr, ⊎_elim}
use lib.ListN.{length, take, drop}
use lib.Dec.{ltb, eqb}
use borrow.Author.Tests.{ltb-true, ltb-false, eqb-true, eqb-false, lt-ltb, le-ltb, eq-eqb, ne_eqb}
use Rattle.laws.proofs.Tests.{by}
use Rattle.codes.specs.Places.{places_end, Ascending, nil, cons, upward}
use Rattle.codes.specs.Serving.{First}
use Rattle.codes.specs.Block.{insert, insert_run}

-- ---- one place
pub insert_before : (p q : ℕ) (qs : List ℕ) → p < q → insert p (q ∷ qs) ≡ p ∷ (q ∷ qs)
unfolding insert
insert_before p q qs h = rw (lt-ltb p q h, insert)

pub insert_there : (p q : ℕ) (qs : List ℕ) → p ≡ q → insert p (q ∷ qs) ≡ q ∷ qs
unfolding insert
insert_there p q qs h = rw (le-ltb p q (omega arith), eq-eqb p q h, insert)

pub insert_after : (p q : ℕ) (qs : List ℕ) → q < p → insert p (q ∷ qs) ≡ q ∷ insert p qs
unfolding insert
insert_after p q qs h = rw (le-ltb p q (omega arith), ne_eqb p q (omega arith), insert)

-- to show something of `insert p (q ∷ qs)`, show it of its three cases
pub insert_cases : (P : List ℕ → Type 0) (p q : ℕ) (qs : List ℕ)
    → (p < q → P (p ∷ (q ∷ qs))) → (p ≡ q → P (q ∷ qs)) → (q < p → P (q ∷ insert p qs)) → P (insert p (q ∷ qs))
insert_cases P p q qs f g h =
    by (ltb p q) (λ a. let k = ltb-true p q a in rw (insert_before p q qs k) (f k))
    λ a. by (eqb p q) (λ b. let k = eqb-true p q b in rw (insert_there p q qs k) (g k))
    λ b. let n : p ≡ q → ⊥ = eqb-false p q b in
    let k : q < p = omega (arith, ltb-false p q a) in
    rw (insert_after p q qs k) (h k)

pub insert_here : (p : ℕ) (l : List ℕ) → Memᴰ p (insert p l)
unfolding insert
insert_here p [] = Memᴰ.head refl
insert_here p (q ∷ qs) =
    insert_cases (Memᴰ p) p q qs (λ k. Memᴰ.head refl) (λ k. Memᴰ.head k) (λ k. Memᴰ.tail (insert_here p qs))

pub insert_keeps : (p x : ℕ) {l : List ℕ} → Memᴰ x l → Memᴰ x (insert p l)
insert_keeps p x (Memᴰ.head {x = q} {xs = qs} e) =
    insert_cases (Memᴰ x) p q qs (λ k. Memᴰ.tail (Memᴰ.head e)) (λ k. Memᴰ.head e) (λ k. Memᴰ.head e)
insert_keeps p x (Memᴰ.tail {x = q} {xs = qs} m) =
    insert_cases (Memᴰ x) p q qs (λ k. Memᴰ.tail (Memᴰ.tail m)) (λ k. Memᴰ.tail m) (λ k. Memᴰ.tail (insert_keeps p x m))

-- nothing else comes in
pub insert_from : (p x : ℕ) (l : List ℕ) → Memᴰ x (insert p l) → (x ≡ p) ⊎ Memᴰ x l
unfolding insert
insert_from p x [] (Memᴰ.head e) = inl e
insert_from p x [] (Memᴰ.tail m) = inr m
insert_from p x (q ∷ qs) w =
    insert_cases (λ (l : List ℕ). Memᴰ x l → (x ≡ p) ⊎ Memᴰ x (q ∷ qs)) p q qs
    (λ k m. first m)
    (λ k m. inr m)
    (λ k m. rest (insert_from p x qs) m)
    w
  where
    first : Memᴰ x (p ∷ (q ∷ qs)) → (x ≡ p) ⊎ Memᴰ x (q ∷ qs)
    first (Memᴰ.head e) = inl e
    first (Memᴰ.tail m) = inr m

    rest : (Memᴰ x (insert p qs) → (x ≡ p) ⊎ Memᴰ x qs) → Memᴰ x (q ∷ insert p qs) → (x ≡ p) ⊎ Memᴰ x (q ∷ qs)
    rest f (Memᴰ.head e) = inr (Memᴰ.head e)
    rest f (Memᴰ.tail m) = ⊎_elim (λ e. inl e) (λ m'. inr (Memᴰ.tail m')) (f m)

pub insert_ascending : {b : ℕ} (p : ℕ) {l : List ℕ} → b ≤ p → p < places_end → Ascending b l → Ascending b (insert p l)
unfolding insert
insert_ascending p h k nil = cons h k nil
insert_ascending {b} p h k (cons {p = q} {ps = qs} g f a) =
    insert_cases (Ascending b) p q qs (λ s. cons h k (cons s f a)) (λ s. cons g f a) (λ s. cons g f (insert_ascending p s k a))

pub insert_length : (p : ℕ) (l : List ℕ) → length l ≤ length (insert p l)
unfolding insert
insert_length p [] = omega arith
insert_length p (q ∷ qs) =
    insert_cases (λ (l : List ℕ). length (q ∷ qs) ≤ length l) p q qs (λ k. omega arith) (λ k. omega arith) (λ k. suc-le-suc (insert_length p qs))

-- ---- a run of places
pub run_keeps : (n p x : ℕ) {l : List ℕ} → Memᴰ x l → Memᴰ x (insert_run n p l)
unfolding insert_run
run_keeps zero p x m = m
run_keeps (suc n) p x m = run_keeps n (suc p) x (insert_keeps p x m)

pub run_here : (n p x : ℕ) (l : List ℕ) → p ≤ x → x < p + n → Memᴰ x (insert_run n p l)
unfolding insert_run
run_here zero p x l h k = absurd (omega arith)
run_here (suc n) p x l h k =
    by (eqb p x) (λ e. let s = eqb-true p x e in run_keeps n (suc p) x (rw (← s) (insert_here p l)))
    λ e. let s : p ≡ x → ⊥ = eqb-false p x e in
    run_here n (suc p) x (insert p l) (omega arith) (omega arith)

pub run_from_lem : (n p x : ℕ) (l : List ℕ) → Memᴰ x (insert_run n p l) → ((p ≤ x) × (x < p + n)) ⊎ Memᴰ x l
unfolding insert_run
run_from_lem zero p x l m = inr m
run_from_lem (suc n) p x l m =
    ⊎_elim (λ (h : (suc p ≤ x) × (x < suc p + n)). inl (omega (arith, h.0), omega (arith, h.1)))
    (λ (k : Memᴰ x (insert p l)). ⊎_elim (λ (e : x ≡ p). inl (omega arith, omega arith)) (λ (m' : Memᴰ x l). inr m') (insert_from p x l k))
    (run_from_lem n (suc p) x (insert p l) m)

pub run_ascending : (n : ℕ) {b : ℕ} (p : ℕ) {l : List ℕ} → b ≤ p → p + n ≤ places_end → Ascending b l → Ascending b (insert_run n p l)
unfolding insert_run
run_ascending zero p h k a = a
run_ascending (suc n) p h k a = run_ascending n (suc p) (omega arith) (omega arith) (insert_ascending p h (omega arith) a)

-- no place is lost
pub run_length : (n p : ℕ) (l : List ℕ) → length l ≤ length (insert_run n p l)
unfolding insert_run
run_length zero p l = omega arith
run_length (suc n) p l = omega (arith, insert_length p l, run_length n (suc p) (insert p l))

-- ---- a run at once: what is below it, the run, and what is not below its end
-- the front of a list, as long as its places are less than p
unfoldable pub below : ℕ → List ℕ → List ℕ
below p [] = []
below p (x ∷ xs) = cond (ltb x p) (x ∷ below p xs) []

-- the rest of it, from its first place that is not less than p
unfoldable pub from : ℕ → List ℕ → List ℕ
from p [] = []
from p (x ∷ xs) = cond (ltb x p) (from p xs) (x ∷ xs)

pub run_after : (n : ℕ) {p x : ℕ} (xs : List ℕ) → x < p → insert_run n p (x ∷ xs) ≡ x ∷ insert_run n p xs
unfolding insert_run
run_after zero xs h = refl
run_after (suc n) {p} {x} xs h = ap (insert_run n (suc p)) (insert_after p x xs h) ∙ run_after n (insert p xs) (omega arith)

from_less : {p x : ℕ} (xs : List ℕ) → x < p → from p (x ∷ xs) ≡ from p xs
unfolding from
from_less {p} {x} xs h = rw (lt-ltb x p h)

from_all : {p : ℕ} {l : List ℕ} → Ascending p l → from p l ≡ l
unfolding from
from_all nil = refl
from_all {p} (cons {p = x} g f a) = rw (le-ltb x p g)

-- a run from the start of a list, or from before it
run_front : (n p : ℕ) (l : List ℕ) {m : List ℕ} → insert p l ≡ p ∷ m → from (p + suc n) m ≡ from (p + suc n) l → insert_run n (suc p) m ≡ upward (suc p) n ++ from (suc p + n) m
    → insert_run (suc n) p l ≡ upward p (suc n) ++ from (p + suc n) l
unfolding insert_run upward
run_front n p l {m} e f r =
    let s : suc p + n ≡ p + suc n = omega arith in
    ap (insert_run n (suc p)) e ∙ run_after n m (omega arith) ∙ ap (λ (t : List ℕ). p ∷ t) (r ∙ rw (s, f))

run_low : (n p : ℕ) {l : List ℕ} → Ascending p l → insert_run n p l ≡ upward p n ++ from (p + n) l
unfolding insert_run upward insert
run_low zero p a = rw add-zero (sym (from_all a))
run_low (suc n) p nil = run_front n p [] refl refl (run_low n (suc p) nil)
run_low (suc n) p (cons {p = x} {ps = xs} g f a) =
    by (ltb p x) (λ k. let h = ltb-true p x k in run_front n p (x ∷ xs) (insert_before p x xs h) refl (run_low n (suc p) (cons h f a)))
    λ k. let e : p ≡ x = omega (arith, ltb-false p x k) in
    let h : x < p + suc n = omega arith in
    let b : Ascending (suc p) xs = rw e a in
    run_front n p (x ∷ xs) (insert_there p x xs e ∙ rw e) (sym (from_less xs h)) (run_low n (suc p) b)

-- a run put into an ascending list
pub run_split : (n p : ℕ) {b : ℕ} {l : List ℕ} → Ascending b l → insert_run n p l ≡ below p l ++ (upward p n ++ from (p + n) l)
unfolding below
run_split n p nil = run_low n p nil
run_split n p (cons {p = x} {ps = xs} g f a) =
    by (ltb x p) (λ k. let h = ltb-true x p k in let m : x < p + n = omega arith in run_after n xs h ∙ rw (k, from_less xs m) (ap (λ (t : List ℕ). x ∷ t) (run_split n p a)))
    λ k. rw k (run_low n p (cons (ltb-false x p k) f a))

pub first_none : {p i : ℕ} {x : ℕ} {xs : List ℕ} → First p (x ∷ xs) (suc i) → First p xs i
first_none f = record { within = omega (arith, f.within); low = λ j h. f.low (suc j) (omega arith); high = λ h. f.high (omega arith) }

pub below_take : (p : ℕ) (l : List ℕ) (i : ℕ) → First p l i → below p l ≡ take i l
unfolding below
below_take p [] zero f = refl
below_take p [] (suc i) f = refl
below_take p (x ∷ xs) zero f = rw (le-ltb x p (f.high (omega arith)))
below_take p (x ∷ xs) (suc i) f = rw (lt-ltb x p (f.low 0 (omega arith))) (ap (λ (l : List ℕ). x ∷ l) (below_take p xs i (first_none f)))

pub from_drop : (p : ℕ) (l : List ℕ) (i : ℕ) → First p l i → from p l ≡ drop i l
unfolding from
from_drop p [] zero f = refl
from_drop p [] (suc i) f = refl
from_drop p (x ∷ xs) zero f = rw (le-ltb x p (f.high (omega arith)))
from_drop p (x ∷ xs) (suc i) f = rw (lt-ltb x p (f.low 0 (omega arith))) (from_drop p xs i (first_none f))
