-- Lists: elements that are all of one kind, and parts. Assumes nothing.
use Prim.Native.Nat.{ℕ, zero, suc, ◌+◌, ◌-◌, ◌≤◌, ◌<◌}
use native.Mathlib.Omega.{arith}
use mathlib.Core.Path.{◌≡◌, subst, sym, ap, ◌∙◌}
use Rattle.std.specs.Prelude.{Some}
use lib.ListN.{length, take, drop, get_or, set, replicate, length-replicate, replicate-append-replicate}
use Rattle.std.specs.Prelude.{slice_get}
use lib.Seq.{take-add, take_at, drop_at, length-take-le}
use mathlib.Core.List.{List, [], ◌∷◌, ◌++◌, map, Memᴰ}
use Rattle.laws.specs.Lists.{All, all_nil, all_cons}
use Rattle.laws.proofs.Tests.{apart}
use Rattle.laws.proofs.Lookups.{some_same}

pub all_append : {A : Type 0} {P : A → Type 0} {l m : List A} → All P l → All P m → All P (l ++ m)
all_append all_nil b = b
all_append (all_cons p a) b = all_cons p (all_append a b)

-- of what stands before and of what stands behind
pub all_left : {A : Type 0} {P : A → Type 0} (l m : List A) → All P (l ++ m) → All P l
all_left [] m a = all_nil
all_left (x ∷ l) m (all_cons p a) = all_cons p (all_left l m a)

pub all_right : {A : Type 0} {P : A → Type 0} (l m : List A) → All P (l ++ m) → All P m
all_right [] m a = a
all_right (x ∷ l) m (all_cons p a) = all_right l m a

pub all_map : {A : Type 0} {P Q : A → Type 0} {l : List A} → ((x : A) → P x → Q x) → All P l → All Q l
all_map f all_nil = all_nil
all_map f (all_cons {x} p a) = all_cons (f x p) (all_map f a)

pub all_at : {A : Type 0} {P : A → Type 0} {x : A} {l : List A} → All P l → Memᴰ x l → P x
all_at {A = A} {P = P} all_nil m = elim m [ ]
all_at {P} (all_cons p a) (Memᴰ.head e) = subst P (sym e) p
all_at (all_cons p a) (Memᴰ.tail m) = all_at a m

-- of the first, of the others, of the one at i
pub all_head : {A : Type 0} {P : A → Type 0} {x : A} {xs : List A} → All P (x ∷ xs) → P x
all_head (all_cons p a) = p

pub all_tail : {A : Type 0} {P : A → Type 0} {x : A} {xs : List A} → All P (x ∷ xs) → All P xs
all_tail (all_cons p a) = a

pub all_get : {A : Type 0} {P : A → Type 0} {xs : List A} (z : A) (i : ℕ) → All P xs → i < length xs → P (get_or xs i z)
all_get z i all_nil h = absurd (omega arith)
all_get z zero (all_cons p a) h = p
all_get z (suc i) (all_cons p a) h = all_get z i a (omega arith)

pub all_found : {A : Type 0} {P : A → Type 0} {xs : List A} (i : ℕ) {x : A} → All P xs → slice_get xs i ≡ Some x → P x
all_found i all_nil e = apart cc
all_found {P} zero (all_cons p a) e = subst P (some_same e) p
all_found (suc i) (all_cons p a) e = all_found i a e

-- after a store, of a part, after a map
pub all_set : {A : Type 0} {P : A → Type 0} {xs : List A} (k : ℕ) (x : A) → P x → All P xs → All P (set xs k x)
all_set k x p all_nil = all_nil
all_set zero x p (all_cons q a) = all_cons p a
all_set (suc k) x p (all_cons q a) = all_cons q (all_set k x p a)

pub all_take : {A : Type 0} {P : A → Type 0} (n : ℕ) {xs : List A} → All P xs → All P (take n xs)
all_take zero a = all_nil
all_take (suc n) all_nil = all_nil
all_take (suc n) (all_cons p a) = all_cons p (all_take n a)

pub all_drop : {A : Type 0} {P : A → Type 0} (n : ℕ) {xs : List A} → All P xs → All P (drop n xs)
all_drop zero a = a
all_drop (suc n) all_nil = all_nil
all_drop (suc n) (all_cons p a) = all_drop n a

pub all_each : {A B : Type 0} {P : A → Type 0} {Q : B → Type 0} (f : A → B) {xs : List A} → ((x : A) → P x → Q (f x)) → All P xs → All Q (map f xs)
all_each f g all_nil = all_nil
all_each f g (all_cons {x} p a) = all_cons (g x p) (all_each f g a)

-- a part, cut at its end first or at its start
pub drop_take : {A : Type 0} (j n : ℕ) (l : List A) → j ≤ n → j ≤ length l → drop j (take n l) ≡ take (n - j) (drop j l)
drop_take j n l h k =
    let e : n ≡ j + (n - j) = omega arith in
    ap (λ (m : ℕ). drop j (take m l)) e ∙ ap (drop j) (take-add j (n - j) l) ∙ drop_at (take j l) (take (n - j) (drop j l)) j (length-take-le j l k)

-- of so many alike, a part
pub drop_alike : {A : Type 0} (x : A) (k n : ℕ) → k ≤ n → drop k (replicate n x) ≡ replicate (n - k) x
drop_alike x k n h =
    let e : n ≡ k + (n - k) = omega arith in
    ap (λ (m : ℕ). drop k (replicate m x)) e
    ∙ ap (drop k) (sym (replicate-append-replicate k (n - k) x))
    ∙ drop_at (replicate k x) (replicate (n - k) x) k (length-replicate k x)

pub take_alike : {A : Type 0} (x : A) (k n : ℕ) → k ≤ n → take k (replicate n x) ≡ replicate k x
take_alike x k n h =
    let e : n ≡ k + (n - k) = omega arith in
    ap (λ (m : ℕ). take k (replicate m x)) e
    ∙ ap (take k) (sym (replicate-append-replicate k (n - k) x))
    ∙ take_at (replicate k x) (replicate (n - k) x) k (length-replicate k x)
