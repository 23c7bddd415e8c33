-- Strings of kinds, seen from a place. Past the end 0 is read, which no kind of a string may allow. Assumes nothing.
use Prim.Native.Nat.{ℕ, zero, suc, ◌+◌}
use native.Mathlib.Numerals.{add-one}
use native.Mathlib.Omega.{arith}
use mathlib.Core.Path.{◌≡◌, refl, sym, ap, ap₂, ◌∙◌}
use mathlib.Core.List.{List, [], ◌∷◌, ◌++◌}
use mathlib.Core.Bool.{Bool, true, false, ◌&&◌, and-false, and_assoc}
use lib.ListN.{length, get_or, drop}
use lib.Dec.{eqb}
use Rattle.std.specs.Prelude.{nat_eq}
use Rattle.std.specs.List.{starts_with}
use Rattle.std.proofs.lemmas.Bool.Decides.{nat_tests}
use borrow.Author.Tests.{eq-eqb, ne_eqb, eqb-true, eqb-false}
use Rattle.laws.proofs.Tests.{by}
use Rattle.lines.specs.Bytes.{Kind, literally, begins, exactly}

-- no kind of the string allows 0
abbrev pub none0 : List Kind → Type 0
none0 [] = Unit {0}
none0 (k ∷ ks) = (k 0 ≡ false) × none0 ks

-- the tests that the bytes of s pass, from the place i on
abbrev pub tests_at : List Kind → List ℕ → ℕ → Bool
tests_at [] s i = true
tests_at (k ∷ ks) s i = k (get_or s i 0) && tests_at ks s (i + 1)

begins_at : (k : Kind) (ks : List Kind) (i : ℕ) (s : List ℕ) → k 0 ≡ false
    → begins (k ∷ ks) (drop i s) ≡ (k (get_or s i 0) && begins ks (drop (suc i) s))
unfolding begins
begins_at k ks zero [] e = rw e
begins_at k ks zero (b ∷ s) e = refl
begins_at k ks (suc i) [] e = rw e
begins_at k ks (suc i) (b ∷ s) e = begins_at k ks i s e

pub begins_is : (ks : List Kind) (s : List ℕ) (i : ℕ) → none0 ks → begins ks (drop i s) ≡ tests_at ks s i
unfolding begins
begins_is [] s i h = refl
begins_is (k ∷ ks) s i h =
    begins_at k ks i s h.0 ∙ ap (λ (t : Bool). k (get_or s i 0) && t) (rw (← add-one i) (begins_is ks s (i + 1) h.1))

pub begins_append : (js ks : List Kind) (s : List ℕ) → begins (js ++ ks) s ≡ (begins js s && begins ks (drop (length js) s))
unfolding begins
begins_append [] ks s = refl
begins_append (j ∷ js) ks [] = refl
begins_append (j ∷ js) ks (b ∷ s) = ap (λ (t : Bool). j b && t) (begins_append js ks s) ∙ sym (and_assoc (j b) _ _)

eqb_suc : (m n : ℕ) → eqb (suc m) (suc n) ≡ eqb m n
eqb_suc m n = by (eqb m n) (λ p. rw p (eq-eqb (suc m) (suc n) (ap suc (eqb-true m n p)))) (λ p. rw p (ne_eqb (suc m) (suc n) (λ e. eqb-false m n p (omega arith))))

swap : (a b c : Bool) → (a && (b && c)) ≡ (b && (a && c))
swap true b c = refl
swap false b c = sym (and-false b)

-- nothing more: as many bytes as kinds
pub exactly_is : (ks : List Kind) (s : List ℕ) → exactly ks s ≡ (eqb (length s) (length ks) && begins ks s)
unfolding begins exactly
exactly_is [] [] = refl
exactly_is [] (b ∷ s) = rw (ne_eqb (suc (length s)) 0 (omega arith))
exactly_is (k ∷ ks) [] = rw (ne_eqb 0 (suc (length ks)) (omega arith))
exactly_is (k ∷ ks) (b ∷ s) = rw (exactly_is ks s, eqb_suc) (swap (k b) (eqb (length s) (length ks)) (begins ks s))

-- ---- fixed bytes: as std compares them
eqb_swap : (a b : ℕ) → eqb a b ≡ eqb b a
eqb_swap a b = grind (arith, nat_tests)

pub starts_is : (w s : List ℕ) → starts_with nat_eq s w ≡ begins (literally w) s
unfolding begins
starts_is [] s = refl
starts_is (c ∷ w) [] = refl
starts_is (c ∷ w) (b ∷ s) = ap₂ ◌&&◌ (eqb_swap c b) (starts_is w s)
