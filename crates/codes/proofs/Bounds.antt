-- What an element that covers places must look like: its prefix is below 1352, and its numbers are at most 999. Assumes nothing.
use Prim.Native.Nat.{ℕ, ◌≤◌, ◌<◌}
use native.Mathlib.Omega.{arith}
use mathlib.Core.Path.{◌≡◌, refl, sym, ◌∙◌}
use mathlib.Core.Bool.{Bool, true, false, cond, ◌&&◌}
use mathlib.Core.List.{List, [], ◌∷◌, ◌++◌}
use Rattle.std.specs.Prelude.{Option, None, Some}
use lib.ListN.{length, drop, get_or}
use lib.Dec.{leb, eqb}
use borrow.Author.Tests.{ltb-true, leb-true}
use Rattle.laws.proofs.Tests.{by, apart, and_left, and_right}
use Rattle.lines.specs.Bytes.{Kind, between, capital, digit, one_of, word, begins, exactly}
use Rattle.lines.specs.Lines.{prefix_form, three_digits}
use Rattle.lines.proofs.Strings.{begins_is}
use Rattle.calendar.specs.Calendar.{is_time}
use Rattle.codes.specs.Places.{prefix_of, three_of, prefixes}
use Rattle.codes.specs.Serving.{Low}
use Rattle.codes.specs.Elements.{covers, purge, wrong, single_form, range_form, purge_form, is_range, numbers, stamp_of, time, short, said}

-- ---- the front of a form, and what comes after it
pub exact_front : (js ks : List Kind) (s : List ℕ) → exactly (js ++ ks) s ≡ true → begins js s ≡ true
unfolding exactly begins
exact_front [] ks s e = refl
exact_front (j ∷ js) ks [] e = apart cc
exact_front (j ∷ js) ks (b ∷ s) e = rw (and_left (j b) (exactly (js ++ ks) s) e) (exact_front js ks s (and_right (j b) (exactly (js ++ ks) s) e))

pub exact_drop : (js ks : List Kind) (s : List ℕ) → exactly (js ++ ks) s ≡ true → exactly ks (drop (length js) s) ≡ true
unfolding exactly
exact_drop [] ks s e = e
exact_drop (j ∷ js) ks [] e = apart cc
exact_drop (j ∷ js) ks (b ∷ s) e = exact_drop js ks s (and_right (j b) (exactly (js ++ ks) s) e)

-- ---- three digits spell at most 999, three letters a prefix
pub record Within (low high b : ℕ) : Type 0 where
  pub above : low ≤ b
  pub under : b ≤ high

pub within : (low high b : ℕ) → between low high b ≡ true → Within low high b
within low high b e = record { above = leb-true low b (and_left (leb low b) (leb b high) e); under = leb-true b high (and_right (leb low b) (leb b high) e) }

pub tests : (x y z : Bool) → (x && (y && (z && true))) ≡ true → (x ≡ true) × (y ≡ true) × (z ≡ true)
tests x y z e =
    let f = and_right x (y && (z && true)) e in
    (and_left x (y && (z && true)) e, and_left y (z && true) f, and_left z true (and_right y (z && true) f))

pub three_low : (s : List ℕ) → begins three_digits s ≡ true → three_of s ≤ 999
three_low s e =
    let a : ℕ = get_or s 0 0 in
    let b : ℕ = get_or s 1 0 in
    let c : ℕ = get_or s 2 0 in
    let t = tests (digit a) (digit b) (digit c) (sym (begins_is three_digits s 0 (refl, (refl, (refl, tt)))) ∙ e) in
    omega (arith, (within 48 57 a t.0).under, (within 48 57 b t.1).under, (within 48 57 c t.2).under)

one_low : (t : Bool) → cond t 1 0 ≤ 1
one_low true = omega arith
one_low false = omega arith

prefix_low : (s : List ℕ) → begins prefix_form s ≡ true → prefix_of s < prefixes
prefix_low s e =
    let a : ℕ = get_or s 0 0 in
    let b : ℕ = get_or s 1 0 in
    let c : ℕ = get_or s 2 0 in
    let t = tests (capital a) (capital b) (one_of "CZ" c) (sym (begins_is prefix_form s 0 (refl, (refl, (refl, tt)))) ∙ e) in
    omega (arith, (within 65 90 a t.0).under, (within 65 90 b t.1).under, one_low (eqb c 90))

-- ---- an element that covers places
numbers_low : (p : ℕ) (s : List ℕ) (q n m : ℕ) → p < prefixes → numbers p s ≡ covers q n m → Low q n m
unfolding numbers
numbers_low p s q n m h e =
    by (exactly single_form s)
    (λ a. let f : covers p (three_of s) (three_of s) ≡ covers q n m = rw a at e in
    let ep : p ≡ q = cc in
    let en : three_of s ≡ n = cc in
    let em : three_of s ≡ m = cc in
    record { known = omega arith; number = omega (arith, three_low s (exact_front three_digits (word "-") s a)); order = omega arith })
    λ a. by (exactly (word "ALL-") s)
    (λ b. let f : covers p 0 0 ≡ covers q n m = rw (a, b) at e in
    let ep : p ≡ q = cc in
    let en : 0 ≡ n = cc in
    let em : 0 ≡ m = cc in
    record { known = omega arith; number = omega arith; order = omega arith })
    λ b. by (exactly range_form s && is_range (three_of s) (three_of (drop 4 s)))
    (λ c. let f : covers p (three_of s) (three_of (drop 4 s)) ≡ covers q n m = rw (a, b, c) at e in
    let ep : p ≡ q = cc in
    let en : three_of s ≡ n = cc in
    let em : three_of (drop 4 s) ≡ m = cc in
    let r : exactly range_form s ≡ true = and_left _ _ c in
    let l : three_of s < three_of (drop 4 s) = ltb-true _ _ (and_right (leb 1 (three_of s)) _ (and_right (exactly range_form s) _ c)) in
    let u : begins three_digits (drop 4 s) ≡ true = exact_front three_digits (word "-") (drop 4 s) (exact_drop (three_digits ++ word ">") (three_digits ++ word "-") s r) in
    record { known = omega arith; number = omega (arith, three_low (drop 4 s) u); order = omega arith })
    λ c. let f : wrong ≡ covers q n m = rw (a, b, c) at e in apart cc

-- the last prefix, if there is one, is a prefix
abbrev pub Below : Option ℕ → Type 0
Below None = Unit {0}
Below (Some p) = p < prefixes

short_low : (last : Option ℕ) (s : List ℕ) (p n m : ℕ) → Below last → short last s ≡ covers p n m → Low p n m
unfolding short
short_low None s p n m h e = apart cc
short_low (Some q) s p n m h e = numbers_low q s p n m h e

pub covers_low : (last : Option ℕ) (s : List ℕ) (p n m : ℕ) → Below last → said last s ≡ covers p n m → Low p n m
unfolding said time
covers_low last s p n m h e =
    by (exactly purge_form s)
    (λ a. by (is_time (stamp_of s))
    (λ b. let f : purge (stamp_of s) ≡ covers p n m = rw (a, b) at e in apart cc)
    λ b. let f : wrong ≡ covers p n m = rw (a, b) at e in apart cc)
    λ a. by (begins prefix_form s)
    (λ b. numbers_low (prefix_of s) (drop 3 s) p n m (prefix_low s b) (rw (a, b) at e))
    λ b. short_low last s p n m h (rw (a, b) at e)
