-- A line of a block, old or new, is inert: it is never blank, never `$$` and never an office line. Assumes nothing.
use Prim.Native.Nat.{ℕ, ◌≤◌}
use native.Mathlib.Omega.{arith}
use mathlib.Core.Path.{◌≡◌, refl, sym, ◌∙◌}
use mathlib.Core.Bool.{Bool, true, false, ◌&&◌, and-false}
use mathlib.Core.List.{List, [], ◌∷◌, ◌++◌}
use Rattle.std.specs.Prelude.{Option, None, Some}
use lib.ListN.{length}
use lib.Dec.{eqb}
use borrow.Author.Tests.{eqb-true, ne_eqb}
use Rattle.laws.proofs.Tests.{by, apart, and_left, and_right}
use Rattle.lines.specs.Bytes.{Kind, capital, digit, one_of, word, begins, exactly}
use Rattle.lines.specs.Lines.{body_of, blank, is_end, opens, prefix_form}
use Rattle.codes.specs.Elements.{wrong, single_form, range_form, purge_form, numbers, short, said}
use Rattle.codes.proofs.Bounds.{exact_front, within}
use Rattle.heading.specs.Storm.{is_office}
use Rattle.segments.specs.Search.{closes}

-- ---- how an element begins that is not wrong: with a digit, with ALL, or with a prefix
pub data Front (s : List ℕ) : Type 0 where
  number : begins (digit ∷ []) s ≡ true → Front s
  all : begins (word "ALL") s ≡ true → Front s
  full : begins prefix_form s ≡ true → Front s

numbers_front : (p : ℕ) (s : List ℕ) → (numbers p s ≡ wrong → ⊥) → Front s
unfolding numbers
numbers_front p s n =
    by (exactly single_form s) (λ a. number (exact_front (digit ∷ []) _ s a))
    λ a. by (exactly (word "ALL-") s) (λ b. all (exact_front (word "ALL") (word "-") s b))
    λ b. by (exactly range_form s) (λ c. number (exact_front (digit ∷ []) _ s c))
    λ c. absurd (n (rw (a, b, c)))

short_front : (last : Option ℕ) (s : List ℕ) → (short last s ≡ wrong → ⊥) → Front s
unfolding short
short_front None s n = absurd (n refl)
short_front (Some p) s n = numbers_front p s n

pub said_front : (last : Option ℕ) (s : List ℕ) → (said last s ≡ wrong → ⊥) → Front s
unfolding said
said_front last s n =
    by (exactly purge_form s) (λ a. number (exact_front (digit ∷ []) _ s a))
    λ a. by (begins prefix_form s) (λ b. full b)
    λ b. short_front last s (λ e. n (rw (a, b) e))

-- what stands behind does not matter
begins_more : (ks : List Kind) (s t : List ℕ) → begins ks s ≡ true → begins ks (s ++ t) ≡ true
unfolding begins
begins_more [] s t e = refl
begins_more (k ∷ ks) [] t e = apart cc
begins_more (k ∷ ks) (b ∷ s) t e = rw (and_left (k b) (begins ks s) e) (begins_more ks s t (and_right (k b) (begins ks s) e))

pub front_more : {s : List ℕ} → Front s → (t : List ℕ) → Front (s ++ t)
front_more {s} (number e) t = number (begins_more (digit ∷ []) s t e)
front_more {s} (all e) t = all (begins_more (word "ALL") s t e)
front_more {s} (full e) t = full (begins_more prefix_form s t e)

pub front_long : (s : List ℕ) → Front s → 1 ≤ length s
unfolding begins
front_long [] (number e) = apart cc
front_long [] (all e) = apart cc
front_long [] (full e) = apart cc
front_long (b ∷ s) f = omega arith

-- ---- a line that no search for a blank line, a `$$` or an office line stops at
pub record Inert (s : List ℕ) : Type 0 where
  pub not_blank : blank s ≡ false
  pub not_end : is_end s ≡ false
  pub not_office : is_office s ≡ false

-- the same of a line's bytes with its end
abbrev pub InertLine : List ℕ → Type 0
InertLine p = Inert (body_of p)

-- by its first byte: a blank line begins with a space, `$$` with `$`, an office line with N
by_first : (b : ℕ) (s : List ℕ) → (b ≡ 32 → ⊥) → (b ≡ 36 → ⊥) → (b ≡ 78 → ⊥) → Inert (b ∷ s)
unfolding blank is_end is_office begins exactly
by_first b s x y z = record { not_blank = rw (ne_eqb b 32 x); not_end = rw (ne_eqb b 36 y); not_office = rw (ne_eqb b 78 z) }

-- by its first byte and its third, for a line that may begin with N: NATIONAL has a T there, NWS an S
by_third : (b c d : ℕ) (s : List ℕ) → (b ≡ 32 → ⊥) → (b ≡ 36 → ⊥) → (d ≡ 84 → ⊥) → (d ≡ 83 → ⊥) → Inert (b ∷ c ∷ d ∷ s)
unfolding blank is_end is_office begins exactly
by_third b c d s x y z w =
    record {
      not_blank = rw (ne_eqb b 32 x);
      not_end = rw (ne_eqb b 36 y);
      not_office = simp (ne_eqb d 84 z, ne_eqb d 83 w, and-false);
    }

c_or_z : (d : ℕ) → one_of "CZ" d ≡ true → (k : ℕ) → (k ≡ 67 → ⊥) → (k ≡ 90 → ⊥) → d ≡ k → ⊥
c_or_z d e k x y q =
    by (eqb d 67) (λ a. x (sym q ∙ eqb-true d 67 a))
    λ a. by (eqb d 90) (λ b. y (sym q ∙ eqb-true d 90 b))
    λ b. let f : false ≡ true = rw (a, b) at e in apart cc

pub front_inert : (s : List ℕ) → Front s → Inert s
unfolding begins
front_inert [] (number e) = apart cc
front_inert [] (all e) = apart cc
front_inert [] (full e) = apart cc
front_inert (b ∷ s) (number e) =
    let w = within 48 57 b (and_left (digit b) true e) in
    by_first b s (λ q. omega (arith, w.above)) (λ q. omega (arith, w.above)) (λ q. omega (arith, w.under))
front_inert (b ∷ s) (all e) =
    let q : b ≡ 65 = eqb-true b 65 (and_left (eqb b 65) _ e) in
    by_first b s (λ z. omega arith) (λ z. omega arith) (λ z. omega arith)
front_inert (b ∷ []) (full e) = let f = and_right (capital b) false e in apart cc
front_inert (b ∷ (c ∷ [])) (full e) = let f = and_right (capital c) false (and_right (capital b) _ e) in apart cc
front_inert (b ∷ (c ∷ (d ∷ s))) (full e) =
    let w = within 65 90 b (and_left (capital b) _ e) in
    let f : one_of "CZ" d ≡ true = and_left (one_of "CZ" d) true (and_right (capital c) _ (and_right (capital b) _ e)) in
    by_third b c d s (λ q. omega (arith, w.above)) (λ q. omega (arith, w.above))
    (c_or_z d f 84 (λ q. omega arith) (λ q. omega arith)) (c_or_z d f 83 (λ q. omega arith) (λ q. omega arith))

-- and what opens a block is one
and_three : (a b c : Bool) → (a && b && c) ≡ true → a ≡ true
and_three a b c e = and_left a b (and_left (a && b) c e)

pub opens_inert : (s : List ℕ) → opens s ≡ true → Inert s
unfolding opens
opens_inert s e = front_inert s (full (and_three (begins prefix_form s) _ _ e))

-- it closes no MND block
pub inert_open : (s : List ℕ) → Inert s → closes s ≡ false
inert_open s i = rw (i.not_blank, i.not_end)
