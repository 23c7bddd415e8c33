-- Items of w elements each, one after another: what stands in item k, and a store there. Assumes nothing.
use mathlib.Core.Path.{◌≡◌, sym, ap, ◌∙◌}
use mathlib.Core.List.{List, [], ◌∷◌, ◌++◌}
use Prim.Native.Nat.{ℕ, zero, suc, ◌+◌, ◌*◌, ◌<◌}
use native.Mathlib.Nat.{zero-mul, zero-add, suc-mul, suc-add, le_of_suc-le-suc}
use native.Mathlib.Omega.{arith}
use lib.ListN.{length, get_or, set, length-append, get_or-append}
use lib.Seq.{get_or-append-add, set-append_left}
use Rattle.laws.proofs.Tests.{impossible}
use Rattle.blocks.specs.Block.{flat}

-- a store in the second of two parts
pub set_append_right : {A : Type 0} (p q : List A) (i : ℕ) (v : A) → set (p ++ q) (length p + i) v ≡ p ++ set q i v
set_append_right [] q i v = ap (λ (k : ℕ). set q k v) (zero-add i)
set_append_right {A} (x ∷ p) q i v =
    ap (λ (k : ℕ). set (x ∷ (p ++ q)) k v) (suc-add (length p) i) ∙ ap (λ (r : List A). x ∷ r) (set_append_right p q i v)

module _ {X Y : Type 0} (f : X → List Y) (w : ℕ) (wide : (x : X) → length (f x) ≡ w) where
  -- how long they are together
  pub flat_length : (xs : List X) → length (flat f xs) ≡ length xs * w
  unfolding flat
  flat_length [] = sym (zero-mul w)
  flat_length (x ∷ xs) = rw (length-append, suc-mul) (omega (arith, wide x, flat_length xs))

  -- element j of item k; d and z are what is read past the ends
  pub flat_get : (d : Y) (z : X) (xs : List X) (k j : ℕ) → k < length xs → j < w → get_or (flat f xs) (k * w + j) d ≡ get_or (f (get_or xs k z)) j d
  unfolding flat
  flat_get d z [] k j h g = impossible (omega arith)
  flat_get d z (x ∷ xs) zero j h g =
      ap (λ (n : ℕ). get_or (f x ++ flat f xs) n d) (omega (arith, zero-mul w)) ∙ get_or-append (f x) (flat f xs) d j (omega (arith, wide x))
  flat_get d z (x ∷ xs) (suc k) j h g =
      ap (λ (n : ℕ). get_or (f x ++ flat f xs) n d) (omega (arith, suc-mul k w, wide x))
      ∙ get_or-append-add (f x) (flat f xs) (k * w + j) d
      ∙ flat_get d z xs k j (le_of_suc-le-suc h) g

  -- a store in item k that makes it the item y
  pub flat_set : (z : X) (xs : List X) (k j : ℕ) (v : Y) (y : X) → k < length xs → j < w → set (f (get_or xs k z)) j v ≡ f y
      → set (flat f xs) (k * w + j) v ≡ flat f (set xs k y)
  unfolding flat
  flat_set z [] k j v y h g e = impossible (omega arith)
  flat_set z (x ∷ xs) zero j v y h g e =
      ap (λ (n : ℕ). set (f x ++ flat f xs) n v) (omega (arith, zero-mul w))
      ∙ set-append_left (f x) (flat f xs) j v (omega (arith, wide x))
      ∙ ap (λ (r : List Y). r ++ flat f xs) e
  flat_set z (x ∷ xs) (suc k) j v y h g e =
      ap (λ (n : ℕ). set (f x ++ flat f xs) n v) (omega (arith, suc-mul k w, wide x))
      ∙ set_append_right (f x) (flat f xs) (k * w + j) v
      ∙ ap (λ (r : List Y). f x ++ r) (flat_set z xs k j v y (le_of_suc-le-suc h) g e)
