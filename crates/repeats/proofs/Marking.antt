-- Marks set word by word. Assumes nothing.
use Prim.Native.Nat.{ℕ, ◌+◌, ◌*◌, ◌/◌, ◌%◌, ◌≤◌, ◌<◌}
use native.Mathlib.Omega.{arith}
use mathlib.Core.Path.{◌≡◌, sym, ap, ◌∙◌}
use mathlib.Core.List.{List}
use mathlib.Core.Bool.{Bool, true, false, not}
use lib.Bits.{bit_and, bit_or}
use lib.Dec.{eqb}
use lib.ListN.{length, get_or, set, length-set}
use lib.Seq.{get_or-set_same, get_or-set_other}
use borrow.Author.Tests.{eqb-true, eqb-false, not-true, not-false}
use Rattle.laws.proofs.Tests.{by, by_order, impossible, apart}
use Rattle.repeats.specs.Marks.{bit_at, mark, Mask, Taken, Claimed, Claims}
use Rattle.repeats.proofs.Bits.{Common, or_set, or_kept, and_none, and_some, all_bits, mask_all, mask_both}

-- ---- one word: its bits from f to t are the places from `at` to `to`
module _ (words : List ℕ) (k mask f t : ℕ) (m : Mask mask f t) (fits : k < length words) where
  abbrev word : ℕ
  word = get_or words k 0

  abbrev set_word : List ℕ
  set_word = set words k (bit_or word mask)

  here : (i : ℕ) → i / 64 ≡ k → mark words i ≡ bit_at word (i % 64)
  unfolding mark
  here i e = rw e

  set_here : (i : ℕ) → i / 64 ≡ k → mark set_word i ≡ bit_at (bit_or word mask) (i % 64)
  unfolding mark
  set_here i e = rw e (ap (λ (x : ℕ). bit_at x (i % 64)) (get_or-set_same words k (bit_or word mask) 0 fits))

  set_other : (i : ℕ) → (i / 64 ≡ k → ⊥) → mark set_word i ≡ mark words i
  unfolding mark
  set_other i d = ap (λ (x : ℕ). bit_at x (i % 64)) (get_or-set_other words k (i / 64) (bit_or word mask) 0 d)

  -- a place whose bit the mask has not is as it was
  set_kept : (i : ℕ) → (i / 64 ≡ k → bit_at mask (i % 64) ≡ 0) → mark set_word i ≡ mark words i
  set_kept i h =
      by (eqb (i / 64) k)
      (λ e. let q = eqb-true (i / 64) k e in set_here i q ∙ or_kept word mask (i % 64) (h q) ∙ sym (here i q))
      λ e. set_other i (eqb-false (i / 64) k e)

  module _ (before : List ℕ) (from at to : ℕ) (v : Claimed before from at words) (low : from ≤ at) (high : at ≤ to)
      (ea : at ≡ k * 64 + f) (et : to ≡ k * 64 + t) (small : t < 64) where
    -- none of them was marked
    word_free : bit_and word mask ≡ 0 → Claimed before from (to + 1) set_word
    word_free z =
        record {
          long = length-set words k (bit_or word mask) ∙ v.long;
          free = λ i l h. by_order i at (v.free i l)
              (λ g. sym (v.above i g) ∙ here i (omega arith) ∙ and_none word mask (i % 64) z (m.inside (i % 64) (omega arith) (omega arith)));
          inside = λ i l h. by_order i at
              (λ g. set_kept i (λ e. m.below (i % 64) (omega arith)) ∙ v.inside i l g)
              (λ g. set_here i (omega arith) ∙ or_set word mask (i % 64) (m.inside (i % 64) (omega arith) (omega arith)));
          below = λ i l. set_kept i (λ e. m.below (i % 64) (omega arith)) ∙ v.below i l;
          above = λ i l. set_kept i (λ e. m.above (i % 64) (omega arith)) ∙ v.above i (omega arith);
        }

    -- one was
    word_taken : (bit_and word mask ≡ 0 → ⊥) → Taken before from to
    word_taken z =
        let c : Common word mask = and_some word mask z in
        let j : ℕ = c.place in
        let l : f ≤ j = by_order j f (λ g. impossible (omega (arith, m.below j g, c.right))) (λ g. g) in
        let h : j ≤ t = by_order t j (λ g. impossible (omega (arith, m.above j g, c.right))) (λ g. g) in
        let r : (k * 64 + j) % 64 ≡ j = omega arith in
        record {
          place = k * 64 + j;
          low = omega arith;
          high = omega arith;
          marked = sym (v.above (k * 64 + j) (omega arith)) ∙ here (k * 64 + j) (omega arith) ∙ ap (bit_at word) r ∙ c.left;
        }

    word_claims : (hit : Bool) → hit ≡ not (eqb (bit_and word mask) 0) → Claims before from to set_word hit
    word_claims hit e =
        record {
          taken = λ y. word_taken (eqb-false (bit_and word mask) 0 (not-true (eqb (bit_and word mask) 0) (sym e ∙ y)));
          claimed = λ n. word_free (eqb-true (bit_and word mask) 0 (not-false (eqb (bit_and word mask) 0) (sym e ∙ n)));
        }

-- ---- word by word: the places below `at` are marked, and the next word is k
pub record Claiming (before : List ℕ) (from to : ℕ) (marks : List ℕ) (k mask : ℕ) : Type 0 where
  pub at : ℕ
  pub low : from ≤ at
  pub high : at ≤ to
  pub here : at / 64 ≡ k
  pub bits : Mask mask (at % 64) 63
  pub so_far : Claimed before from at marks

module _ (before : List ℕ) (from to : ℕ) (marks : List ℕ) (k mask : ℕ) (v : Claiming before from to marks k mask) (fits : to < 64 * length before) where
  pub claiming_word : k < length marks
  claiming_word = omega (arith, v.here, v.high, v.so_far.long)

  module _ (hit : Bool) (after : List ℕ) where
    module _ (h : k < to / 64) (eh : hit ≡ not (eqb (bit_and (get_or marks k 0) mask) 0)) where
      whole : Claims before from (k * 64 + 63) (set marks k (bit_or (get_or marks k 0) mask)) hit
      whole =
          word_claims marks k mask (v.at % 64) 63 v.bits claiming_word before from v.at (k * 64 + 63) v.so_far
          v.low (omega (arith, v.here)) (omega (arith, v.here)) (omega arith) (omega arith) hit eh

      pub claiming_hit : hit ≡ true → Claims before from to after true
      claiming_hit e =
          let f = whole.taken e in
          record {
            taken = λ y. record { place = f.place; low = f.low; high = omega (arith, f.high); marked = f.marked };
            claimed = λ n. apart cc;
          }

      pub claiming_on : after ≡ set marks k (bit_or (get_or marks k 0) mask) → hit ≡ false → Claiming before from to after (k + 1) all_bits
      claiming_on ea e =
          let next : k * 64 + 63 + 1 ≡ k * 64 + 64 = omega arith in
          let first : (k * 64 + 64) % 64 ≡ 0 = omega arith in
          record {
            at = k * 64 + 64;
            low = omega (arith, v.low, v.here);
            high = omega arith;
            here = omega arith;
            bits = rw first mask_all;
            so_far = rw (ea, ← next) (whole.claimed e);
          }

    -- the last word
    pub claiming_done : to / 64 ≤ k → (ends : ℕ) → Mask ends 0 (to % 64)
        → hit ≡ not (eqb (bit_and (get_or marks (to / 64) 0) (bit_and mask ends)) 0)
        → after ≡ set marks (to / 64) (bit_or (get_or marks (to / 64) 0) (bit_and mask ends)) → Claims before from to after hit
    claiming_done h ends m eh' ea' =
        let same : to / 64 ≡ k = omega (arith, v.here, v.high) in
        let eh : hit ≡ not (eqb (bit_and (get_or marks k 0) (bit_and mask ends)) 0) = rw same at eh' in
        let ea : after ≡ set marks k (bit_or (get_or marks k 0) (bit_and mask ends)) = rw same at ea' in
        rw ea
        (word_claims marks k (bit_and mask ends) (v.at % 64) (to % 64) (mask_both mask ends (v.at % 64) (to % 64) v.bits m (omega arith))
        claiming_word before from v.at to v.so_far v.low v.high (omega (arith, v.here)) (omega (arith, v.here, v.high)) (omega arith) hit eh)
