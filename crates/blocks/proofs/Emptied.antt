-- An unused block that is made, and a book whose blocks all are unused. Assumes nothing.
use mathlib.Core.Path.{◌≡◌, sym, ap, ◌∙◌}
use mathlib.Core.List.{List}
use Rattle.std.specs.Prelude.{None}
use Prim.Native.Nat.{ℕ, ◌+◌, ◌*◌, ◌≤◌, ◌<◌}
use native.Mathlib.Nat.{ne_of_lt, ne_of_gt}
use native.Mathlib.Omega.{arith}
use lib.ListN.{length, get_or, set, replicate, length-set, length-replicate, get_or-replicate}
use Rattle.laws.proofs.Tests.{by_order}
use Rattle.checks.specs.Seal.{block_length}
use Rattle.checks.proofs.Zeros.{zeros_ext}
use Rattle.checks.proofs.Unused.{sealed_zero}
use Rattle.blocks.specs.Block.{block_count, book_length, block_of}
use Rattle.blocks.specs.Content.{holding}
use Rattle.blocks.proofs.Blocks.{block_length_lem, byte_of, set_block, put_same_block, put_other_block}

-- ---- one that is made
pub none_is : set (replicate block_length 0) 510 1 ≡ holding None
unfolding holding
none_is = sym (sealed_zero (replicate block_length 0) (λ i h. get_or-replicate block_length i 0 0 h))

-- ---- a book whose first k blocks are unused ones, and the others zeros
pub record Emptied (book : List ℕ) (k : ℕ) : Type 0 where
  pub long : length book ≡ book_length
  pub unused : (j : ℕ) → j < k → block_of j book ≡ holding None
  pub zeros : (j : ℕ) → k ≤ j → j < block_count → block_of j book ≡ replicate block_length 0

pub emptied_none : (book : List ℕ) → book ≡ replicate book_length 0 → Emptied book 0
emptied_none book e =
    let long : length book ≡ book_length = ap (λ (d : List ℕ). length d) e ∙ length-replicate {A = ℕ} book_length 0 in
    record {
      long = long;
      unused = λ j h. absurd (omega arith);
      zeros = λ j h g. zeros_ext block_length (block_of j book) (block_length_lem j book (omega arith))
          (λ i m. byte_of j i book m ∙ ap (λ (d : List ℕ). get_or d (j * 512 + i) 0) e ∙ get_or-replicate book_length (j * 512 + i) 0 0 (omega arith));
    }

pub emptied_more : (book : List ℕ) (k : ℕ) → Emptied book k → k < block_count → Emptied (set book (k * 512 + 510) 1) (k + 1)
emptied_more book k v h =
    let b : List ℕ = set (block_of k book) 510 1 in
    let e = set_block k 510 1 book (omega arith) (omega (arith, v.long)) in
    let w : length b ≡ 512 = length-set (block_of k book) 510 1 ∙ block_length_lem k book (omega (arith, v.long)) in
    let made : b ≡ holding None = ap (λ (l : List ℕ). set l 510 1) (v.zeros k (omega arith) h) ∙ none_is in
    record {
      long = length-set book (k * 512 + 510) 1 ∙ v.long;
      unused = λ j g. rw e
          (by_order j k (λ r. put_other_block 49 k book b h v.long w j (omega arith) (ne_of_lt r) ∙ v.unused j r)
          (λ r. let m : j ≡ k = omega arith in
          rw m (put_same_block 49 k book b h v.long w ∙ made)));
      zeros = λ j g m. rw e (put_other_block 49 k book b h v.long w j m (ne_of_gt (omega arith)) ∙ v.zeros j (omega arith) m);
    }
