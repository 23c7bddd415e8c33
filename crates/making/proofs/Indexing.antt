-- Block 0 of a new book, and the book that the blocks then are. Assumes nothing.
use Prim.Native.Nat.{ℕ, zero, suc, ◌-◌, ◌/◌, ◌%◌, ◌≤◌, ◌<◌}
use native.Mathlib.Nat.{ne_of_gt}
use native.Mathlib.Omega.{arith}
use mathlib.Core.Path.{◌≡◌, refl, sym, ap, ◌∙◌}
use mathlib.Core.List.{List, [], ◌∷◌}
use Rattle.std.specs.Prelude.{None}
use lib.ListN.{length, set, replicate, length-set, take-append-drop}
use Rattle.std.specs.Prelude.{slice_get}
use lib.Seq.{sets}
use borrow.Author.Tests.{lt-ltb, le-ltb}
use Rattle.laws.proofs.Tests.{by_order}
use Rattle.laws.proofs.Lookups.{get_none}
use Rattle.codes.specs.Block.{Content}
use Rattle.checks.specs.Seal.{block_length, check_of, sealed}
use Rattle.blocks.specs.Block.{book_length, bytes32, flat, block_of, put_block}
use Rattle.blocks.specs.Content.{holding}
use Rattle.blocks.proofs.Blocks.{put_length, put_same_block, put_other_block}
use Rattle.checks.proofs.Seals.{sealed_again}
use Rattle.steps.specs.Book.{closed, Book, or_closed, new_book}
use Rattle.layout.specs.Layout.{Part, copy, before, part_of, copies_of, held_of, held_in, index_bytes, block_bytes, bytes_of}
use Rattle.layout.specs.Lies.{Lies}
use Rattle.layout.proofs.ForthBlocks.{lies_sealed}
use Rattle.layout.proofs.ForthIndex.{index_length}
use Rattle.layout.proofs.Stands.{part_segment}
use Rattle.making.specs.Fill.{Filled, Indexed}

-- ---- the other blocks
-- a new book has no copies
no_copies : (d n : ℕ) → held_of (slice_get (copies_of (or_closed (slice_get (closed ∷ closed ∷ closed ∷ closed ∷ []) d))) n) ≡ None
no_copies zero n = refl
no_copies (suc zero) n = refl
no_copies (suc (suc zero)) n = refl
no_copies (suc (suc (suc zero))) n = refl
no_copies (suc (suc (suc (suc d)))) n = refl

-- what a block behind the segments' is for
data Behind : Part → Type 0 where
  of_draft : (d n : ℕ) → Behind (copy d n)
  of_step : (s n : ℕ) → Behind (before s n)

behind : (k : ℕ) → 8 ≤ k → Behind (part_of (suc k))
unfolding part_of
behind k h =
    by_order k 16
    (λ g. rw (le-ltb (suc k) 9 (omega arith), lt-ltb (suc k) 17 (omega arith)) (of_draft ((suc k - 9) / 2) ((suc k - 9) % 2)))
    (λ g. rw (le-ltb (suc k) 9 (omega arith), le-ltb (suc k) 17 (omega arith)) (of_step ((suc k - 17) / 2) ((suc k - 17) % 2)))

behind_none : (issue : ℕ) (cs : List Content) (p : Part) → Behind p → held_in (new_book issue cs) p ≡ None
unfolding held_in
behind_none issue cs _ (of_draft d n) = no_copies d n
behind_none issue cs _ (of_step s n) = refl

-- block k + 1 of a new book holds segment k's content, if there is one
pub new_held : (issue : ℕ) (cs : List Content) (k : ℕ) → length cs ≤ 8 → held_in (new_book issue cs) (part_of (suc k)) ≡ slice_get cs k
unfolding held_in
new_held issue cs k h =
    by_order k 8
    (λ g. ap (held_in (new_book issue cs)) (part_segment k g))
    (λ g. behind_none issue cs (part_of (suc k)) (behind k g) ∙ sym (get_none cs k (omega arith)))

-- ---- block 0
-- its bytes, with any check
index_stored : (issue : ℕ) (cs : List Content) (x y : ℕ) (l : List ℕ)
    → set (sets (put_block 0 (set (set (replicate 512 0) 510 x) 511 y) l) 0 (bytes32 issue)) 4 (length cs)
    ≡ put_block 0 (set (set (index_bytes (new_book issue cs)) 510 x) 511 y) l
unfolding put_block index_bytes flat
index_stored issue cs x y l = refl

-- a block stored where it stands
put_back : (l : List ℕ) → put_block 0 (block_of 0 l) l ≡ l
unfolding put_block block_of
put_back l = take-append-drop 512 l

module _ (l : List ℕ) (issue n : ℕ) where
  module _ (cs : List Content) (m : length cs ≡ n) (few : n < 9) (f : Filled cs l) where
    b : Book
    b = new_book issue cs

    x : ℕ
    x = check_of (replicate block_length 0) % 256

    y : ℕ
    y = check_of (replicate block_length 0) / 256 % 256

    index : List ℕ
    index = set (set (index_bytes b) 510 x) 511 y

    unsealed : List ℕ
    unsealed = put_block 0 index l

    wide : length index ≡ block_length
    unfolding index b
    wide = simp length-set (index_length b refl (omega arith))

    unsealed_is : set (sets (put_block 0 (holding None) l) 0 (bytes32 issue)) 4 n ≡ unsealed
    unfolding unsealed index b x y holding sealed
    unsealed_is = ap (λ (j : ℕ). set (sets (put_block 0 (holding None) l) 0 (bytes32 issue)) 4 j) (sym m) ∙ index_stored issue cs x y l

    unsealed_lies : Lies unsealed b
    unfolding unsealed index b block_bytes
    unsealed_lies =
        let h : length l ≡ book_length = f.long in
        record {
          long = put_length 0 l index (omega arith) wide ∙ h;
          index = ap sealed (put_same_block 49 0 l index (omega arith) h wide) ∙ sealed_again (index_bytes b) x y;
          blocks = λ k g. put_other_block 49 0 l index (omega arith) h wide (suc k) (omega arith) (ne_of_gt (omega arith))
              ∙ f.blocks k g ∙ ap holding (sym (new_held issue cs k (omega arith)));
          four = refl;
          sixteen = omega arith;
        }

    made_is : (d : List ℕ) → d ≡ put_block 0 (sealed (block_of 0 unsealed)) unsealed → d ≡ bytes_of (new_book issue cs)
    unfolding b
    made_is d e = e ∙ lies_sealed unsealed b unsealed_lies

    made_all : (l₁ d : List ℕ) → l₁ ≡ sets l 0 (bytes32 issue) → d ≡ put_block 0 (sealed (block_of 0 (set l₁ 4 n))) (set l₁ 4 n) → d ≡ bytes_of (new_book issue cs)
    made_all l₁ d e₁ e =
        let back : l ≡ put_block 0 (holding None) l = sym (put_back l) ∙ ap (λ (z : List ℕ). put_block 0 z l) f.first in
        let u : set l₁ 4 n ≡ unsealed = ap (λ (z : List ℕ). set z 4 n) (e₁ ∙ ap (λ (z : List ℕ). sets z 0 (bytes32 issue)) back) ∙ unsealed_is in
        made_is d (e ∙ ap (λ (z : List ℕ). put_block 0 (sealed (block_of 0 z)) z) u)

  pub indexed : (l₁ d : List ℕ) → l₁ ≡ sets l 0 (bytes32 issue) → d ≡ put_block 0 (sealed (block_of 0 (set l₁ 4 n))) (set l₁ 4 n) → Indexed l issue n d
  indexed l₁ d e₁ e = record { whole = λ cs m few f. made_all cs m few f l₁ d e₁ e }
