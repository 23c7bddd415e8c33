-- The blocks of a book's bytes. Assumes nothing.
use mathlib.Core.Path.{◌≡◌, refl, sym, ap, ◌∙◌}
use mathlib.Core.List.{List, [], ◌∷◌, ◌++◌}
use Prim.Native.Nat.{ℕ, zero, suc, ◌+◌, ◌*◌, ◌<◌}
use native.Mathlib.Nat.{ne_of_gt}
use native.Mathlib.Omega.{arith}
use lib.ListN.{length, get_or, length-append}
use Rattle.codes.specs.Places.{upward}
use Rattle.checks.specs.Seal.{block_length, sealed}
use Rattle.blocks.specs.Block.{book_length, flat, block_of, put_block}
use Rattle.blocks.proofs.Blocks.{cut, join, Wide, cut_at, cut_join, block_length_lem, put_length, put_same_block, put_other_block, books_ext}
use Rattle.checks.proofs.Seals.{sealed_length}
use Rattle.steps.specs.Book.{Book}
use Rattle.layout.specs.Layout.{block_bytes, bytes_of}
use Rattle.layout.specs.Lies.{Lies}

-- ---- blocks one after another
module _ (f : ℕ → List ℕ) where
  -- those of n numbers from p on
  unfoldable blocks : ℕ → ℕ → List (List ℕ)
  blocks p zero = []
  blocks p (suc n) = f p ∷ blocks (suc p) n

  -- how many there are, and which
  blocks_count : (p n : ℕ) → length (blocks p n) ≡ n
  unfolding blocks
  blocks_count p zero = refl
  blocks_count p (suc n) = ap suc (blocks_count (suc p) n)

  blocks_get : (p n k : ℕ) → k < n → get_or (blocks p n) k [] ≡ f (p + k)
  unfolding blocks
  blocks_get p zero k h = absurd (omega arith)
  blocks_get p (suc n) zero h = let e : p ≡ p + 0 = omega arith in ap f e
  blocks_get p (suc n) (suc k) h = let e : suc p + k ≡ p + suc k = omega arith in blocks_get (suc p) n k (omega arith) ∙ ap f e

  -- one after another
  blocks_join : (p n : ℕ) → flat f (upward p n) ≡ join (blocks p n)
  unfolding flat upward join blocks
  blocks_join p zero = refl
  blocks_join p (suc n) = ap (λ (l : List ℕ). f p ++ l) (blocks_join (suc p) n)

  -- each has 512 bytes
  blocks_wide : (p n : ℕ) → ((k : ℕ) → k < n → length (f (p + k)) ≡ 512) → Wide (blocks p n)
  unfolding Wide blocks
  blocks_wide p zero h = tt
  blocks_wide p (suc n) h =
      let e : p ≡ p + 0 = omega arith in
      (ap (λ (k : ℕ). length (f k)) e ∙ h 0 (omega arith), blocks_wide (suc p) n (λ k g. let q : suc p + k ≡ p + suc k = omega arith in ap (λ (k : ℕ). length (f k)) q ∙ h (suc k) (omega arith)))

-- their bytes together
join_length : (bs : List (List ℕ)) → Wide bs → length (join bs) ≡ length bs * 512
unfolding Wide join
join_length [] w = refl
join_length (b ∷ bs) w =
    let e = join_length bs w.1 in
    let f : suc (length bs) * 512 ≡ 512 + length bs * 512 = omega arith in
    length-append b (join bs) ∙ omega (arith, w.0)

-- ---- the blocks of a book whose blocks have 512 bytes
module _ (b : Book) (wide : (k : ℕ) → k < 49 → length (block_bytes b k) ≡ block_length) where
  -- all of them
  all : List (List ℕ)
  all = blocks (block_bytes b) 0 49

  all_wide : Wide all
  unfolding all
  all_wide = blocks_wide (block_bytes b) 0 49 (λ k h. let e : 0 + k ≡ k = omega arith in ap (λ (k : ℕ). length (block_bytes b k)) e ∙ wide k h)

  all_count : length all ≡ 49
  unfolding all
  all_count = blocks_count (block_bytes b) 0 49

  all_join : bytes_of b ≡ join all
  unfolding all bytes_of
  all_join = blocks_join (block_bytes b) 0 49

  -- how long they are together
  pub bytes_length : length (bytes_of b) ≡ book_length
  bytes_length = ap (λ (l : List ℕ). length l) all_join ∙ join_length all all_wide ∙ ap (λ (n : ℕ). n * 512) all_count

  -- block k
  pub block_at_lem : (k : ℕ) → k < 49 → block_of k (bytes_of b) ≡ block_bytes b k
  unfolding all
  block_at_lem k h =
      let e : 0 + k ≡ k = omega arith in
      ap (block_of k) all_join
      ∙ sym (cut_at 49 k (join all) h)
      ∙ ap (λ (n : ℕ). get_or (cut n (join all)) k []) (sym all_count)
      ∙ ap (λ (z : List (List ℕ)). get_or z k []) (cut_join all all_wide)
      ∙ blocks_get (block_bytes b) 0 49 k h
      ∙ ap (block_bytes b) e

-- ---- a book that lies in bytes
module _ (l : List ℕ) (b : Book) (lies : Lies l b) where
  -- block 0 has 512 bytes
  lies_0 : length (block_of 0 l) ≡ 512
  lies_0 = block_length_lem 0 l (omega (arith, lies.long))

  -- each of its blocks has 512 bytes
  pub lies_wide : (k : ℕ) → k < 49 → length (block_bytes b k) ≡ block_length
  unfolding block_bytes
  lies_wide zero h = ap (λ (z : List ℕ). length z) (sym lies.index) ∙ sealed_length (block_of 0 l) ∙ lies_0
  lies_wide (suc k) h = ap (λ (z : List ℕ). length z) (sym (lies.blocks k (omega arith))) ∙ block_length_lem (suc k) l (omega (arith, lies.long))

  -- block by block
  lies_same : (k : ℕ) → k < 49 → block_of k (put_block 0 (sealed (block_of 0 l)) l) ≡ block_of k (bytes_of b)
  unfolding block_bytes
  lies_same zero h =
      put_same_block 49 0 l (sealed (block_of 0 l)) h lies.long (sealed_length (block_of 0 l) ∙ lies_0)
      ∙ lies.index ∙ sym (block_at_lem b lies_wide 0 h)
  lies_same (suc k) h =
      put_other_block 49 0 l (sealed (block_of 0 l)) (omega arith) lies.long (sealed_length (block_of 0 l) ∙ lies_0) (suc k) h (ne_of_gt (omega arith))
      ∙ lies.blocks k (omega arith) ∙ sym (block_at_lem b lies_wide (suc k) h)

  -- with the check of block 0 they are its bytes
  pub lies_sealed : put_block 0 (sealed (block_of 0 l)) l ≡ bytes_of b
  lies_sealed =
      books_ext 49 (put_block 0 (sealed (block_of 0 l)) l) (bytes_of b)
      (put_length 0 l (sealed (block_of 0 l)) (omega (arith, lies.long)) (sealed_length (block_of 0 l) ∙ lies_0) ∙ lies.long)
      (bytes_length b lies_wide) lies_same
