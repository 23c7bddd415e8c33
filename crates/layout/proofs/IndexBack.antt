-- Block 0 of a sound book is the bytes of what it says. Assumes nothing.
use mathlib.Core.Path.{◌≡◌, refl, sym, ap, ap₂, ◌∙◌}
use mathlib.Core.List.{List, [], ◌∷◌, ◌++◌, map, append_assoc}
use Prim.Native.Nat.{ℕ, ◌+◌, ◌*◌, ◌-◌, ◌≤◌, ◌<◌}
use native.Mathlib.Nat.{add-zero}
use native.Mathlib.Omega.{arith}
use lib.ListN.{length, take, drop, get_or, replicate, length-drop}
use lib.Seq.{get_or-take, get_or-drop, take-add, drop-drop, length-take-le}
use Rattle.codes.specs.Places.{upward}
use Rattle.checks.specs.Seal.{block_length, sealed}
use Rattle.blocks.specs.Block.{bytes32, number_at, flat, block_of, Bytes}
use Rattle.blocks.proofs.Blocks.{block_length_lem}
use Rattle.blocks.proofs.Numbers.{bytes_block, first4, word_back}
use Rattle.checks.proofs.Zeros.{zero_in, zeros_ext}
use Rattle.blocks.proofs.Forms.{own_seal, sealed_form}
use Rattle.layout.specs.Layout.{draft_bytes, step_bytes, index_bytes, draft_of, step_of, book_of}
use Rattle.layout.proofs.Counted.{flat_back}
use Rattle.layout.proofs.Parts.{Parts, byte_0, number_0}
use Rattle.layout.proofs.Said.{segments_length, steps_length}
use Rattle.layout.proofs.Shown.{draft_bytes_lem, step_bytes_lem}

-- the first bytes of a list
first1 : (l : List ℕ) → 1 ≤ length l → take 1 l ≡ get_or l 0 0 ∷ []
first1 (a ∷ l) h = refl
first1 [] h = absurd (omega arith)

first2 : (l : List ℕ) → 2 ≤ length l → take 2 l ≡ get_or l 0 0 ∷ get_or l 1 0 ∷ []
first2 (a ∷ b ∷ l) h = refl
first2 [] h = absurd (omega arith)
first2 (a ∷ []) h = absurd (omega arith)

-- two and four bytes of a list from an offset on
two_at : (o : ℕ) (b : List ℕ) → o + 2 ≤ length b → take 2 (drop o b) ≡ get_or b o 0 ∷ get_or b (o + 1) 0 ∷ []
two_at o b h = first2 (drop o b) (rw length-drop (omega arith)) ∙ simp (get_or-drop, add-zero)

four_at : (o : ℕ) (b : List ℕ) → o + 4 ≤ length b → take 4 (drop o b) ≡ get_or b o 0 ∷ get_or b (o + 1) 0 ∷ get_or b (o + 2) 0 ∷ get_or b (o + 3) 0 ∷ []
four_at o b h = first4 (drop o b) (rw length-drop (omega arith)) ∙ simp (get_or-drop, add-zero)

module _ (l : List ℕ) (y : Bytes l) (p : Parts l) where
  abbrev b : List ℕ
  b = block_of 0 l

  block_long : length b ≡ block_length
  block_long = let e = p.long in block_length_lem 0 l (omega arith)

  -- bytes 0..7
  front_back : take 8 b ≡ bytes32 (number_at l 0) ++ (get_or l 4 0 ∷ replicate 3 0)
  front_back =
      let len = block_long in
      let zero-at : (i : ℕ) → 5 ≤ i → i < 8 → get_or b i 0 ≡ 0 = zero_in 5 8 b p.index.head in
      take-add 4 4 b
      ∙ ap₂ (λ (u v : List ℕ). u ++ v) (word_back b (omega arith) (bytes_block 0 l y) ∙ ap bytes32 (number_0 l))
      (four_at 4 b (omega arith)
      ∙ rw (byte_0 4 l (omega arith), zero-at 5 (omega arith) (omega arith), zero-at 6 (omega arith) (omega arith), zero-at 7 (omega arith) (omega arith)))

  -- bytes 8..23
  drafts_back : take 16 (drop 8 b) ≡ flat draft_bytes (map (draft_of l) (upward 0 4))
  drafts_back =
      let len = block_long in
      flat_back draft_bytes (draft_of l) 4 8 b 0 4
      (λ d h g. let e1 : 8 + 4 * d + 1 ≡ 9 + 4 * d = omega arith in
      let e2 : 8 + 4 * d + 2 ≡ 10 + 4 * d = omega arith in
      let e3 : 8 + 4 * d + 3 ≡ 11 + 4 * d = omega arith in
      four_at (8 + 4 * d) b (omega arith)
      ∙ rw (
        e1,
        e2,
        e3,
        byte_0 (8 + 4 * d) l (omega arith),
        byte_0 (9 + 4 * d) l (omega arith),
        byte_0 (10 + 4 * d) l (omega arith),
        byte_0 (11 + 4 * d) l (omega arith),
      ) (sym (draft_bytes_lem l d p (omega arith))))

  -- bytes 24..31
  count_back : take 8 (drop 24 b) ≡ get_or l 24 0 ∷ replicate 7 0
  count_back =
      let len = block_long in
      let rest : List ℕ = drop 1 (drop 24 b) in
      take-add 1 7 (drop 24 b)
      ∙ ap₂ (λ (u v : List ℕ). u ++ v)
      (first1 (drop 24 b) (rw length-drop (omega arith)) ∙ ap (λ (x : ℕ). x ∷ []) (get_or-drop 24 b 0 0 ∙ byte_0 24 l (omega arith)))
      (zeros_ext 7 (take 7 rest) (length-take-le 7 rest (simp length-drop (omega arith)))
      (λ i h. get_or-take 7 rest i 0 h ∙ get_or-drop 1 (drop 24 b) i 0 ∙ get_or-drop 24 b (1 + i) 0 ∙ zero_in 25 32 b p.index.middle (24 + (1 + i)) (omega arith) (omega arith)))

  -- two bytes a step
  steps_back : take (get_or l 24 0 * 2) (drop 32 b) ≡ flat step_bytes (map (step_of l) (upward 0 (get_or l 24 0)))
  steps_back =
      let len = block_long in
      let most = p.sixteen in
      flat_back step_bytes (step_of l) 2 32 b 0 (get_or l 24 0)
      (λ s h g. let e : 32 + 2 * s + 1 ≡ 33 + 2 * s = omega arith in
      two_at (32 + 2 * s) b (omega arith)
      ∙ rw (e, byte_0 (32 + 2 * s) l (omega arith), byte_0 (33 + 2 * s) l (omega arith)) (sym (step_bytes_lem l p s (omega arith))))

  -- block 0 has its check
  pub index_sealed : sealed b ≡ b
  index_sealed = sym (own_seal b (bytes_block 0 l y) p.index.check)

  -- it is the bytes of what it says
  pub index_back : b ≡ sealed (index_bytes (book_of l))
  unfolding index_bytes book_of
  index_back =
      let n : ℕ = get_or l 24 0 in
      let most = p.sixteen in
      let c : get_or b 24 0 ≡ n = byte_0 24 l (omega arith) in
      let e : 32 + 2 * get_or b 24 0 ≡ 8 + (16 + (8 + n * 2)) = omega arith in
      let f : 512 - (32 + 2 * get_or b 24 0) ≡ 480 - 2 * n = omega arith in
      let zs : List ℕ = replicate (480 - 2 * n) 0 in
      sealed_form b block_long (bytes_block 0 l y) (32 + 2 * get_or b 24 0) (omega arith) p.index.check p.index.tail
      ∙ ap sealed
      (ap₂ (λ (i j : ℕ). take i b ++ replicate j 0) e f
      ∙ ap (λ (u : List ℕ). u ++ zs)
      (take-add 8 (16 + (8 + n * 2)) b
      ∙ ap₂ (λ (u v : List ℕ). u ++ v) front_back
      (take-add 16 (8 + n * 2) (drop 8 b)
      ∙ ap₂ (λ (u v : List ℕ). u ++ v) drafts_back
      (ap (take (8 + n * 2)) (drop-drop 16 8 b)
      ∙ take-add 8 (n * 2) (drop 24 b)
      ∙ ap₂ (λ (u v : List ℕ). u ++ v) count_back (ap (take (n * 2)) (drop-drop 8 24 b) ∙ steps_back))))
      ∙ simp (append_assoc, segments_length, steps_length))
