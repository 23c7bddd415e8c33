-- A book as the list of its blocks: the laws of `block_of`, `put_block`, `cut` and `join`. Assumes nothing.
use mathlib.Core.Path.{◌≡◌, refl, sym, ap, ◌∙◌}
use mathlib.Core.Logic.{◌≢◌}
use mathlib.Core.List.{List, [], ◌∷◌, ◌++◌, append_assoc}
use Prim.Native.Nat.{ℕ, zero, suc, ◌+◌, ◌*◌, ◌-◌, ◌≤◌, ◌<◌}
use native.Mathlib.Nat.{suc-mul, le_of_suc-le-suc, not-suc-le-zero, suc-ne-zero}
use native.Mathlib.Omega.{arith}
use lib.ListN.{length, take, drop, get_or, set, length-drop, take-append-drop}
use Rattle.blocks.proofs.Chunks.{set_append_right}
use lib.Seq.{get_or-take, get_or-drop, set-append_left, take_at, drop_at, take-add, drop-drop, length-take-le, ext_get_or, get_or-set_same, get_or-set_other}
use borrow.Rule.Slice.PartMut.{same_len_mid}
use Rattle.std.specs.List.{copy_within}
use Rattle.blocks.specs.Block.{block_of, put_block}

-- a book as the list of its blocks, and back
unfoldable pub cut : ℕ → List ℕ → List (List ℕ)
cut zero l = []
cut (suc n) l = take 512 l ∷ cut n (drop 512 l)

unfoldable pub join : List (List ℕ) → List ℕ
join [] = []
join (b ∷ bs) = b ++ join bs

-- each block has 512 bytes
unfoldable pub Wide : List (List ℕ) → Type 0
Wide [] = Unit {0}
Wide (b ∷ bs) = (length b ≡ 512) × Wide bs

-- ---- block i copied over block j
pub copied : (l : List ℕ) (i j a e t : ℕ) → a ≡ i * 512 → e ≡ a + 512 → t ≡ j * 512 → copy_within l a e t ≡ put_block j (block_of i l) l
unfolding put_block block_of
copied l i j a e t p q r =
    let n : e - a ≡ 512 = omega arith in
    rw (n, p, r) (append_assoc (take (j * 512) l) (take 512 (drop (i * 512) l)) (drop (j * 512 + 512) l) ∙ rw drop-drop)

-- ---- lengths

pub block_length_lem : (i : ℕ) (l : List ℕ) → i * 512 + 512 ≤ length l → length (block_of i l) ≡ 512
unfolding block_of
block_length_lem i l h = length-take-le 512 (drop (i * 512) l) (rw length-drop (omega arith))

pub put_length : (i : ℕ) (l b : List ℕ) → i * 512 + 512 ≤ length l → length b ≡ 512 → length (put_block i b l) ≡ length l
unfolding put_block block_of
put_length i l b h e = same_len_mid (i * 512) 512 l b (e ∙ sym (block_length_lem i l h))

-- ---- one block on

step : (i : ℕ) → suc i * 512 ≡ 512 + i * 512
step i = omega (arith, suc-mul i 512)

block_suc : (i : ℕ) (l : List ℕ) → block_of (suc i) l ≡ block_of i (drop 512 l)
unfolding block_of
block_suc i l = ap (λ (n : ℕ). take 512 (drop n l)) (step i) ∙ ap (take 512) (sym (drop-drop (i * 512) 512 l))

put_suc : (i : ℕ) (l b : List ℕ) → put_block (suc i) b l ≡ take 512 l ++ put_block i b (drop 512 l)
unfolding put_block
put_suc i l b =
    ap (λ (n : ℕ). take n l ++ (b ++ drop 512 (drop n l))) (step i)
    ∙ ap (λ (p : List ℕ). p ++ (b ++ drop 512 (drop (512 + i * 512) l))) (take-add 512 (i * 512) l)
    ∙ append_assoc (take 512 l) (take (i * 512) (drop 512 l)) (b ++ drop 512 (drop (512 + i * 512) l))
    ∙ ap (λ (z : List ℕ). take 512 l ++ (take (i * 512) (drop 512 l) ++ (b ++ drop 512 z))) (sym (drop-drop (i * 512) 512 l))

-- ---- the list of blocks

pub cut_at : (n i : ℕ) (l : List ℕ) → i < n → get_or (cut n l) i [] ≡ block_of i l
unfolding cut block_of
cut_at zero i l h = absurd (not-suc-le-zero h)
cut_at (suc n) zero l h = refl
cut_at (suc n) (suc i) l h = cut_at n i (drop 512 l) (le_of_suc-le-suc h) ∙ sym (block_suc i l)

pub cut_length : (n : ℕ) (l : List ℕ) → length (cut n l) ≡ n
unfolding cut
cut_length zero l = refl
cut_length (suc n) l = ap suc (cut_length n (drop 512 l))

pub cut_put : (n i : ℕ) (l b : List ℕ) → i < n → n * 512 ≤ length l → length b ≡ 512 → cut n (put_block i b l) ≡ set (cut n l) i b
unfolding cut put_block
cut_put zero i l b h k e = absurd (not-suc-le-zero h)
cut_put (suc n) zero l b h k e =
    ap (λ (p : List ℕ). p ∷ cut n (drop 512 (b ++ drop 512 l))) (take_at b (drop 512 l) 512 e)
    ∙ ap (λ (r : List ℕ). b ∷ cut n r) (drop_at b (drop 512 l) 512 e)
cut_put (suc n) (suc i) l b h k e =
    let f : length (take 512 l) ≡ 512 = length-take-le 512 l (omega (arith, step n)) in
    ap (λ (z : List ℕ). take 512 z ∷ cut n (drop 512 z)) (put_suc i l b)
    ∙ ap (λ (p : List ℕ). p ∷ cut n (drop 512 (take 512 l ++ put_block i b (drop 512 l)))) (take_at (take 512 l) (put_block i b (drop 512 l)) 512 f)
    ∙ ap (λ (r : List ℕ). take 512 l ∷ cut n r) (drop_at (take 512 l) (put_block i b (drop 512 l)) 512 f)
    ∙ ap (λ (r : List (List ℕ)). take 512 l ∷ r) (cut_put n i (drop 512 l) b (le_of_suc-le-suc h) (rw length-drop (omega (arith, step n))) e)

none_left : (l : List ℕ) → length l ≡ 0 → l ≡ []
none_left [] h = refl
none_left (x ∷ xs) h = absurd (suc-ne-zero (length xs) h)

pub join_cut : (n : ℕ) (l : List ℕ) → length l ≡ n * 512 → join (cut n l) ≡ l
unfolding cut join
join_cut zero l h = sym (none_left l (omega arith))
join_cut (suc n) l h =
    ap (λ (r : List ℕ). take 512 l ++ r) (join_cut n (drop 512 l) (rw length-drop (omega (arith, step n))))
    ∙ take-append-drop 512 l

pub cut_join : (bs : List (List ℕ)) → Wide bs → cut (length bs) (join bs) ≡ bs
unfolding cut join Wide
cut_join [] w = refl
cut_join (b ∷ bs) w =
    ap (λ (p : List ℕ). p ∷ cut (length bs) (drop 512 (b ++ join bs))) (take_at b (join bs) 512 w.0)
    ∙ ap (λ (r : List ℕ). b ∷ cut (length bs) r) (drop_at b (join bs) 512 w.0)
    ∙ ap (λ (r : List (List ℕ)). b ∷ r) (cut_join bs w.1)

-- ---- what callers cite: a store of a block is read back, and leaves the other blocks alone

module _ (n i : ℕ) (l b : List ℕ) (h : i < n) (k : length l ≡ n * 512) (e : length b ≡ 512) where
  pub put_same_block : block_of i (put_block i b l) ≡ b
  put_same_block =
      sym (cut_at n i (put_block i b l) h) ∙ ap (λ (z : List (List ℕ)). get_or z i []) (cut_put n i l b h (omega arith) e)
      ∙ get_or-set_same (cut n l) i b [] (rw cut_length h)

  pub put_other_block : (j : ℕ) → j < n → j ≢ i → block_of j (put_block i b l) ≡ block_of j l
  put_other_block j g d =
      sym (cut_at n j (put_block i b l) g) ∙ ap (λ (z : List (List ℕ)). get_or z j []) (cut_put n i l b h (omega arith) e)
      ∙ get_or-set_other (cut n l) i j b [] d ∙ cut_at n j l g

-- two books are equal if they are equal block by block
pub books_ext : (n : ℕ) (l m : List ℕ) → length l ≡ n * 512 → length m ≡ n * 512 → ((i : ℕ) → i < n → block_of i l ≡ block_of i m) → l ≡ m
books_ext n l m hl hm same =
    sym (join_cut n l hl)
    ∙ ap join (ext_get_or [] (cut n l) (cut n m) (cut_length n l ∙ sym (cut_length n m))
    (λ i h. let g : i < n = rw cut_length at h in cut_at n i l g ∙ same i g ∙ sym (cut_at n i m g)))
    ∙ join_cut n m hm

-- ---- bytes of a block

pub byte_of : (k i : ℕ) (l : List ℕ) → i < 512 → get_or (block_of k l) i 0 ≡ get_or l (k * 512 + i) 0
unfolding block_of
byte_of k i l h = get_or-take 512 (drop (k * 512) l) i 0 h ∙ get_or-drop (k * 512) l i 0

-- a byte stored in block k
pub set_block : (k i v : ℕ) (l : List ℕ) → i < 512 → k * 512 + 512 ≤ length l → set l (k * 512 + i) v ≡ put_block k (set (block_of k l) i v) l
unfolding block_of put_block
set_block k i v l h g =
    let n : ℕ = k * 512 in
    let p : List ℕ = take n l in
    let d : List ℕ = drop n l in
    let e : length p ≡ n = length-take-le n l (omega arith) in
    let f : length (take 512 d) ≡ 512 = length-take-le 512 d (rw length-drop (omega arith)) in
    ap (λ (z : List ℕ). set z (n + i) v) (sym (take-append-drop n l))
    ∙ ap (λ (z : ℕ). set (p ++ d) (z + i) v) (sym e)
    ∙ set_append_right p d i v
    ∙ ap (λ (z : List ℕ). p ++ set z i v) (sym (take-append-drop 512 d))
    ∙ ap (λ (z : List ℕ). p ++ z) (set-append_left (take 512 d) (drop 512 d) i v (omega arith))
