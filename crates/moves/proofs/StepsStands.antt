-- What stands in a book: the first 510 bytes, and what blocks 1..48 hold, as functions; what a store changes. Assumes nothing.
use mathlib.Core.Path.{◌≡◌, refl, sym, ap, ◌∙◌, subst}
use mathlib.Core.Logic.{◌≢◌}
use mathlib.Core.Bool.{Bool, cond}
use mathlib.Core.List.{List}
use Rattle.std.specs.Prelude.{Option, None}
use Prim.Native.Nat.{ℕ, suc, ◌*◌, ◌≤◌, ◌<◌}
use native.Mathlib.Nat.{suc-mul}
use native.Mathlib.Omega.{arith}
use lib.ListN.{length, take, get_or, set, length-set}
use lib.Seq.{get_or-set_same, get_or-set_other, drop-set-lt, ext_get_or}
use lib.Dec.{eqb}
use borrow.Author.Tests.{eq-eqb, ne_eqb, eqb-true, eqb-false}
use Rattle.laws.proofs.Tests.{by}
use Rattle.codes.specs.Block.{Content}
use Rattle.checks.specs.Seal.{sealed}
use Rattle.blocks.specs.Block.{book_length, block_of, put_block}
use Rattle.blocks.specs.Content.{holding}
use Rattle.checks.proofs.Seals.{sealed_again}
use Rattle.blocks.proofs.Contents.{unused_length}
use Rattle.blocks.proofs.Blocks.{block_length_lem, put_length, put_same_block, put_other_block, byte_of}

-- ---- functions with another value at k
unfoldable pub upd : {A : Type 0} → (ℕ → A) → ℕ → A → ℕ → A
upd f k x i = cond (eqb i k) x (f i)

module _ {A : Type 0} (f : ℕ → A) (k : ℕ) (x : A) (i : ℕ) where
  pub upd_same : i ≡ k → upd f k x i ≡ x
  unfolding upd
  upd_same e = ap (λ (t : Bool). cond t x (f i)) (eq-eqb i k e)

  pub upd_other : i ≢ k → upd f k x i ≡ f i
  unfolding upd
  upd_other d = ap (λ (t : Bool). cond t x (f i)) (ne_eqb i k d)

-- what stands at i, in both cases
pub upd_at : {A : Type 0} (f : ℕ → A) (k : ℕ) (x : A) (i : ℕ) (v : A) → (i ≡ k → x ≡ v) → (i ≢ k → f i ≡ v) → upd f k x i ≡ v
upd_at f k x i v same other = by (eqb i k)
    (λ e. upd_same f k x i (eqb-true i k e) ∙ same (eqb-true i k e))
    (λ e. upd_other f k x i (eqb-false i k e) ∙ other (eqb-false i k e))

-- ---- block 0 and its bytes
pub head_byte : (l : List ℕ) (i : ℕ) → i < 512 → get_or (block_of 0 l) i 0 ≡ get_or l i 0
head_byte l i h = byte_of 0 i l h ∙ ap (λ (n : ℕ). get_or l n 0) (omega arith)

-- a seal depends on the first 510 bytes only
pub sealed_ext : (m n : List ℕ) → length m ≡ 512 → length n ≡ 512 → ((i : ℕ) → i < 510 → get_or m i 0 ≡ get_or n i 0) → sealed m ≡ sealed n
sealed_ext m n hm hn same =
    let x : ℕ = get_or n 510 0 in
    let y : ℕ = get_or n 511 0 in
    let m1 : List ℕ = set m 510 x in
    let m2 : List ℕ = set m1 511 y in
    let e1 : length m1 ≡ 512 = length-set m 510 x ∙ hm in
    let e2 : length m2 ≡ 512 = length-set m1 511 y ∙ e1 in
    let at : (i : ℕ) → i < length m2 → get_or m2 i 0 ≡ get_or n i 0 = λ i h. by (eqb i 511)
    (λ e. let f : i ≡ 511 = eqb-true i 511 e in
    ap (λ (j : ℕ). get_or m2 j 0) f ∙ get_or-set_same m1 511 y 0 (omega arith) ∙ sym (ap (λ (j : ℕ). get_or n j 0) f))
    (λ e. get_or-set_other m1 511 i y 0 (eqb-false i 511 e) ∙ by (eqb i 510)
    (λ e. let f : i ≡ 510 = eqb-true i 510 e in
    ap (λ (j : ℕ). get_or m1 j 0) f ∙ get_or-set_same m 510 x 0 (omega arith) ∙ sym (ap (λ (j : ℕ). get_or n j 0) f))
    (λ d. let p : i ≢ 511 = eqb-false i 511 e in let q : i ≢ 510 = eqb-false i 510 d in
    get_or-set_other m 510 i x 0 q ∙ same i (omega arith))) in
    sym (sealed_again m x y) ∙ ap sealed (ext_get_or 0 m2 n (e2 ∙ sym hn) at)

-- the bytes of block 0 do not see another block stored
pub put_byte : (l : List ℕ) (k : ℕ) (x : List ℕ) (i : ℕ) → length l ≡ book_length → 1 ≤ k → k < 49 → length x ≡ 512 → i < 512 → get_or (put_block k x l) i 0 ≡ get_or l i 0
put_byte l k x i long one h e g =
    let long49 : length l ≡ 49 * 512 = long in
    let other : 0 ≢ k = λ q. omega arith in
    sym (head_byte (put_block k x l) i g)
    ∙ ap (λ (z : List ℕ). get_or z i 0) (put_other_block 49 k l x h long49 e 0 (omega arith) other)
    ∙ head_byte l i g

-- ---- what stands in a book
pub record Stands (l : List ℕ) (w : ℕ → ℕ) (h : ℕ → Option Content) : Type 0 where
  pub long : length l ≡ book_length
  pub bytes : (i : ℕ) → i < 510 → get_or l i 0 ≡ w i
  pub blocks : (k : ℕ) → k < 48 → block_of (suc k) l ≡ holding (h k)

module _ {l : List ℕ} {w : ℕ → ℕ} {h : ℕ → Option Content} (s : Stands l w h) where
  -- a byte stored in block 0
  pub stands_set : (i v : ℕ) → i < 510 → Stands (set l i v) (upd w i v) h
  unfolding block_of
  stands_set i v b =
      let n = s.long in
      record {
        long = length-set l i v ∙ s.long;
        bytes = λ j g. sym (upd_at w i v j (get_or (set l i v) j 0)
            (λ f. sym (ap (λ (z : ℕ). get_or (set l i v) z 0) f ∙ get_or-set_same l i v 0 (omega arith)))
            (λ d. sym (get_or-set_other l i j v 0 d ∙ s.bytes j g)));
        blocks = λ k g. ap (take 512) (drop-set-lt (suc k * 512) l i v (omega (arith, suc-mul k 512))) ∙ s.blocks k g;
      }

  -- a block stored
  pub stands_put : (j : ℕ) (x : List ℕ) (o : Option Content) → j < 48 → length x ≡ 512 → x ≡ holding o → Stands (put_block (suc j) x l) w (upd h j o)
  stands_put j x o b e is =
      let n = s.long in
      let long49 : length l ≡ 49 * 512 = s.long in
      record {
        long = put_length (suc j) l x (omega arith) e ∙ s.long;
        bytes = λ i g. put_byte l (suc j) x i s.long (omega arith) (omega arith) e (omega arith) ∙ s.bytes i g;
        blocks = λ k g. by (eqb k j)
            (λ q. let f : k ≡ j = eqb-true k j q in
            ap (λ (z : ℕ). block_of (suc z) (put_block (suc j) x l)) f ∙ put_same_block 49 (suc j) l x (omega arith) long49 e ∙ is
            ∙ ap holding (sym (upd_same h j o k f)))
            (λ q. let d : suc k ≢ suc j = λ r. eqb-false k j q (omega arith) in
            put_other_block 49 (suc j) l x (omega arith) long49 e (suc k) (omega arith) d ∙ s.blocks k g
            ∙ ap holding (sym (upd_other h j o k (eqb-false k j q))));
      }

  pub stands_block : (k j : ℕ) (x : List ℕ) (o : Option Content) → k ≡ suc j → j < 48 → length x ≡ 512 → x ≡ holding o → Stands (put_block k x l) w (upd h j o)
  stands_block k j x o at b e is = subst (λ (z : ℕ). Stands (put_block z x l) w (upd h j o)) (sym at) (stands_put j x o b e is)

  -- a block cleared
  pub stands_clear : (k j : ℕ) → k ≡ suc j → j < 48 → Stands (put_block k (holding None) l) w (upd h j None)
  stands_clear k j at b = stands_block k j (holding None) None at b unused_length refl

  -- a block copied over another
  pub stands_copy : (i j : ℕ) → i < 48 → j < 48 → Stands (put_block (suc j) (block_of (suc i) l) l) w (upd h j (h i))
  stands_copy i j p q =
      let n = s.long in
      stands_put j (block_of (suc i) l) (h i) q (block_length_lem (suc i) l (omega arith)) (s.blocks i p)

  pub stands_over : (f k i j : ℕ) → f ≡ suc i → k ≡ suc j → i < 48 → j < 48 → Stands (put_block k (block_of f l) l) w (upd h j (h i))
  stands_over f k i j from to p q =
      subst (λ (z : ℕ). Stands (put_block k (block_of z l) l) w (upd h j (h i))) (sym from)
      (subst (λ (z : ℕ). Stands (put_block z (block_of (suc i) l) l) w (upd h j (h i))) (sym to) (stands_copy i j p q))

  -- the same functions, told otherwise
  pub stands_same : (v : ℕ → ℕ) (g : ℕ → Option Content) → ((i : ℕ) → i < 510 → w i ≡ v i) → ((k : ℕ) → k < 48 → h k ≡ g k) → Stands l v g
  stands_same v g f e =
      record {
        long = s.long;
        bytes = λ i p. s.bytes i p ∙ f i p;
        blocks = λ k p. s.blocks k p ∙ ap holding (e k p);
      }

-- a byte stored in block 0 where a list tells its bytes
pub stands_list : (x : List ℕ) {l : List ℕ} {h : ℕ → Option Content} → Stands l (λ (i : ℕ). get_or x i 0) h → (i v : ℕ) → i < 510 → length x ≡ 512
    → Stands (set l i v) (λ (j : ℕ). get_or (set x i v) j 0) h
stands_list x {l} {h} s i v b e =
    stands_same (stands_set s i v b) (λ (j : ℕ). get_or (set x i v) j 0) h
    (λ j g. upd_at (λ (n : ℕ). get_or x n 0) i v j (get_or (set x i v) j 0)
    (λ f. sym (ap (λ (n : ℕ). get_or (set x i v) n 0) f ∙ get_or-set_same x i v 0 (omega arith)))
    (λ d. sym (get_or-set_other x i j v 0 d)))
    (λ k g. refl)
