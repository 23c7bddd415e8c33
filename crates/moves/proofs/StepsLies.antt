-- From a book that lies in bytes to what stands in them, and back. Assumes nothing.
use mathlib.Core.Path.{◌≡◌, refl, sym, ap, ap₂, ◌∙◌, subst}
use mathlib.Core.Logic.{◌≢◌}
use mathlib.Core.List.{List, ◌∷◌, ◌++◌}
use Rattle.std.specs.Prelude.{Option, Some}
use Prim.Native.Nat.{ℕ, zero, suc, ◌+◌, ◌*◌, ◌-◌, ◌/◌, ◌%◌, ◌≤◌, ◌<◌}
use native.Mathlib.Omega.{arith}
use lib.ListN.{length, get_or, set, replicate, length-set}
use Rattle.std.specs.Prelude.{slice_get}
use lib.Dec.{eqb}
use borrow.Author.Tests.{eqb-true, eqb-false}
use Rattle.laws.proofs.Tests.{by, by_order, impossible}
use Rattle.laws.proofs.Lookups.{get_same, get_other}
use Rattle.codes.specs.Block.{Content}
use Rattle.blocks.specs.Block.{bytes32, flat, block_of, put_block}
use Rattle.blocks.specs.Content.{holding}
use Rattle.blocks.proofs.Blocks.{block_length_lem}
use Rattle.checks.proofs.Seals.{sealed_at}
use Rattle.steps.specs.Book.{Copy, Book, put}
use Rattle.layout.specs.Layout.{copy, before, part_of, held_in, segment_of, held_of, or_none, draft_bytes, back, index_bytes, block_bytes}
use Rattle.layout.specs.Lies.{Lies}
use Rattle.layout.proofs.Stands.{part_segment, part_copy, part_before}
use Rattle.layout.proofs.ForthIndex.{index_length, index_steps, index_mid}
use Rattle.moves.specs.Undo.{with_segments, with_kept}
use Rattle.moves.proofs.StepsStands.{Stands, head_byte, sealed_ext, upd, upd_other, upd_at, stands_copy}
use Rattle.moves.proofs.StepsIndex.{index_low, index_step, slot_of}

-- ---- the parts that blocks are for
copy_block_lem : (k : ℕ) → 8 ≤ k → k < 16 → part_of (suc k) ≡ copy ((k - 8) / 2) ((k - 8) % 2)
copy_block_lem k g h =
    let e : suc k ≡ 9 + 2 * ((k - 8) / 2) + (k - 8) % 2 = omega arith in
    ap part_of e ∙ part_copy ((k - 8) / 2) ((k - 8) % 2) (omega arith) (omega arith)

before_block : (k : ℕ) → 16 ≤ k → part_of (suc k) ≡ before ((k - 16) / 2) ((k - 16) % 2)
before_block k h =
    let e : suc k ≡ 17 + 2 * ((k - 16) / 2) + (k - 16) % 2 = omega arith in
    ap part_of e ∙ part_before ((k - 16) / 2) ((k - 16) % 2) (omega arith)

-- what the blocks after block 0 hold, counted from 0, and the bytes of block 0
abbrev pub parts_in : Book → ℕ → Option Content
parts_in b k = held_in b (part_of (suc k))

abbrev pub bytes_in : Book → ℕ → ℕ
bytes_in b i = get_or (index_bytes b) i 0

pub parts_segment : (b : Book) (k : ℕ) → k < 8 → parts_in b k ≡ slice_get b.segments k
unfolding held_in
parts_segment b k h = ap (held_in b) (part_segment k h)

pub parts_past : (b : Book) (t : ℕ) → parts_in b (16 + t) ≡ held_of (slot_of b.history.kept t)
unfolding held_in slot_of
parts_past b t =
    let e : 16 + t - 16 ≡ t = omega arith in
    ap (held_in b) (before_block (16 + t) (omega arith) ∙ ap (λ (m : ℕ). before (m / 2) (m % 2)) e)

-- blocks of segments and drafts do not depend on the steps
pub parts_low : (b : Book) (steps : List (List Copy)) (k : ℕ) → k < 16 → parts_in b k ≡ parts_in (with_kept b steps) k
unfolding held_in
parts_low b steps k h = by_order k 8
    (λ g. ap (held_in b) (part_segment k g) ∙ sym (ap (held_in (with_kept b steps)) (part_segment k g)))
    (λ g. ap (held_in b) (copy_block_lem k g h) ∙ sym (ap (held_in (with_kept b steps)) (copy_block_lem k g h)))

-- blocks of drafts and steps do not depend on the segments
pub parts_high : (b : Book) (cs : List Content) (k : ℕ) → 8 ≤ k → parts_in b k ≡ parts_in (with_segments b cs) k
unfolding held_in
parts_high b cs k h = by_order k 16
    (λ g. ap (held_in b) (copy_block_lem k h g) ∙ sym (ap (held_in (with_segments b cs)) (copy_block_lem k h g)))
    (λ g. ap (held_in b) (before_block k g) ∙ sym (ap (held_in (with_segments b cs)) (before_block k g)))

-- ---- from a book that lies there, and back
pub lies_stands : (l : List ℕ) (b : Book) → Lies l b → Stands l (bytes_in b) (parts_in b)
unfolding block_bytes
lies_stands l b s =
    record {
      long = s.long;
      bytes = λ i h.
          sym (head_byte l i (omega arith)) ∙ sym (sealed_at (block_of 0 l) i h) ∙ ap (λ (z : List ℕ). get_or z i 0) s.index
          ∙ sealed_at (index_bytes b) i h;
      blocks = λ k h. s.blocks k h;
    }

pub stands_lies : {l : List ℕ} {w : ℕ → ℕ} {h : ℕ → Option Content} → Stands l w h → (b : Book) → length b.drafts ≡ 4 → length b.history.kept ≤ 16
    → ((i : ℕ) → i < 510 → w i ≡ bytes_in b i) → ((k : ℕ) → k < 48 → h k ≡ parts_in b k) → Lies l b
unfolding block_bytes
stands_lies {l} s b four sixteen bytes blocks =
    let n = s.long in
    record {
      long = s.long;
      index = sealed_ext (block_of 0 l) (index_bytes b) (block_length_lem 0 l (omega arith)) (index_length b four sixteen)
          (λ i g. head_byte l i (omega arith) ∙ s.bytes i g ∙ bytes i g);
      blocks = λ k g. s.blocks k g ∙ ap holding (blocks k g);
      four = four;
      sixteen = sixteen;
    }

-- byte 24 says how many steps there are
pub lies_count : (l : List ℕ) (b : Book) → Lies l b → get_or l 24 0 ≡ length b.history.kept
lies_count l b s = (lies_stands l b s).bytes 24 (omega arith) ∙ index_steps b s.four

-- ---- a book with other steps
module _ (b : Book) (four : length b.drafts ≡ 4) (steps : List (List Copy)) where
  -- bytes 0..31 but for the count
  index_kept : (i : ℕ) → i < 32 → i ≢ 24 → bytes_in b i ≡ bytes_in (with_kept b steps) i
  index_kept i h d = by_order i 24
      (λ g. index_low b four i g ∙ sym (index_low (with_kept b steps) four i g))
      (λ g. index_mid b four i (omega arith) h ∙ sym (index_mid (with_kept b steps) four i (omega arith) h))

  pub steps_lie : {l : List ℕ} {w : ℕ → ℕ} {h : ℕ → Option Content} → Stands l w h → length steps ≤ 16 → w 24 ≡ length steps
      → ((i : ℕ) → i < 32 → i ≢ 24 → w i ≡ bytes_in b i) → ((t : ℕ) → t < 478 → w (32 + t) ≡ segment_of (slot_of steps t))
      → ((k : ℕ) → k < 16 → h k ≡ parts_in b k) → ((t : ℕ) → t < 32 → h (16 + t) ≡ held_of (slot_of steps t))
      → Lies l (with_kept b steps)
  steps_lie {l} {w} {h} s sixteen count low bytes parts past = stands_lies s (with_kept b steps) four sixteen
      (λ i g. by_order i 32
      (λ p. by (eqb i 24)
      (λ e. let f : i ≡ 24 = eqb-true i 24 e in
      ap w f ∙ count ∙ sym (index_steps (with_kept b steps) four) ∙ sym (ap (bytes_in (with_kept b steps)) f))
      (λ e. low i p (eqb-false i 24 e) ∙ index_kept i p (eqb-false i 24 e)))
      (λ p. let e : i ≡ 32 + (i - 32) = omega arith in
      ap w e ∙ bytes (i - 32) (omega arith) ∙ sym (index_step (with_kept b steps) four (i - 32)) ∙ sym (ap (bytes_in (with_kept b steps)) e)))
      (λ k g. by_order k 16
      (λ p. parts k p ∙ parts_low b steps k p)
      (λ p. let e : k ≡ 16 + (k - 16) = omega arith in
      ap h e ∙ past (k - 16) (omega arith) ∙ sym (parts_past (with_kept b steps) (k - 16)) ∙ sym (ap (parts_in (with_kept b steps)) e)))

-- ---- one step changed: the place of step r, and how many there are
slot_other : (old steps : List (List Copy)) (r : ℕ) → ((s : ℕ) → s ≢ r → slice_get steps s ≡ slice_get old s)
    → (t : ℕ) → t ≢ 2 * r → t ≢ 2 * r + 1 → slot_of old t ≡ slot_of steps t
unfolding slot_of
slot_other old steps r same t p q =
    let d : t / 2 ≢ r = λ e. omega arith in
    ap (λ (o : Option (List Copy)). slice_get (or_none o) (t % 2)) (sym (same (t / 2) d))

slot_here : (steps : List (List Copy)) (r j t : ℕ) → j < 2 → t ≡ 2 * r + j → slice_get (or_none (slice_get steps r)) j ≡ slot_of steps t
unfolding slot_of
slot_here steps r j t h e =
    let p : r ≡ t / 2 = omega arith in
    let q : j ≡ t % 2 = omega arith in
    ap₂ (λ (s i : ℕ). slice_get (or_none (slice_get steps s)) i) p q

module _ (b : Book) (four : length b.drafts ≡ 4) (steps : List (List Copy)) (r : ℕ) (room : r < 16)
    (same : (s : ℕ) → s ≢ r → slice_get steps s ≡ slice_get b.history.kept s) where
  pub one_step : {l : List ℕ} (n x y : ℕ) (p q : Option Content)
      → Stands l (upd (upd (upd (bytes_in b) 24 n) (32 + 2 * r) x) (33 + 2 * r) y) (upd (upd (parts_in b) (16 + 2 * r) p) (17 + 2 * r) q)
      → n ≡ length steps → length steps ≤ 16
      → x ≡ segment_of (slice_get (or_none (slice_get steps r)) 0) → y ≡ segment_of (slice_get (or_none (slice_get steps r)) 1)
      → p ≡ held_of (slice_get (or_none (slice_get steps r)) 0) → q ≡ held_of (slice_get (or_none (slice_get steps r)) 1)
      → Lies l (with_kept b steps)
  one_step n x y p q s count sixteen ex ey ep eq =
      let w : ℕ → ℕ = bytes_in b in
      let w1 : ℕ → ℕ = upd w 24 n in
      let w2 : ℕ → ℕ = upd w1 (32 + 2 * r) x in
      let h : ℕ → Option Content = parts_in b in
      let h1 : ℕ → Option Content = upd h (16 + 2 * r) p in
      steps_lie b four steps s sixteen
      (upd_at w2 (33 + 2 * r) y 24 (length steps) (λ e. impossible (omega arith)) (λ _. upd_at w1 (32 + 2 * r) x 24 (length steps) (λ e. impossible (omega arith))
      (λ _. upd_at w 24 n 24 (length steps) (λ _. count) (λ d. impossible (d refl)))))
      (λ i g d. upd_at w2 (33 + 2 * r) y i (w i) (λ e. impossible (omega arith)) (λ _. upd_at w1 (32 + 2 * r) x i (w i) (λ e. impossible (omega arith))
      (λ _. upd_other w 24 n i d)))
      (λ t g. upd_at w2 (33 + 2 * r) y (32 + t) (segment_of (slot_of steps t))
      (λ e. ey ∙ ap segment_of (slot_here steps r 1 t (omega arith) (omega arith)))
      (λ d1. upd_at w1 (32 + 2 * r) x (32 + t) (segment_of (slot_of steps t))
      (λ e. ex ∙ ap segment_of (slot_here steps r 0 t (omega arith) (omega arith)))
      (λ d2.
      let f1 : t ≢ 2 * r + 1 = λ e. d1 (omega arith) in
      let f2 : t ≢ 2 * r = λ e. d2 (omega arith) in
      let f3 : 32 + t ≢ 24 = λ e. omega arith in
      upd_other w 24 n (32 + t) f3 ∙ index_step b four t ∙ ap segment_of (slot_other b.history.kept steps r same t f2 f1))))
      (λ k g. upd_at h1 (17 + 2 * r) q k (h k) (λ e. impossible (omega arith)) (λ _. upd_at h (16 + 2 * r) p k (h k) (λ e. impossible (omega arith)) (λ _. refl)))
      (λ t g. upd_at h1 (17 + 2 * r) q (16 + t) (held_of (slot_of steps t))
      (λ e. eq ∙ ap held_of (slot_here steps r 1 t (omega arith) (omega arith)))
      (λ d1. upd_at h (16 + 2 * r) p (16 + t) (held_of (slot_of steps t))
      (λ e. ep ∙ ap held_of (slot_here steps r 0 t (omega arith) (omega arith)))
      (λ d2.
      let f1 : t ≢ 2 * r + 1 = λ e. d1 (omega arith) in
      let f2 : t ≢ 2 * r = λ e. d2 (omega arith) in
      parts_past b t ∙ ap held_of (slot_other b.history.kept steps r same t f2 f1))))

-- ---- a segment's block stored
segments_index : (b : Book) (j : ℕ) (c : Content) → index_bytes b ≡ index_bytes (with_segments b (set b.segments j c))
unfolding index_bytes
segments_index b j c =
    ap (λ (n : ℕ). (bytes32 b.issue ++ (n ∷ replicate 3 0)) ++ (flat draft_bytes b.drafts ++ back b)) (sym (length-set b.segments j c))

pub segment_put : (l : List ℕ) (b : Book) (from s : ℕ) (c : Content) → 1 ≤ from → from < 49 → 1 ≤ s → s ≤ 8
    → Lies l b → held_in b (part_of from) ≡ Some c → s ≤ length b.segments → Lies (put_block s (block_of from l) l) (with_segments b (put b.segments s c))
segment_put l b zero s c low high one eight lies held there = impossible (omega arith)
segment_put l b (suc i) zero c low high one eight lies held there = impossible (omega arith)
segment_put l b (suc i) (suc j) c low high one eight lies held there =
    let cs : List Content = set b.segments j c in
    let new : Book = with_segments b cs in
    let h : ℕ → Option Content = parts_in b in
    stands_lies (stands_copy (lies_stands l b lies) i j (omega arith) (omega arith)) new lies.four lies.sixteen
    (λ k g. ap (λ (z : List ℕ). get_or z k 0) (segments_index b j c))
    (λ k g. upd_at h j (h i) k (parts_in new k)
    (λ e. held ∙ sym (get_same b.segments j c (omega arith)) ∙ sym (parts_segment new j (omega arith)) ∙ ap (parts_in new) (sym e))
    (λ d. by_order k 8
    (λ p. parts_segment b k p ∙ sym (get_other b.segments j k c d) ∙ sym (parts_segment new k p))
    (λ p. parts_high b cs k p)))

-- as the code leaves it
pub put_segment_done : (l m : List ℕ) (from s : ℕ) → m ≡ put_block s (block_of from l) l → 9 ≤ from → from < 49 → 1 ≤ s → s ≤ 8
    → (b : Book) → Lies l b → (c : Content) → held_in b (part_of from) ≡ Some c → s ≤ length b.segments → Lies m (with_segments b (put b.segments s c))
put_segment_done l m from s e low high one eight b lies c held there =
    subst (λ (z : List ℕ). Lies z (with_segments b (put b.segments s c))) (sym e) (segment_put l b from s c (omega arith) high one eight lies held there)
