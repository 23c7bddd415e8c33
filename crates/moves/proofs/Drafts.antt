-- A draft opened, closed, and given a copy. Assumes nothing.
use mathlib.Core.Path.{◌≡◌, refl, sym, ap, subst, ◌∙◌}
use mathlib.Core.Logic.{◌≢◌}
use mathlib.Core.Bool.{Bool, false}
use mathlib.Core.List.{List, [], ◌∷◌, ◌++◌}
use Rattle.std.specs.Prelude.{None, Some}
use Prim.Native.Nat.{ℕ, zero, suc, ◌+◌, ◌*◌, ◌≤◌, ◌<◌}
use native.Mathlib.Nat.{ne_of_lt}
use native.Mathlib.Omega.{arith}
use lib.ListN.{length, get_or, set, replicate, length-set, length-take, length-drop}
use Rattle.std.specs.Prelude.{slice_get}
use lib.Seq.{sets, set-set, set_comm, get_or-set_same}
use borrow.Rule.Slice.PartMut.{put_mid, mid_of}
use Rattle.laws.proofs.Tests.{impossible}
use Rattle.laws.proofs.Lookups.{get_more, get_last}
use Rattle.codes.specs.Block.{Content}
use Rattle.blocks.specs.Block.{block_of, put_block, book_length}
use Rattle.blocks.proofs.Stored.{put_sets}
use Rattle.blocks.specs.Content.{holding}
use Rattle.steps.specs.Book.{Copy, Draft, closed, working, Book, at, put, draft_at}
use Rattle.steps.specs.Calls.{with_drafts}
use Rattle.layout.specs.Layout.{part_of, draft_bytes, copies_of, held_of, held_in, index_bytes}
use Rattle.layout.specs.Lies.{Lies}
use Rattle.layout.proofs.Stands.{part_copy}
use Rattle.layout.proofs.ForthIndex.{or_closed_lem, index_length}
use Rattle.moves.proofs.Index.{draft_byte}
use Rattle.moves.proofs.Parts.{block_of_copy, held_put, held_new}
use Rattle.moves.proofs.StepsStands.{upd, upd_at, stands_list, stands_clear, stands_copy}
use Rattle.moves.proofs.StepsLies.{parts_in, parts_segment, lies_stands, stands_lies}

-- ---- a byte stored that leaves the draft its copies
module _ (l : List ℕ) (b : Book) (s : Lies l b) (k : ℕ) (h : k < 4) where
  there : k < length b.drafts
  there = omega (arith, s.four)

  pub lies_byte : (j v : ℕ) (y : Draft) → j < 4 → set (draft_bytes (get_or b.drafts k closed)) j v ≡ draft_bytes y → copies_of y ≡ copies_of (get_or b.drafts k closed)
      → Lies (set l (8 + (k * 4 + j)) v) (with_drafts b (set b.drafts k y))
  unfolding held_in
  lies_byte j v y g bytes copies =
      let b' : Book = with_drafts b (set b.drafts k y) in
      stands_lies (stands_list (index_bytes b) (lies_stands l b s) (8 + (k * 4 + j)) v (omega arith) (index_length b s.four s.sixteen)) b'
      (length-set b.drafts k y ∙ s.four) s.sixteen
      (λ i below. ap (λ (z : List ℕ). get_or z i 0) (draft_byte b s.four k j h g v y bytes))
      (λ i below. sym (held_put b k y there (part_of (suc i))
      (λ n e. ap (λ (q : List Copy). held_of (slice_get q n)) (copies ∙ ap copies_of (sym (or_closed_lem b.drafts k))) ∙ ap (held_in b) (sym e))))

pub opened : (l : List ℕ) (b : Book) (d : ℕ) → 1 ≤ d → d ≤ 4 → Lies l b → draft_at b.drafts d ≡ closed
    → Lies (set l (4 + 4 * d) 1) (with_drafts b (put b.drafts d (working [] false)))
opened l b zero h g s e = impossible (omega arith)
opened l b (suc k) h g s e =
    let place : 8 + (k * 4 + 0) ≡ 4 + 4 * suc k = omega arith in
    let c : get_or b.drafts k closed ≡ closed = sym (or_closed_lem b.drafts k) ∙ e in
    subst (λ (i : ℕ). Lies (set l i 1) (with_drafts b (set b.drafts k (working [] false)))) place
    (lies_byte l b s k (omega arith) 0 1 (working [] false) (omega arith) (ap (λ (x : Draft). set (draft_bytes x) 0 1) c) (ap copies_of (sym c)))

-- ---- a draft closed: its four bytes are cleared from the last one on, each time those of a draft
abbrev fresh : Draft → Draft
fresh closed = closed
fresh (working ks stale) = working ks false

abbrev single : Draft → Draft
single closed = closed
single (working [] stale) = working [] false
single (working (q ∷ ks) stale) = working (q ∷ []) false

abbrev empty : Draft → Draft
empty closed = closed
empty (working ks stale) = working [] false

clear_stale : (x : Draft) → set (draft_bytes x) 3 0 ≡ draft_bytes (fresh x)
clear_stale closed = refl
clear_stale (working ks stale) = refl

clear_second : (x : Draft) → set (draft_bytes (fresh x)) 2 0 ≡ draft_bytes (single x)
clear_second closed = refl
clear_second (working [] stale) = refl
clear_second (working (q ∷ ks) stale) = refl

clear_first : (x : Draft) → set (draft_bytes (single x)) 1 0 ≡ draft_bytes (empty x)
clear_first closed = refl
clear_first (working [] stale) = refl
clear_first (working (q ∷ ks) stale) = refl

clear_open : (x : Draft) → set (draft_bytes (empty x)) 0 0 ≡ draft_bytes closed
clear_open closed = refl
clear_open (working ks stale) = refl

module _ (b : Book) (four : length b.drafts ≡ 4) (k : ℕ) (h : k < 4) where
  -- a byte more of the same draft
  draft_again : (j v : ℕ) (y z : Draft) → j < 4 → set (draft_bytes y) j v ≡ draft_bytes z
      → set (index_bytes (with_drafts b (set b.drafts k y))) (8 + (k * 4 + j)) v ≡ index_bytes (with_drafts b (set b.drafts k z))
  draft_again j v y z g e =
      let same : get_or (set b.drafts k y) k closed ≡ y = get_or-set_same b.drafts k y closed (omega (arith, four)) in
      draft_byte (with_drafts b (set b.drafts k y)) (length-set b.drafts k y ∙ four) k j h g v z (ap (λ (x : Draft). set (draft_bytes x) j v) same ∙ e)
      ∙ ap (λ (ds : List Draft). index_bytes (with_drafts b ds)) (set-set b.drafts k y z)

  index_closed : set (set (set (set (index_bytes b) (8 + (k * 4 + 3)) 0) (8 + (k * 4 + 2)) 0) (8 + (k * 4 + 1)) 0) (8 + (k * 4 + 0)) 0 ≡ index_bytes (with_drafts b (set b.drafts k closed))
  index_closed =
      let x : Draft = get_or b.drafts k closed in
      ap (λ (m : List ℕ). set (set (set m (8 + (k * 4 + 2)) 0) (8 + (k * 4 + 1)) 0) (8 + (k * 4 + 0)) 0) (draft_byte b four k 3 h (omega arith) 0 (fresh x) (clear_stale x))
      ∙ ap (λ (m : List ℕ). set (set m (8 + (k * 4 + 1)) 0) (8 + (k * 4 + 0)) 0) (draft_again 2 0 (fresh x) (single x) (omega arith) (clear_second x))
      ∙ ap (λ (m : List ℕ). set m (8 + (k * 4 + 0)) 0) (draft_again 1 0 (single x) (empty x) (omega arith) (clear_first x))
      ∙ draft_again 0 0 (empty x) closed (omega arith) (clear_open x)

-- what the blocks hold: those of another part of the book, and those of the draft's copies
module _ (b : Book) (k : ℕ) (y : Draft) (h : k < length b.drafts) where
  block_other : (i : ℕ) → ((n : ℕ) → suc i ≡ 9 + 2 * k + n → n < 2 → held_of (slice_get (copies_of y) n) ≡ held_of (slice_get (copies_of (get_or b.drafts k closed)) n))
      → parts_in (with_drafts b (set b.drafts k y)) i ≡ parts_in b i
  unfolding held_in
  block_other i same =
      held_put b k y h (part_of (suc i))
      (λ n e. let at : (suc i ≡ 9 + 2 * k + n) × (n < 2) = block_of_copy (suc i) k n e in
      same n at.0 at.1 ∙ ap (λ (q : Draft). held_of (slice_get (copies_of q) n)) (sym (or_closed_lem b.drafts k)) ∙ ap (held_in b) (sym e))

  block_copy : (i n : ℕ) → suc i ≡ 9 + 2 * k + n → k < 4 → n < 2 → parts_in (with_drafts b (set b.drafts k y)) i ≡ held_of (slice_get (copies_of y) n)
  block_copy i n e g t =
      ap (held_in (with_drafts b (set b.drafts k y))) (ap part_of e ∙ part_copy k n g t) ∙ held_new b k y h n

module _ (l : List ℕ) (b : Book) (s : Lies l b) (k : ℕ) (h : k < 4) where
  in_drafts : k < length b.drafts
  in_drafts = omega (arith, s.four)

  b₂ : Book
  b₂ = with_drafts b (set b.drafts k closed)

  -- what the blocks hold when the draft's two are cleared
  both : (i : ℕ) → upd (upd (parts_in b) (8 + 2 * k) None) (9 + 2 * k) None i ≡ parts_in b₂ i
  unfolding b₂
  both i =
      upd_at (upd (parts_in b) (8 + 2 * k) None) (9 + 2 * k) None i (parts_in b₂ i)
      (λ e. sym (block_copy b k closed in_drafts i 1 (omega arith) h (omega arith)))
      (λ d. upd_at (parts_in b) (8 + 2 * k) None i (parts_in b₂ i)
      (λ e. sym (block_copy b k closed in_drafts i 0 (omega arith) h (omega arith)))
      (λ e. sym (block_other b k closed in_drafts i (λ n at small. impossible (no d e n at small)))))
    where
      no : i ≢ 9 + 2 * k → i ≢ 8 + 2 * k → (n : ℕ) → suc i ≡ 9 + 2 * k + n → n < 2 → ⊥
      no d e zero at small = e (omega arith)
      no d e (suc zero) at small = d (omega arith)
      no d e (suc (suc n)) at small = omega arith

  l₄ : List ℕ
  l₄ = set (set (set (set l (8 + (k * 4 + 3)) 0) (8 + (k * 4 + 2)) 0) (8 + (k * 4 + 1)) 0) (8 + (k * 4 + 0)) 0

  lies_closed : Lies (put_block (suc (9 + 2 * k)) (holding None) (put_block (suc (8 + 2 * k)) (holding None) l₄)) b₂
  unfolding b₂ l₄
  lies_closed =
      let x : List ℕ = index_bytes b in
      let x₁ : List ℕ = set x (8 + (k * 4 + 3)) 0 in
      let x₂ : List ℕ = set x₁ (8 + (k * 4 + 2)) 0 in
      let x₃ : List ℕ = set x₂ (8 + (k * 4 + 1)) 0 in
      let w : length x ≡ 512 = index_length b s.four s.sixteen in
      let w₁ : length x₁ ≡ 512 = length-set x (8 + (k * 4 + 3)) 0 ∙ w in
      let w₂ : length x₂ ≡ 512 = length-set x₁ (8 + (k * 4 + 2)) 0 ∙ w₁ in
      let w₃ : length x₃ ≡ 512 = length-set x₂ (8 + (k * 4 + 1)) 0 ∙ w₂ in
      let s₁ = stands_list x (lies_stands l b s) (8 + (k * 4 + 3)) 0 (omega arith) w in
      let s₂ = stands_list x₁ s₁ (8 + (k * 4 + 2)) 0 (omega arith) w₁ in
      let s₃ = stands_list x₂ s₂ (8 + (k * 4 + 1)) 0 (omega arith) w₂ in
      let s₄ = stands_list x₃ s₃ (8 + (k * 4 + 0)) 0 (omega arith) w₃ in
      let s₅ = stands_clear s₄ (suc (8 + 2 * k)) (8 + 2 * k) refl (omega arith) in
      let s₆ = stands_clear s₅ (suc (9 + 2 * k)) (9 + 2 * k) refl (omega arith) in
      stands_lies s₆ b₂ (length-set b.drafts k closed ∙ s.four) s.sixteen
      (λ i below. ap (λ (z : List ℕ). get_or z i 0) (index_closed b s.four k h)) (λ i below. both i)

-- stores one after another, from the last one on
set_sets : (l : List ℕ) (i j v : ℕ) (vs : List ℕ) → i + length vs ≤ j → set (sets l i vs) j v ≡ sets (set l j v) i vs
set_sets l i j v [] h = refl
set_sets l i j v (x ∷ xs) h =
    set_sets (set l i x) (suc i) j v xs (omega arith) ∙ ap (λ (z : List ℕ). sets z (suc i) xs) (set_comm l i j x v (ne_of_lt (omega arith)))

four_back : (l : List ℕ) (i w x y z : ℕ) → sets l i (w ∷ x ∷ y ∷ z ∷ []) ≡ set (set (set (set l (i + 3) z) (i + 2) y) (i + 1) x) i w
four_back l i w x y z =
    let e₁ : suc i ≡ i + 1 = omega arith in
    let e₂ : suc (suc i) ≡ i + 2 = omega arith in
    let e₃ : suc (suc (suc i)) ≡ i + 3 = omega arith in
    rw (← e₁, ← e₂, ← e₃)
    (set_sets l i (suc (suc (suc i))) z (w ∷ x ∷ y ∷ []) (omega arith)
    ∙ set_sets (set l (suc (suc (suc i))) z) i (suc (suc i)) y (w ∷ x ∷ []) (omega arith)
    ∙ set_sets (set (set l (suc (suc (suc i))) z) (suc (suc i)) y) i (suc i) x (w ∷ []) (omega arith))

-- the draft's four bytes cleared, and its two blocks
closed_draft : (l : List ℕ) (b : Book) (d : ℕ) → 1 ≤ d → d ≤ 4 → Lies l b
    → Lies (put_block (8 + 2 * d) (holding None) (put_block (7 + 2 * d) (holding None) (set (set (set (set l (7 + 4 * d) 0) (6 + 4 * d) 0) (5 + 4 * d) 0) (4 + 4 * d) 0)))
    (with_drafts b (put b.drafts d closed))
unfolding l₄ b₂
closed_draft l b zero h g s = impossible (omega arith)
closed_draft l b (suc k) h g s =
    let e₆ : 8 + 2 * suc k ≡ suc (9 + 2 * k) = omega arith in
    let e₅ : 7 + 2 * suc k ≡ suc (8 + 2 * k) = omega arith in
    let e₃ : 7 + 4 * suc k ≡ 8 + (k * 4 + 3) = omega arith in
    let e₂ : 6 + 4 * suc k ≡ 8 + (k * 4 + 2) = omega arith in
    let e₁ : 5 + 4 * suc k ≡ 8 + (k * 4 + 1) = omega arith in
    let e₀ : 4 + 4 * suc k ≡ 8 + (k * 4 + 0) = omega arith in
    rw (e₆, e₅, e₃, e₂, e₁, e₀) (lies_closed l b s k (omega arith))

-- as the code leaves it
pub closed_done : (l z m₁ m₂ : List ℕ) (d n : ℕ) → length l ≡ book_length → 1 ≤ d → d ≤ 4 → n ≡ 4 → z ≡ replicate (length (mid_of (4 + 4 * d) n l)) 0
    → m₁ ≡ put_block (7 + 2 * d) (holding None) (put_mid (4 + 4 * d) n l z) → m₂ ≡ put_block (8 + 2 * d) (holding None) m₁
    → (b : Book) → Lies l b → Lies m₂ (with_drafts b (put b.drafts d closed))
closed_done l z m₁ m₂ d n long h g four zeros e₁ e₂ b s =
    let x₁ : 4 + 4 * d + 1 ≡ 5 + 4 * d = omega arith in
    let x₂ : 4 + 4 * d + 2 ≡ 6 + 4 * d = omega arith in
    let x₃ : 4 + 4 * d + 3 ≡ 7 + 4 * d = omega arith in
    let w : length (mid_of (4 + 4 * d) n l) ≡ 4 = omega (arith, length-take {A = ℕ}, length-drop {A = ℕ}) in
    rw (e₂, e₁, zeros, w, four)
    (rw (put_sets l (replicate 4 0) (4 + 4 * d) 4 refl (omega arith) ∙ four_back l (4 + 4 * d) 0 0 0 0, x₁, x₂, x₃)
    (closed_draft l b d h g s))

-- ---- a copy taken
-- its byte
take_byte : (ks : List Copy) (stale : Bool) (q : Copy) → length ks < 2 → set (draft_bytes (working ks stale)) (1 + length ks) q.segment ≡ draft_bytes (working (ks ++ (q ∷ [])) stale)
take_byte [] stale q h = refl
take_byte (k ∷ []) stale q h = refl
take_byte (k ∷ m ∷ ks) stale q h = impossible (omega arith)

module _ (l : List ℕ) (b : Book) (s : Lies l b) (k : ℕ) (n : ℕ) (m : ℕ) (ks : List Copy) (stale : Bool) (c : Content) where
  module _ (h : k < 4) (two : n < 2) (eight : m < 8) (is : get_or b.drafts k closed ≡ working ks stale) (long : length ks ≡ n) (holds : slice_get b.segments m ≡ Some c) where
    q : Copy
    q = record { segment = suc m; held = c }

    y : Draft
    y = working (ks ++ (q ∷ [])) stale

    b₃ : Book
    b₃ = with_drafts b (set b.drafts k y)

    within : k < length b.drafts
    within = omega (arith, s.four)

    new_block : (i : ℕ) → i ≡ 8 + 2 * k + n → parts_in b₃ i ≡ Some c
    unfolding b₃ y q
    new_block i e =
        block_copy b k y within i n (omega arith) h two
        ∙ ap held_of (ap (slice_get (ks ++ (q ∷ []))) (sym long) ∙ get_last ks q)

    old_block : (i : ℕ) → i ≢ 8 + 2 * k + n → parts_in b₃ i ≡ parts_in b i
    unfolding b₃ y
    old_block i other =
        block_other b k y within i
        (λ j at small.
        ap held_of (get_more ks q j (λ e. other (omega (arith, e, long, at))))
        ∙ ap (λ (x : Draft). held_of (slice_get (copies_of x) j)) (sym is))

    index_taken : set (index_bytes b) (8 + (k * 4 + (1 + n))) (suc m) ≡ index_bytes b₃
    unfolding b₃ y q
    index_taken =
        draft_byte b s.four k (1 + n) h (omega arith) (suc m) y
        (ap (λ (x : Draft). set (draft_bytes x) (1 + n) (suc m)) is
        ∙ ap (λ (j : ℕ). set (draft_bytes (working ks stale)) (1 + j) (suc m)) (sym long) ∙ take_byte ks stale q (omega (arith, long, two)))

    lies_taken : Lies (set (put_block (suc (8 + 2 * k + n)) (block_of (suc m) l) l) (8 + (k * 4 + (1 + n))) (suc m)) b₃
    unfolding b₃ y q
    lies_taken =
        let s₁ = stands_copy (lies_stands l b s) m (8 + 2 * k + n) (omega arith) (omega arith) in
        let s₂ = stands_list (index_bytes b) s₁ (8 + (k * 4 + (1 + n))) (suc m) (omega arith) (index_length b s.four s.sixteen) in
        stands_lies s₂ b₃ (length-set b.drafts k y ∙ s.four) s.sixteen
        (λ i below. ap (λ (z : List ℕ). get_or z i 0) index_taken)
        (λ i below. upd_at (parts_in b) (8 + 2 * k + n) (parts_in b m) i (parts_in b₃ i)
        (λ e. parts_segment b m eight ∙ holds ∙ sym (new_block i e)) (λ d. sym (old_block i d)))

-- block s copied to the draft's next one, and its number stored
taken_at : (l : List ℕ) (b : Book) (d n s : ℕ) → 1 ≤ d → d ≤ 4 → n < 2 → 1 ≤ s → s ≤ 8 → Lies l b
    → (ks : List Copy) (stale : Bool) (c : Content) → draft_at b.drafts d ≡ working ks stale → length ks ≡ n → at b.segments s ≡ Some c
    → Lies (set (put_block (7 + 2 * d + n) (block_of s l) l) (5 + 4 * d + n) s) (with_drafts b (put b.drafts d (working (ks ++ (record { segment = s; held = c } ∷ [])) stale)))
unfolding b₃ y q
taken_at l b zero n s h g two h₁ h₈ lies ks stale c is long holds = impossible (omega arith)
taken_at l b (suc k) n zero h g two h₁ h₈ lies ks stale c is long holds = impossible (omega arith)
taken_at l b (suc k) n (suc m) h g two h₁ h₈ lies ks stale c is long holds =
    let e : 7 + 2 * suc k + n ≡ suc (8 + 2 * k + n) = omega arith in
    let f : 5 + 4 * suc k + n ≡ 8 + (k * 4 + (1 + n)) = omega arith in
    rw (e, f) (lies_taken l b lies k n m ks stale c (omega arith) two (omega arith) (sym (or_closed_lem b.drafts k) ∙ is) long holds)

-- as the code leaves it
pub taken : (l m : List ℕ) (d n s : ℕ) → m ≡ put_block (7 + 2 * d + n) (block_of s l) l → 1 ≤ d → d ≤ 4 → n < 2 → 1 ≤ s → s ≤ 8
    → (b : Book) → Lies l b → (ks : List Copy) (stale : Bool) (c : Content) → draft_at b.drafts d ≡ working ks stale → length ks ≡ n → at b.segments s ≡ Some c
    → Lies (set m (5 + 4 * d + n) s) (with_drafts b (put b.drafts d (working (ks ++ (record { segment = s; held = c } ∷ [])) stale)))
taken l m d n s e h g two one eight b lies ks stale c is long holds = rw e (taken_at l b d n s h g two one eight lies ks stale c is long holds)
