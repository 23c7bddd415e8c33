-- Drafts, segments and copies sought in a book's bytes. Assumes nothing.
use Prim.Native.Nat.{ℕ, zero, suc, ◌+◌, ◌*◌, ◌≤◌, ◌<◌}
use native.Mathlib.Omega.{arith}
use mathlib.Core.Path.{◌≡◌, sym, ap, ap₂, ◌∙◌}
use mathlib.Core.Logic.{◌≢◌}
use mathlib.Core.List.{List}
use mathlib.Core.Bool.{Bool, true, false, cond, not}
use Rattle.std.specs.Prelude.{None, Some}
use lib.ListN.{length, get_or}
use lib.Dec.{eqb, leb}
use borrow.Author.Tests.{eqb-true, eqb-false, eq-eqb, ne_eqb, le-leb, lt-leb, not-true, not-false}
use Rattle.laws.proofs.Tests.{by, by_order, impossible, apart}
use Rattle.laws.proofs.Lookups.{get_none}
use Rattle.refusal.specs.declared.Reason.TheVariants.{WrongLength, NotSound, NoDraft, NoSuchSegment, OutOfRange}
use Rattle.refusal.specs.Answer.{and_then, refusal_for, answer_of}
use Rattle.refusal.specs.declared.Refusal.{Refusal}
use Rattle.std.specs.Prelude.{Ok, Err}
use Rattle.blocks.specs.Block.{book_length}
use Rattle.steps.specs.Book.{Draft, closed, at, or_closed, draft_at}
use Rattle.layout.specs.Layout.{copies_of, copies_at, draft_of, book_of}
use Rattle.layout.specs.Tests.{is_sound}
use Rattle.layout.proofs.Parts.{sound_parts, draft_cases}
use Rattle.layout.proofs.Said.{drafts_length, draft_of_lem, segment_of_lem, segment_past, copies_none, copies_one, copies_two}
use Rattle.layout.proofs.Shown.{second_needs}
use Rattle.copies.specs.Admission.{is_open, exists, admission}
use Rattle.copies.specs.Copies.{index_of, block_in, copy_block, paper_copy, Admitted}
use Rattle.copies.specs.declared.Found.TheVariants as found

-- ---- an open draft
module _ (l : List ℕ) where
  far_draft : (d : ℕ) → 4 < d → draft_at (book_of l).drafts d ≡ closed
  far_draft zero h = impossible (omega arith)
  far_draft (suc k) h = ap or_closed (get_none (book_of l).drafts k (omega (arith, drafts_length l)))

  near_draft : (k : ℕ) → k < 4 → is_open (draft_of l k) ≡ not (eqb (get_or l (8 + 4 * k) 0) 0)
  unfolding draft_of
  near_draft k h = by (eqb (get_or l (8 + 4 * k) 0) 0) (λ t. rw t) (λ t. rw t)

  pub open_zero : (d : ℕ) → d < 1 → false ≡ is_open (draft_at (book_of l).drafts d)
  open_zero d h = let e : 0 ≡ d = omega arith in ap (λ (i : ℕ). is_open (draft_at (book_of l).drafts i)) e

  pub open_far : (d : ℕ) → 4 < d → false ≡ is_open (draft_at (book_of l).drafts d)
  open_far d h = sym (ap is_open (far_draft d h))

  pub open_is : (d state : ℕ) → 1 ≤ d → d ≤ 4 → state ≡ get_or l (4 * d + 4) 0 → not (eqb state 0) ≡ is_open (draft_at (book_of l).drafts d)
  open_is zero state h g e = impossible (omega arith)
  open_is (suc k) state h g e =
      let i : 4 * suc k + 4 ≡ 8 + 4 * k = omega arith in
      ap (λ (x : ℕ). not (eqb x 0)) (e ∙ ap (λ (j : ℕ). get_or l j 0) i) ∙ sym (ap is_open (draft_of_lem l k (omega arith)) ∙ near_draft k (omega arith))

  -- ---- a segment that is there
  pub there_zero : (s : ℕ) → s < 1 → false ≡ exists (at (book_of l).segments s)
  there_zero s h = let e : 0 ≡ s = omega arith in ap (λ (i : ℕ). exists (at (book_of l).segments i)) e

  pub there_is : (s count : ℕ) → 1 ≤ s → count ≡ get_or l 4 0 → leb s count ≡ exists (at (book_of l).segments s)
  there_is zero count h e = impossible (omega arith)
  there_is (suc k) count h e =
      by_order k (get_or l 4 0)
      (λ g. le-leb (suc k) count (omega arith) ∙ sym (ap exists (segment_of_lem l k g)))
      (λ g. lt-leb (suc k) count (omega arith) ∙ sym (ap exists (segment_past l k g)))

-- ---- the admission, refusal by refusal
module _ (l : List ℕ) (d : ℕ) (r : Bool) (s : ℕ) where
  pub admit_short : (w : Refusal) → (length l ≡ book_length → ⊥) → w ≡ refusal_for WrongLength 0 → answer_of (Err w) ≡ admission l d r s
  unfolding admission and_then
  admit_short f h e = rw (e, ne_eqb (length l) book_length h)

  module _ (long : length l ≡ book_length) (sound : Bool) (is-sound : sound ≡ is_sound l) where
    pub admit_bad : (w : Refusal) → not sound ≡ true → w ≡ refusal_for NotSound 0 → answer_of (Err w) ≡ admission l d r s
    unfolding admission and_then
    admit_bad f h e = let t : is_sound l ≡ false = sym is-sound ∙ not-true sound h in rw (e, eq-eqb (length l) book_length long, t)

    module _ (good : not sound ≡ false) (opened : Bool) (opened_is : opened ≡ is_open (draft_at (book_of l).drafts d)) where
      t : is_sound l ≡ true
      t = sym is-sound ∙ not-false sound good

      pub admit_shut : (w : Refusal) → not opened ≡ true → w ≡ refusal_for NoDraft 0 → answer_of (Err w) ≡ admission l d r s
      unfolding admission and_then
      admit_shut f h e =
          let u : is_open (draft_at (book_of l).drafts d) ≡ false = sym opened_is ∙ not-true opened h in
          rw (e, eq-eqb (length l) book_length long, t, u)

      module _ (ready : not opened ≡ false) where
        u : is_open (draft_at (book_of l).drafts d) ≡ true
        u = sym opened_is ∙ not-false opened ready

        pub admit_far : (w : Refusal) → not r ≡ true → w ≡ refusal_for OutOfRange 0 → answer_of (Err w) ≡ admission l d r s
        unfolding admission and_then
        admit_far f h e = let w : r ≡ false = not-true r h in rw (e, eq-eqb (length l) book_length long, t, u, w)

        module _ (near : not r ≡ false) (there : Bool) (is-there : there ≡ exists (at (book_of l).segments s)) where
          pub admit_none : (w : Refusal) → not there ≡ true → w ≡ refusal_for NoSuchSegment 0 → answer_of (Err w) ≡ admission l d r s
          unfolding admission and_then
          admit_none f h e =
              let w : r ≡ true = not-false r near in
              let x : exists (at (book_of l).segments s) ≡ false = sym is-there ∙ not-true there h in
              rw (e, eq-eqb (length l) book_length long, t, u, w, x)

          pub admit_all : not there ≡ false → answer_of (Ok tt) ≡ admission l d r s
          unfolding admission and_then
          admit_all h =
              let w : r ≡ true = not-false r near in
              let x : exists (at (book_of l).segments s) ≡ true = sym is-there ∙ not-false there h in
              rw (eq-eqb (length l) book_length long, t, u, w, x)

-- ---- the copy of a segment, by the two numbers
two_copies : (l : List ℕ) (first second k s : ℕ) → 1 ≤ s → (first ≡ 0 → second ≡ 0)
    → index_of s (copies_at l first second k) ≡ cond (eqb s first) (Some 0) (cond (eqb s second) (Some 1) None)
unfolding index_of
two_copies l first second k s h need =
    by (eqb first 0)
    (λ t. let z : first ≡ 0 = eqb-true first 0 t in let y = need z in
    rw (ne_eqb s first (λ q. omega arith), ne_eqb s second (λ q. omega arith), copies_none l first second k z))
    (λ t. let p : first ≢ 0 = eqb-false first 0 t in let f : 1 ≤ first = omega arith in
    by (eqb second 0)
    (λ u. let y : second ≡ 0 = eqb-true second 0 u in
    rw (ne_eqb s second (λ q. omega arith), copies_one l first second k f y))
    (λ u. let q : second ≢ 0 = eqb-false second 0 u in let g : 1 ≤ second = omega arith in
    rw (copies_two l first second k f g) (by (eqb s second) (λ v. rw v) (λ v. rw v))))

module _ (l : List ℕ) where
  taken_is : (k s : ℕ) → k < 4 → 1 ≤ s → is_sound l ≡ true → is_open (draft_of l k) ≡ true
      → index_of s (copies_of (draft_of l k)) ≡ cond (eqb s (get_or l (9 + 4 * k) 0)) (Some 0) (cond (eqb s (get_or l (10 + 4 * k) 0)) (Some 1) None)
  unfolding draft_of
  taken_is k s h g e o =
      let says = draft_cases l (sound_parts l e) k h in
      by (eqb (get_or l (8 + 4 * k) 0) 0)
      (λ t. let f : false ≡ true = rw t at o in apart cc)
      (λ t. rw t (two_copies l (get_or l (9 + 4 * k) 0) (get_or l (10 + 4 * k) 0) (9 + 2 * k) s g (second_needs says)))

  module _ (d s : ℕ) (a : Admitted l d s) where
    admitted_from : 1 ≤ d
    admitted_from = by_order d 1 (λ h. apart (let e = open_zero l d h ∙ a.opened in cc)) (λ h. h)

    admitted_segment : 1 ≤ s
    admitted_segment = by_order s 1 (λ h. apart (let e = there_zero l s h ∙ a.there in cc)) (λ h. h)

  copy_block_is : (d s : ℕ) → Admitted l d s
      → copy_block l d s ≡ block_in d (cond (eqb s (get_or l (4 * d + 5) 0)) (Some 0) (cond (eqb s (get_or l (4 * d + 6) 0)) (Some 1) None))
  unfolding copy_block
  copy_block_is zero s a = let h = admitted_from zero s a in impossible (omega arith)
  copy_block_is (suc k) s a =
      let low : k < 4 = omega (arith, a.four) in
      let o : is_open (draft_of l k) ≡ true = sym (ap is_open (draft_of_lem l k low)) ∙ a.opened in
      let i : 4 * suc k + 5 ≡ 9 + 4 * k = omega arith in
      let j : 4 * suc k + 6 ≡ 10 + 4 * k = omega arith in
      ap (λ (x : Draft). block_in (suc k) (index_of s (copies_of x))) (draft_of_lem l k low)
      ∙ ap (block_in (suc k)) (taken_is k s low (admitted_segment (suc k) s a) a.sound o
      ∙ sym (ap₂ (λ (p q : ℕ). cond (eqb s (get_or l p 0)) (Some 0) (cond (eqb s (get_or l q 0)) (Some 1) None)) i j))

  -- the ways out
  module _ (d s : ℕ) (a : Admitted l d s) (first : ℕ) (is-first : first ≡ get_or l (4 * d + 5) 0) where
    pub find_first : first ≡ s → paper_copy (found.Copy (2 * d + 7)) ≡ copy_block l d s
    find_first e =
        let n : 2 * d + 7 ≡ 7 + 2 * d + 0 = omega arith in
        ap Some n ∙ sym (copy_block_is d s a ∙ rw (eq-eqb s (get_or l (4 * d + 5) 0) (sym e ∙ is-first)))

    module _ (other : first ≡ s → ⊥) (second : ℕ) (is-second : second ≡ get_or l (4 * d + 6) 0) where
      no : s ≡ get_or l (4 * d + 5) 0 → ⊥
      no q = other (is-first ∙ sym q)

      pub find_second : second ≡ s → paper_copy (found.Copy (2 * d + 8)) ≡ copy_block l d s
      find_second e =
          let n : 2 * d + 8 ≡ 7 + 2 * d + 1 = omega arith in
          ap Some n ∙ sym (copy_block_is d s a ∙ rw (ne_eqb s (get_or l (4 * d + 5) 0) no, eq-eqb s (get_or l (4 * d + 6) 0) (sym e ∙ is-second)))

      pub find_none : (second ≡ s → ⊥) → paper_copy found.NotTaken ≡ copy_block l d s
      find_none e =
          sym (copy_block_is d s a ∙ rw (ne_eqb s (get_or l (4 * d + 5) 0) no, ne_eqb s (get_or l (4 * d + 6) 0) (λ q. e (is-second ∙ sym q))))
