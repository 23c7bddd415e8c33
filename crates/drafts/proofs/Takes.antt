-- How many segments a draft has taken, and the ways out of `take`. Assumes nothing.
use Rattle.std.specs.Prelude.{Option, None, Some, Result, Ok, Err}
use Prim.Native.Nat.{ℕ, zero, suc, ◌+◌, ◌*◌, ◌≤◌, ◌<◌}
use native.Mathlib.Omega.{arith}
use mathlib.Core.Path.{◌≡◌, refl, sym, ap, ap₂, ◌∙◌}
use mathlib.Core.List.{List, [], ◌∷◌, ◌++◌}
use mathlib.Core.Bool.{Bool, true, false}
use lib.ListN.{length, get_or}
use borrow.Author.Tests.{le-ltb, lt-ltb}
use Rattle.laws.proofs.Tests.{by_order, impossible, apart}
use Rattle.refusal.specs.declared.Reason.TheVariants.{TakenAlready, TwoTaken}
use Rattle.refusal.specs.declared.Refusal.{Refusal}
use Rattle.refusal.specs.Answer.{no, refusal_for, answer_by, answer_of}
use Rattle.codes.specs.Block.{Content}
use Rattle.blocks.specs.Block.{book_length, Bytes}
use Rattle.steps.specs.Book.{Copy, Draft, working, Book, at, put, draft_at}
use Rattle.steps.specs.Calls.{on, taking, done, has, with_drafts, book_rule}
use Rattle.steps.proofs.Order.{on_again, on_full, on_taken}
use Rattle.steps.proofs.Agree.{copy_none}
use Rattle.layout.specs.Layout.{copies_of, copies_at, bytes_of, book_of}
use Rattle.layout.specs.Tests.{is_sound}
use Rattle.layout.specs.Rule.{value_said, Does}
use Rattle.layout.specs.Lies.{Lies}
use Rattle.layout.specs.declared.Reply.{Reply}
use Rattle.layout.specs.declared.Reply.TheVariants as reply
use Rattle.layout.proofs.Parts.{sound_parts}
use Rattle.layout.proofs.Rules.{does_step, does_refused}
use Rattle.layout.proofs.Said.{draft_of_lem, segment_past, copies_none, copies_one, copies_two}
use Rattle.layout.proofs.Shown.{draft_copies}
use Rattle.copies.specs.Admission.{exists, admission}
use Rattle.copies.specs.Copies.{index_of, block_in, copy_block, paper_copy, Admitted}
use Rattle.copies.specs.declared.Found.{Found}
use Rattle.copies.specs.declared.Found.TheVariants as found
use Rattle.copies.proofs.Copies.{index_some, index_none}
use Rattle.copies.proofs.Finds.{open_zero, there_zero}
use Rattle.copies.proofs.Works.{Base, base_of}
use Rattle.copies.proofs.Admits.{Opened, opened_at, some_of, admitted_at}

-- ---- how many segments a draft has taken
copies_are : (l : List ℕ) (d : ℕ) → 1 ≤ d → d ≤ 4 → is_sound l ≡ true
    → copies_of (draft_at (book_of l).drafts d) ≡ copies_at l (get_or l (4 * d + 5) 0) (get_or l (4 * d + 6) 0) (7 + 2 * d)
copies_are l zero h g e = impossible (omega arith)
copies_are l (suc k) h g e =
    let low : k < 4 = omega arith in
    let i : 9 + 4 * k ≡ 4 * suc k + 5 = omega arith in
    let j : 10 + 4 * k ≡ 4 * suc k + 6 = omega arith in
    let m : 9 + 2 * k ≡ 7 + 2 * suc k = omega arith in
    ap copies_of (draft_of_lem l k low) ∙ draft_copies l k (sound_parts l e) low
    ∙ ap₂ (λ (p q : ℕ). copies_at l (get_or l p 0) (get_or l q 0) (9 + 2 * k)) i j
    ∙ ap (copies_at l (get_or l (4 * suc k + 5) 0) (get_or l (4 * suc k + 6) 0)) m

module _ (l : List ℕ) (d : ℕ) (from : 1 ≤ d) (to : d ≤ 4) (sound : is_sound l ≡ true) (first : ℕ) (is-first : first ≡ get_or l (4 * d + 5) 0) where
  are : copies_of (draft_at (book_of l).drafts d) ≡ copies_at l (get_or l (4 * d + 5) 0) (get_or l (4 * d + 6) 0) (7 + 2 * d)
  are = copies_are l d from to sound

  pub count_none : first ≡ 0 → 0 ≡ length (copies_of (draft_at (book_of l).drafts d))
  count_none e =
      sym (ap (λ (ks : List Copy). length ks) (are ∙ copies_none l (get_or l (4 * d + 5) 0) (get_or l (4 * d + 6) 0) (7 + 2 * d) (sym is-first ∙ e)))

  module _ (some_IsFirst : first ≡ 0 → ⊥) (second : ℕ) (is-second : second ≡ get_or l (4 * d + 6) 0) where
    first_from : 1 ≤ get_or l (4 * d + 5) 0
    first_from = by_order (get_or l (4 * d + 5) 0) 1 (λ h. impossible (some_IsFirst (omega (arith, is-first)))) (λ h. h)

    pub count_one : second ≡ 0 → 1 ≡ length (copies_of (draft_at (book_of l).drafts d))
    count_one e =
        sym (ap (λ (ks : List Copy). length ks) (are ∙ copies_one l (get_or l (4 * d + 5) 0) (get_or l (4 * d + 6) 0) (7 + 2 * d) first_from (sym is-second ∙ e)))

    pub count_two : (second ≡ 0 → ⊥) → 2 ≡ length (copies_of (draft_at (book_of l).drafts d))
    count_two h =
        let g : 1 ≤ get_or l (4 * d + 6) 0 = by_order (get_or l (4 * d + 6) 0) 1 (λ k. impossible (h (omega (arith, is-second)))) (λ k. k) in
        sym (ap (λ (ks : List Copy). length ks) (are ∙ copies_two l (get_or l (4 * d + 5) 0) (get_or l (4 * d + 6) 0) (7 + 2 * d) first_from g))

-- ---- what an admitted work may rely on
segment_to : (l : List ℕ) (s : ℕ) → is_sound l ≡ true → exists (at (book_of l).segments s) ≡ true → s ≤ 8
segment_to l zero e x = omega arith
segment_to l (suc k) e x =
    by_order k (get_or l 4 0)
    (λ h. let g = (sound_parts l e).eight in omega arith)
    (λ h. apart (let q = sym (ap exists (segment_past l k h)) ∙ x in cc))

module _ (l : List ℕ) (d s : ℕ) (v : Result Unit Refusal) (is : v ≡ Ok tt) (says : answer_of v ≡ admission l d true s) where
  pub take_admitted : Admitted l d s
  take_admitted = admitted_at l d s true (sym (ap answer_of is) ∙ says)

  pub take_long : length l ≡ book_length
  take_long = take_admitted.long

  pub take_sound : is_sound l ≡ true
  take_sound = take_admitted.sound

  pub take_from : 1 ≤ d
  take_from = by_order d 1 (λ h. apart (let e = open_zero l d h ∙ take_admitted.opened in cc)) (λ h. h)

  pub take_to : d ≤ 4
  take_to = take_admitted.four

  pub take_segment_from : 1 ≤ s
  take_segment_from = by_order s 1 (λ h. apart (let e = there_zero l s h ∙ take_admitted.there in cc)) (λ h. h)

  pub take_segment_to : s ≤ 8
  take_segment_to = segment_to l s take_admitted.sound take_admitted.there

-- ---- what a take does, by the draft's copies
module _ (l : List ℕ) (base : Base l) (long : length l ≡ book_length) (d s : ℕ) (o : Opened (book_of l).drafts d) (c : Content) (there : at (book_of l).segments s ≡ Some c) where
  stays : (n p : ℕ) (r : Result Reply Refusal) → book_rule (book_of l) (on d s taking) ≡ no n p → answer_by value_said r ≡ no n p → Does l l (on d s taking) r
  stays n p r e q = does_refused l (on d s taking) r long base.sound n p e q

  copy_there : has s o.ks ≡ true → Does l l (on d s taking) (Err (refusal_for TakenAlready 0))
  copy_there e = stays 17 0 (Err (refusal_for TakenAlready 0)) (on_again (book_of l) d o.ks o.stale o.there s c there e) refl

  two_there : has s o.ks ≡ false → 2 ≤ length o.ks → Does l l (on d s taking) (Err (refusal_for TwoTaken 0))
  two_there e h =
      stays 18 0 (Err (refusal_for TwoTaken 0)) (on_full (book_of l) d o.ks o.stale o.there s c there e (le-ltb (length o.ks) 2 h)) refl

  copied : has s o.ks ≡ false → length o.ks < 2 → (z : List ℕ)
      → z ≡ bytes_of (with_drafts (book_of l) (put (book_of l).drafts d (working (o.ks ++ (record { segment = s; held = c } ∷ [])) o.stale)))
      → Does l z (on d s taking) (Ok reply.Done)
  copied e h z q =
      let new : List Copy = o.ks ++ (record { segment = s; held = c } ∷ []) in
      does_step l z (on d s taking) (Ok reply.Done) long base.sound done (with_drafts (book_of l) (put (book_of l).drafts d (working new o.stale)))
      (on_taken (book_of l) d o.ks o.stale o.there s c there e (lt-ltb (length o.ks) 2 h)) refl q

-- ---- the ways out
-- the copy that was sought
block_some : (d k : ℕ) (i : Option ℕ) → block_in d i ≡ Some k → (n : ℕ) × (i ≡ Some n)
block_some d k None e = apart cc
block_some d k (Some n) e = (n, refl)

block_none : (d : ℕ) (i : Option ℕ) → block_in d i ≡ None → i ≡ None
block_none d None e = refl
block_none d (Some n) e = apart cc

module _ (l : List ℕ) (y : Bytes l) (d s : ℕ) (v : Result Unit Refusal) (is : v ≡ Ok tt) (says : answer_of v ≡ admission l d true s)
    (f : Found) (is_at : paper_copy f ≡ copy_block l d s) where
  a : Admitted l d s
  a = take_admitted l d s v is says

  base : Base l
  base = base_of l y a.sound

  o : Opened (book_of l).drafts d
  o = opened_at (book_of l).drafts d a.opened

  c : (c : Content) × (at (book_of l).segments s ≡ Some c)
  c = some_of (at (book_of l).segments s) a.there

  sought : paper_copy f ≡ block_in d (index_of s o.ks)
  unfolding copy_block
  sought = is_at ∙ ap (λ (x : Draft). block_in d (index_of s (copies_of x))) o.there

  -- 17
  pub take_again : (k : ℕ) (w : Refusal) → f ≡ found.Copy k → w ≡ refusal_for TakenAlready 0 → Does l l (on d s taking) (Err w)
  take_again k w q e =
      let b = block_some d k (index_of s o.ks) (sym sought ∙ ap paper_copy q) in
      let i = index_some s o.ks b.0 b.1 in
      rw e (copy_there l base a.long d s o c.0 c.1 i.named)

  module _ (q : f ≡ found.NotTaken) (n : ℕ) (is-n : n ≡ length (copies_of (draft_at (book_of l).drafts d))) where
    absent : has s o.ks ≡ false
    absent = copy_none s o.ks (index_none s o.ks (block_none d (index_of s o.ks) (sym sought ∙ ap paper_copy q)))

    count : n ≡ length o.ks
    count = is-n ∙ ap (λ (x : Draft). length (copies_of x)) o.there

    -- 18
    pub take_full : (w : Refusal) → 2 ≤ n → w ≡ refusal_for TwoTaken 0 → Does l l (on d s taking) (Err w)
    take_full w h e = rw e (two_there l base a.long d s o c.0 c.1 absent (omega (arith, count)))

    pub take_does : n < 2 → (m : List ℕ)
        → ((b : Book) → Lies l b → (ks : List Copy) (stale : Bool) (c : Content) → draft_at b.drafts d ≡ working ks stale → length ks ≡ n
        → at b.segments s ≡ Some c → Lies m (with_drafts b (put b.drafts d (working (ks ++ (record { segment = s; held = c } ∷ [])) stale))))
        → (z : List ℕ) → ((b : Book) → Lies m b → z ≡ bytes_of b) → Does l z (on d s taking) (Ok reply.Done)
    take_does h m took z sealed =
        let after : Book = with_drafts (book_of l) (put (book_of l).drafts d (working (o.ks ++ (record { segment = s; held = c.0 } ∷ [])) o.stale)) in
        copied l base a.long d s o c.0 c.1 absent (omega (arith, count)) z
        (sealed after (took (book_of l) base.lies o.ks o.stale c.0 o.there (sym count) c.1))
