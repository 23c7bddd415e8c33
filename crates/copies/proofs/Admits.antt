-- From the admission of a work to what the call on the book's bytes says. Assumes nothing.
use Prim.Native.Nat.{ℕ, zero, suc, ◌+◌, ◌*◌, ◌≤◌, ◌<◌}
use native.Mathlib.Omega.{arith}
use mathlib.Core.Path.{◌≡◌, refl, sym, ap, ap₂, subst, ◌∙◌}
use mathlib.Core.List.{List}
use mathlib.Core.Bool.{Bool, true, false}
use Rattle.std.specs.Prelude.{Option, None, Some, Ok, Err}
use lib.ListN.{length, get_or, get_or-eq_default}
use lib.Dec.{eqb}
use borrow.Author.Tests.{eqb-true, eqb-false}
use Rattle.laws.proofs.Tests.{by, by_order, apart}
use Rattle.refusal.specs.declared.Reason.TheVariants.{WrongLength, NotSound, NoDraft, NoSuchSegment, OutOfRange, NotTaken}
use Rattle.refusal.specs.Answer.{Answer, ok, no, refused, must, and_then, answer_of}
use Rattle.refusal.specs.Numbers.{number_of}
use Rattle.refusal.specs.declared.Refusal.{Refusal}
use Rattle.codes.specs.Places.{capacity}
use Rattle.codes.specs.Block.{Content}
use Rattle.blocks.specs.Block.{book_length, block_count, number_at, block_of, put_block, Bytes}
use Rattle.blocks.specs.Content.{holding, content_of}
use Rattle.blocks.proofs.Contents as contents
use Rattle.blocks.proofs.Contents.{content_said, content_used, sound_true}
use Rattle.steps.specs.Book.{Copy, Draft, closed, working, at, draft_at}
use Rattle.steps.specs.Calls.{Edit, Work, editing, Call, on, BookAnswer, in_range, copy_of, book_rule}
use Rattle.steps.proofs.Order.{on_closed, on_far, on_gone}
use Rattle.steps.proofs.Leaving.{edited}
use Rattle.layout.specs.Layout.{copies_of, book_of}
use Rattle.layout.specs.Tests.{is_sound}
use Rattle.layout.specs.Rule.{on_bytes}
use Rattle.layout.proofs.Rules.{rule_short, rule_unsound, bytes_refused, book_refused}
use Rattle.layout.proofs.ForthIndex.{or_closed_lem}
use Rattle.copies.specs.Admission.{is_open, exists, admission}
use Rattle.copies.specs.Copies.{index_of, block_in, copy_block, Admitted}
use Rattle.copies.proofs.Finds.{open_far}
use Rattle.copies.proofs.Copies.{Indexed, index_some, index_none}
use Rattle.copies.proofs.Works.{Base, base_of, absent_answer, absent_bytes, copy_answer, copy_kept, copy_stored, copy_two, copy_fine, copy_block_lem}

-- ---- an open draft, a segment that is there
pub record Opened (ds : List Draft) (d : ℕ) : Type 0 where
  pub k : ℕ
  pub is : d ≡ suc k
  pub low : k < length ds
  pub ks : List Copy
  pub stale : Bool
  pub here : get_or ds k closed ≡ working ks stale
  pub there : draft_at ds d ≡ working ks stale

working_of : (x : Draft) → is_open x ≡ true → (ks : List Copy) × (stale : Bool) × (x ≡ working ks stale)
working_of closed e = apart cc
working_of (working ks stale) e = (ks, stale, refl)

pub opened_at : (ds : List Draft) (d : ℕ) → is_open (draft_at ds d) ≡ true → Opened ds d
opened_at ds zero e = apart cc
opened_at ds (suc k) e =
    let w = working_of (draft_at ds (suc k)) e in
    let here : get_or ds k closed ≡ working w.0 w.1 = sym (or_closed_lem ds k) ∙ w.2 in
    record {
      k = k;
      is = refl;
      low = by_order k (length ds) (λ h. h) (λ h. apart (let z : closed ≡ working w.0 w.1 = sym (get_or-eq_default ds closed h) ∙ here in cc));
      ks = w.0;
      stale = w.1;
      here = here;
      there = w.2;
    }

pub some_of : (o : Option Content) → exists o ≡ true → (c : Content) × (o ≡ Some c)
some_of None e = apart cc
some_of (Some c) e = (c, refl)

-- ---- the copy's block, and every work on it
pub record Works (l : List ℕ) (d s k : ℕ) : Type 0 where
  pub long : length l ≡ book_length
  pub block : k < block_count
  pub few : get_or (block_of k l) 4 0 ≤ capacity
  pub fine : contents.Sound (number_at l 0) (content_of (block_of k l))
  pub answer : (e : Edit) → in_range (editing e) ≡ true → (on_bytes l (on d s (editing e))).0 ≡ (edited (number_at l 0) e (content_of (block_of k l))).0
  pub kept : (e : Edit) → in_range (editing e) ≡ true → (edited (number_at l 0) e (content_of (block_of k l))).1 ≡ content_of (block_of k l) → (on_bytes l (on d s (editing e))).1 ≡ l
  pub stored : (e : Edit) → in_range (editing e) ≡ true → length (edited (number_at l 0) e (content_of (block_of k l))).1.places ≤ capacity
      → (on_bytes l (on d s (editing e))).1 ≡ put_block k (holding (Some (edited (number_at l 0) e (content_of (block_of k l))).1)) l

issue_is : (l : List ℕ) → (book_of l).issue ≡ number_at l 0
unfolding book_of
issue_is l = refl

module _ (l : List ℕ) (base : Base l) (s : ℕ) (c₀ : Content) (there : at (book_of l).segments s ≡ Some c₀) (k : ℕ) (ks : List Copy) (stale : Bool) (low : k < 4)
    (opened : get_or (book_of l).drafts k closed ≡ working ks stale) (n : ℕ) (v : Indexed s ks n) where
  two : n < 2
  two = copy_two l base k ks stale low opened s c₀ there n v

  good : contents.Sound (number_at l 0) v.held
  good = subst (λ (i : ℕ). contents.Sound i v.held) (issue_is l) (sound_true (book_of l).issue v.held (copy_fine l base k ks stale low opened s c₀ there n v))

  block_is : block_of (9 + 2 * k + n) l ≡ holding (Some v.held)
  block_is = copy_block_lem l base k ks stale low opened s c₀ there n v

  said : v.held ≡ content_of (block_of (9 + 2 * k + n) l)
  said = sym (ap content_of block_is ∙ content_said (number_at l 0) v.held good)

  pub works_copy : Works l (suc k) s (9 + 2 * k + n)
  works_copy =
      record {
        long = base.lies.long;
        block = omega (arith, two);
        few = subst (λ (z : List ℕ). get_or z 4 0 ≤ capacity) (sym block_is) (content_used (number_at l 0) v.held good).few;
        fine = subst (contents.Sound (number_at l 0)) said good;
        answer = λ e r. subst (λ (c : Content). (on_bytes l (on (suc k) s (editing e))).0 ≡ (edited (number_at l 0) e c).0) said
            (copy_answer l base k ks stale low opened s c₀ there e r v.held v.copied ∙ ap (λ (i : ℕ). (edited i e v.held).0) (issue_is l));
        kept = λ e r q.
            copy_kept l base k ks stale low opened s c₀ there e r v.held v.copied
            (ap (λ (i : ℕ). (edited i e v.held).1) (issue_is l) ∙ ap (λ (c : Content). (edited (number_at l 0) e c).1) said ∙ q ∙ sym said);
        stored = λ e r q.
            let same : (edited (book_of l).issue e v.held).1 ≡ (edited (number_at l 0) e (content_of (block_of (9 + 2 * k + n) l))).1 =
            ap (λ (i : ℕ). (edited i e v.held).1) (issue_is l) ∙ ap (λ (c : Content). (edited (number_at l 0) e c).1) said in
            copy_stored l base k ks stale low opened s c₀ there e r v.held v.copied n two v (subst (λ (c : Content). length c.places ≤ capacity) (sym same) q)
            ∙ ap (λ (c : Content). put_block (9 + 2 * k + n) (holding (Some c)) l) same;
      }

-- the block that was found
pub works_at : (l : List ℕ) (d s k : ℕ) → Base l → Admitted l d s → copy_block l d s ≡ Some k → Works l d s k
unfolding copy_block
works_at l d s k base a e =
    let o = opened_at (book_of l).drafts d a.opened in
    let c = some_of (at (book_of l).segments s) a.there in
    let f : block_in d (index_of s o.ks) ≡ Some k = ap (λ (x : Draft). block_in d (index_of s (copies_of x))) (sym o.there) ∙ e in
    behind base o c (index_of s o.ks) refl f
  where
    behind : Base l → (o : Opened (book_of l).drafts d) → (c : Content) × (at (book_of l).segments s ≡ Some c) → (i : Option ℕ) → index_of s o.ks ≡ i → block_in d i ≡ Some k → Works l d s k
    behind base o c None q f = apart cc
    behind base o c (Some n) q f =
        let z : 7 + 2 * d + n ≡ k = cc in
        let y : 9 + 2 * o.k + n ≡ k = omega (arith, o.is) in
        subst (λ (i : ℕ). Works l i s k) (sym o.is)
        (subst (Works l (suc o.k) s) y
        (works_copy l base s c.0 c.1 o.k o.ks o.stale (omega (arith, o.low, base.lies.four)) o.here n (index_some s o.ks n q)))

-- ---- what a refused call says: the bytes stay
pub record Same (l : List ℕ) (a : BookAnswer) (c : Call) : Type 0 where
  pub answer : a ≡ (on_bytes l c).0
  pub bytes : l ≡ (on_bytes l c).1

-- 16
pub absent_at : (l : List ℕ) (d s : ℕ) (e : Edit) → Base l → Admitted l d s → in_range (editing e) ≡ true → copy_block l d s ≡ None → Same l (refused NotTaken 0) (on d s (editing e))
unfolding copy_block
absent_at l d s e base a r q =
    let o = opened_at (book_of l).drafts d a.opened in
    let c = some_of (at (book_of l).segments s) a.there in
    let f : block_in d (index_of s o.ks) ≡ None = ap (λ (x : Draft). block_in d (index_of s (copies_of x))) (sym o.there) ∙ q in
    let absent : copy_of s o.ks ≡ None = index_none s o.ks (behind (index_of s o.ks) f) in
    let low : o.k < 4 = omega (arith, o.low, base.lies.four) in
    subst (λ (i : ℕ). Same l (refused NotTaken 0) (on i s (editing e))) (sym o.is)
    (record {
      answer = sym (absent_answer l base o.k o.ks o.stale low o.here s c.0 c.1 e r absent);
      bytes = sym (absent_bytes l base o.k o.ks o.stale low o.here s c.0 c.1 e r absent);
    })
  where
    behind : (i : Option ℕ) → block_in d i ≡ None → i ≡ None
    behind None f = refl
    behind (Some n) f = apart cc

-- ---- 1, 12, 13, 24, 15
-- a refusal of the admission as one of a call
as_answer : {n p m q : ℕ} → ◌≡◌ {A = Answer Unit} (no n p) (no m q) → ◌≡◌ {A = BookAnswer} (no n p) (no m q)
as_answer e = let a = ap number_of e in let b = ap place_of e in ap₂ no a b
  where
    number_of : Answer Unit → ℕ
    number_of (ok x) = 0
    number_of (no n p) = n

    place_of : Answer Unit → ℕ
    place_of (ok x) = 0
    place_of (no n p) = p

-- what is asked of a sound book: its draft, the range, the segment
abbrev asked : Draft → Bool → Option Content → Answer Unit
asked x r h = and_then (must (is_open x) NoDraft 0) λ _. and_then (must r OutOfRange 0) λ _. must (exists h) NoSuchSegment 0

module _ (l : List ℕ) (d s : ℕ) where
  short_asks : (r : Bool) → eqb (length l) book_length ≡ false → admission l d r s ≡ refused WrongLength 0
  unfolding admission and_then
  short_asks r t = rw t

  bad_asks : (r : Bool) → eqb (length l) book_length ≡ true → is_sound l ≡ false → admission l d r s ≡ refused NotSound 0
  unfolding admission and_then
  bad_asks r t u = rw (t, u)

  sound_asks : (r : Bool) → eqb (length l) book_length ≡ true → is_sound l ≡ true → admission l d r s ≡ asked (draft_at (book_of l).drafts d) r (at (book_of l).segments s)
  unfolding admission and_then
  sound_asks r t u = rw (t, u)

  stays_is : (c : Call) (a : BookAnswer) → on_bytes l c ≡ (a, l) → Same l a c
  stays_is c a e = record { answer = sym (ap (λ (x : BookAnswer × List ℕ). x.0) e); bytes = sym (ap (λ (x : BookAnswer × List ℕ). x.1) e) }

  short_is : (c : Call) → eqb (length l) book_length ≡ false → Same l (refused WrongLength 0) c
  short_is c t = stays_is c (refused WrongLength 0) (bytes_refused l c 1 0 (rule_short l c (eqb-false (length l) book_length t)))

  bad_is : (c : Call) → eqb (length l) book_length ≡ true → is_sound l ≡ false → Same l (refused NotSound 0) c
  bad_is c t u = stays_is c (refused NotSound 0) (bytes_refused l c 12 0 (rule_unsound l c (eqb-true (length l) book_length t) u))

  module _ (base : Base l) where
    -- what a refused call on sound bytes says
    says_is : (w : Work) (n p : ℕ) → book_rule (book_of l) (on d s w) ≡ no n p → Same l (no n p) (on d s w)
    says_is w n p e = stays_is (on d s w) (no n p) (book_refused l (on d s w) base.lies.long base.sound n p e)

    -- the draft, the range and the segment in their order
    asked_is : (w : Work) (n p : ℕ) (x : Draft) (r : Bool) (h : Option Content) → draft_at (book_of l).drafts d ≡ x → in_range w ≡ r → at (book_of l).segments s ≡ h
        → asked x r h ≡ no n p → Same l (no n p) (on d s w)
    unfolding and_then
    asked_is w n p closed r h ex er eh e = subst (λ (a : BookAnswer). Same l a (on d s w)) (as_answer e) (says_is w 13 0 (on_closed (book_of l) d s w ex))
    asked_is w n p (working ks stale) false h ex er eh e = subst (λ (a : BookAnswer). Same l a (on d s w)) (as_answer e) (says_is w 24 0 (on_far (book_of l) d ks stale ex s w er))
    asked_is w n p (working ks stale) true None ex er eh e = subst (λ (a : BookAnswer). Same l a (on d s w)) (as_answer e) (says_is w 15 0 (on_gone (book_of l) d ks stale ex s w er eh))
    asked_is w n p (working ks stale) true (Some c) ex er eh e = apart cc

  -- what the admission refuses
  pub refused_at_lem : (w : Work) (r : Refusal) → Bytes l → answer_of (Err r) ≡ admission l d (in_range w) s → Same l (refused r.reason r.place) (on d s w)
  refused_at_lem w r y e =
      by (eqb (length l) book_length)
      (λ t. by (is_sound l)
      (λ u. asked_is (base_of l y u) w (number_of r.reason) r.place (draft_at (book_of l).drafts d) (in_range w) (at (book_of l).segments s) refl refl refl
      (sym (e ∙ sound_asks (in_range w) t u)))
      (λ u. subst (λ (a : BookAnswer). Same l a (on d s w)) (as_answer (sym (e ∙ bad_asks (in_range w) t u))) (bad_is (on d s w) t u)))
      (λ t. subst (λ (a : BookAnswer). Same l a (on d s w)) (as_answer (sym (e ∙ short_asks (in_range w) t))) (short_is (on d s w) t))

  -- what it accepts
  accepted_of : (x : Draft) (r : Bool) (h : Option Content) → asked x r h ≡ ok tt → (is_open x ≡ true) × (r ≡ true) × (exists h ≡ true)
  unfolding and_then
  accepted_of closed r h e = apart cc
  accepted_of (working ks stale) false h e = apart cc
  accepted_of (working ks stale) true None e = apart cc
  accepted_of (working ks stale) true (Some c) e = (refl, refl, refl)

  pub admitted_at : (r : Bool) → answer_of (Ok tt) ≡ admission l d r s → Admitted l d s
  admitted_at r e =
      by (eqb (length l) book_length)
      (λ t. by (is_sound l)
      (λ u. let a = accepted_of (draft_at (book_of l).drafts d) r (at (book_of l).segments s) (sym (e ∙ sound_asks r t u)) in
      record {
        sound = u;
        opened = a.0;
        there = a.2;
        long = eqb-true (length l) book_length t;
        four = by_order 4 d (λ h. apart (let q = open_far l d h ∙ a.0 in cc)) (λ h. h);
      })
      (λ u. let f = e ∙ bad_asks r t u in apart cc))
      (λ t. let f = e ∙ short_asks r t in apart cc)

  pub ranged_at : (r : Bool) → answer_of (Ok tt) ≡ admission l d r s → r ≡ true
  ranged_at r e =
      by (eqb (length l) book_length)
      (λ t. by (is_sound l)
      (λ u. (accepted_of (draft_at (book_of l).drafts d) r (at (book_of l).segments s) (sym (e ∙ sound_asks r t u))).1)
      (λ u. let f = e ∙ bad_asks r t u in apart cc))
      (λ t. let f = e ∙ short_asks r t in apart cc)
