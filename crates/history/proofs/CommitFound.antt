-- What a commit finds in the bytes of a draft are its changes. Assumes nothing.
use mathlib.Core.Path.{◌≡◌, refl, sym, ap, ap₂, ◌∙◌, subst}
use mathlib.Core.Logic.{◌≢◌}
use mathlib.Core.Bool.{Bool, true, false, cond, not}
use mathlib.Core.List.{List, [], ◌∷◌}
use Rattle.std.specs.Prelude.{Option, Some}
use Prim.Native.Nat.{ℕ, zero, suc, ◌+◌, ◌*◌, ◌≤◌, ◌<◌}
use native.Mathlib.Omega.{arith}
use lib.ListN.{length, get_or}
use Rattle.std.specs.Prelude.{slice_get}
use lib.Dec.{eqb, ltb}
use borrow.Author.Tests.{eq-eqb, ne_eqb, eqb-true, lt-ltb, le-ltb}
use Rattle.laws.proofs.Tests.{by, by_order, apart, impossible, and_left, and_right, same_test}
use Rattle.laws.proofs.Lookups.{get_some}
use Rattle.laws.proofs.Lists.{all_get, all_head, all_tail}
use Rattle.codes.specs.Block.{Content}
use Rattle.blocks.specs.Block.{block_of, same_list}
use Rattle.blocks.specs.Content.{holding}
use Rattle.blocks.proofs.Contents.{same_list_lem, same_refl, holding_one}
use Rattle.steps.specs.Book.{Copy, Draft, closed, working, Book, at, draft_at}
use Rattle.steps.specs.Calls.{same_content, insert_copy, changes}
use Rattle.layout.specs.Layout.{draft_bytes, segment_of, copies_of, held_of, held_in, part_of}
use Rattle.layout.specs.Sound.{Fine, FineCopy, FineTaken, Sound}
use Rattle.layout.specs.Lies.{Lies}
use Rattle.layout.proofs.ForthIndex.{or_closed_lem}
use Rattle.layout.proofs.Stands.{part_copy}
use Rattle.layout.proofs.ForthParts.{blank}
use Rattle.layout.proofs.ForthLies.{lies_draft, lies_segment, lies_copy}
use Rattle.history.specs.declared.Found.{Found}
use Rattle.history.specs.declared.Found.TheVariants as found
use Rattle.history.specs.Changing.{Placing, Placings, AllPlaced, differing, picked, changes_in, Stands, FindsOne, FindsTwo, Finds}

-- ---- the test of contents
same_self : (c : Content) → same_content (Some c) c ≡ true
unfolding same_content
same_self c = rw (eq-eqb c.purge c.purge refl) (same_refl c.places)

same_true : (c e : Content) → same_content (Some c) e ≡ true → c ≡ e
unfolding same_content
same_true c e t =
    let p : c.purge ≡ e.purge = eqb-true c.purge e.purge (and_left (eqb c.purge e.purge) (same_list c.places e.places) t) in
    let q : c.places ≡ e.places = same_list_lem c.places e.places (and_right (eqb c.purge e.purge) (same_list c.places e.places) t) in
    λ i. record { purge = p i; places = q i }

-- blocks are the same where the contents are
pub same_blocks_is : (issue : ℕ) (x y : List ℕ) (c e : Content) → Fine issue c → Fine issue e → x ≡ holding (Some c) → y ≡ holding (Some e) → same_list x y ≡ same_content (Some c) e
same_blocks_is issue x y c e f g p q =
    same_test (same_list x y) (same_content (Some c) e)
    (λ t.
    let h : c ≡ e = holding_one issue c e f g (sym p ∙ same_list_lem x y t ∙ q) in
    ap (λ (z : Content). same_content (Some z) e) h ∙ same_self e)
    (λ t.
    let h : c ≡ e = same_true c e t in
    let r : x ≡ y = p ∙ ap (λ (z : Content). holding (Some z)) h ∙ sym q in
    ap (λ (z : List ℕ). same_list z y) r ∙ same_refl y)

-- of a copy and its segment
module _ (l : List ℕ) (b : Book) (lies : Lies l b) (sound : Sound b) where
  decides : (s : ℕ) (e : Content) (k : ℕ) → 1 ≤ s → s ≤ length b.segments → Fine b.issue e → block_of k l ≡ holding (Some e)
      → same_list (block_of s l) (block_of k l) ≡ same_content (at b.segments s) e
  decides zero e k h g f p = impossible (omega arith)
  decides (suc n) e k h g f p =
      let c : Content = get_or b.segments n blank in
      let q : slice_get b.segments n ≡ Some c = get_some blank b.segments n (omega arith) in
      same_blocks_is b.issue (block_of (suc n) l) (block_of k l) c e (all_get blank n sound.contents (omega arith)) f
      (lies_segment l b lies n (omega (arith, sound.eight)) ∙ ap holding q) p
      ∙ ap (λ (o : Option Content). same_content o e) (sym q)

  pub differing_is : (q : Copy) (k : ℕ) → FineCopy b.issue (length b.segments) q → block_of k l ≡ holding (Some q.held)
      → differing l q.segment k ≡ not (same_content (at b.segments q.segment) q.held)
  unfolding differing
  differing_is q k f p = let h = f.from in rw (ne_eqb q.segment 0 (λ e. omega arith)) (ap not (decides q.segment q.held k f.from f.to f.fine p))

-- no segment does not differ
pub differing_none : (l : List ℕ) (s k : ℕ) → s ≡ 0 → differing l s k ≡ false
unfolding differing
differing_none l s k e = rw (eq-eqb s 0 e)

-- ---- by which copies differ
-- a test and its opposite
not_same : (t u : Bool) → t ≡ not u → u ≡ true → t ≡ false
not_same t u e f = e ∙ ap not f

not_other : (t u : Bool) → t ≡ not u → u ≡ false → t ≡ true
not_other t u e f = e ∙ ap not f

finds_single : (b : Book) (q : Copy) (i : ℕ) → Stands b q.segment i q.held → FindsOne b q.segment i (q ∷ [])
finds_single b q i st = record { content = q.held; stands = st; are = refl }

finds_both : (b : Book) (q p : Copy) (i j : ℕ) → Stands b q.segment i q.held → Stands b p.segment j p.held
    → FindsTwo b q.segment i p.segment j (q ∷ p ∷ [])
finds_both b q p i j st st2 = record { content = q.held; content2 = p.held; stands = st; stands2 = st2; are = refl }

-- a draft without copies, with one, with two
module _ (b : Book) where
  pub finds_0 : (s t : Bool) (x i y j : ℕ) → s ≡ false → t ≡ false → Finds b (picked s t x i y j) (changes b.segments [])
  unfolding picked changes
  finds_0 s t x i y j e f = rw (e, f) refl

  pub finds_1 : (q : Copy) (s t : Bool) (i y j : ℕ) → s ≡ not (same_content (at b.segments q.segment) q.held) → t ≡ false → Stands b q.segment i q.held
      → Finds b (picked s t q.segment i y j) (changes b.segments (q ∷ []))
  unfolding picked changes insert_copy
  finds_1 q s t i y j e f st =
      by (same_content (at b.segments q.segment) q.held)
      (λ h. rw (not_same s (same_content (at b.segments q.segment) q.held) e h, f, h) refl)
      (λ h. rw (not_other s (same_content (at b.segments q.segment) q.held) e h, f, h) (finds_single b q i st))

  pub finds_2 : (q p : Copy) (s t : Bool) (i j : ℕ) → s ≡ not (same_content (at b.segments q.segment) q.held) → t ≡ not (same_content (at b.segments p.segment) p.held)
      → Stands b q.segment i q.held → Stands b p.segment j p.held
      → Finds b (picked s t q.segment i p.segment j) (changes b.segments (q ∷ p ∷ []))
  unfolding picked changes insert_copy
  finds_2 q p s t i j e f st st2 =
      by (same_content (at b.segments q.segment) q.held)
      (λ h. by (same_content (at b.segments p.segment) p.held)
      (λ g. rw (not_same s (same_content (at b.segments q.segment) q.held) e h, not_same t (same_content (at b.segments p.segment) p.held) f g, h, g) refl)
      (λ g. rw (not_same s (same_content (at b.segments q.segment) q.held) e h, not_other t (same_content (at b.segments p.segment) p.held) f g, h, g) (finds_single b p j st2)))
      (λ h. by (same_content (at b.segments p.segment) p.held)
      (λ g. rw (not_other s (same_content (at b.segments q.segment) q.held) e h, not_same t (same_content (at b.segments p.segment) p.held) f g, h, g) (finds_single b q i st))
      (λ g. by (ltb q.segment p.segment)
      (λ o. rw (not_other s (same_content (at b.segments q.segment) q.held) e h, not_other t (same_content (at b.segments p.segment) p.held) f g, h, g, o) (finds_both b q p i j st st2))
      (λ o. rw (not_other s (same_content (at b.segments q.segment) q.held) e h, not_other t (same_content (at b.segments p.segment) p.held) f g, h, g, o) (finds_both b p q j i st2 st))))

-- ---- in the bytes of a draft, counted from 0
module _ (l : List ℕ) (b : Book) (lies : Lies l b) (sound : Sound b) (d : ℕ) (high : d < 4) (ks : List Copy)
    (isOpen : draft_at b.drafts (suc d) ≡ working ks false) where
  draft_here : get_or b.drafts d closed ≡ working ks false
  draft_here = sym (or_closed_lem b.drafts d) ∙ isOpen

  -- the numbers of its segments
  first_is : get_or l (5 + 4 * suc d) 0 ≡ segment_of (slice_get ks 0)
  first_is =
      let e : 5 + 4 * suc d ≡ 8 + 4 * d + 1 = omega arith in
      ap (λ (j : ℕ). get_or l j 0) e ∙ lies_draft l b lies d 1 high (omega arith) ∙ ap (λ (x : Draft). get_or (draft_bytes x) 1 0) draft_here

  second_is : get_or l (6 + 4 * suc d) 0 ≡ segment_of (slice_get ks 1)
  second_is =
      let e : 6 + 4 * suc d ≡ 8 + 4 * d + 2 = omega arith in
      ap (λ (j : ℕ). get_or l j 0) e ∙ lies_draft l b lies d 2 high (omega arith) ∙ ap (λ (x : Draft). get_or (draft_bytes x) 2 0) draft_here

  -- its blocks
  block_is : (k j : ℕ) → j < 2 → k ≡ 9 + 2 * d + j → block_of k l ≡ holding (held_of (slice_get ks j))
  block_is k j h e =
      ap (λ (i : ℕ). block_of i l) e ∙ lies_copy l b lies d j high h ∙ ap (λ (x : Draft). holding (held_of (slice_get (copies_of x) j))) draft_here

  held_is : (k j : ℕ) → j < 2 → k ≡ 9 + 2 * d + j → held_in b (part_of k) ≡ held_of (slice_get ks j)
  unfolding held_in
  held_is k j h e =
      ap (λ (i : ℕ). held_in b (part_of i)) e ∙ ap (held_in b) (part_copy d j high h) ∙ ap (λ (x : Draft). held_of (slice_get (copies_of x) j)) isOpen

  stands_is : (q : Copy) (k j : ℕ) → j < 2 → k ≡ 9 + 2 * d + j → slice_get ks j ≡ Some q → FineCopy b.issue (length b.segments) q → Stands b q.segment k q.held
  stands_is q k j h e g f = record { one = f.from; there = f.to; held = held_is k j h e ∙ ap held_of g }

  says_is : (q : Copy) (k j : ℕ) → j < 2 → k ≡ 9 + 2 * d + j → slice_get ks j ≡ Some q → FineCopy b.issue (length b.segments) q
      → differing l q.segment k ≡ not (same_content (at b.segments q.segment) q.held)
  says_is q k j h e g f = differing_is l b lies sound q k f (block_is k j h e ∙ ap (λ (o : Option Copy). holding (held_of o)) g)

-- the changes of its copies
pub finds_copies : (l : List ℕ) (b : Book) → Lies l b → Sound b → (d : ℕ) → d < 4 → (ks : List Copy) → draft_at b.drafts (suc d) ≡ working ks false
    → FineTaken b.issue (length b.segments) ks false → Finds b (changes_in l (suc d)) (changes b.segments ks)
unfolding changes_in
finds_copies l b lies sound d high [] isOpen fine =
    let x : ℕ = get_or l (5 + 4 * suc d) 0 in
    let y : ℕ = get_or l (6 + 4 * suc d) 0 in
    let i : ℕ = 7 + 2 * suc d in
    let j : ℕ = 8 + 2 * suc d in
    finds_0 b (differing l x i) (differing l y j) x i y j (differing_none l x i (first_is l b lies sound d high [] isOpen)) (differing_none l y j (second_is l b lies sound d high [] isOpen))
finds_copies l b lies sound d high (q ∷ []) isOpen fine =
    let y : ℕ = get_or l (6 + 4 * suc d) 0 in
    let i : ℕ = 7 + 2 * suc d in
    let j : ℕ = 8 + 2 * suc d in
    let f = all_head fine.copies in
    subst (λ (x : ℕ). Finds b (picked (differing l x i) (differing l y j) x i y j) (changes b.segments (q ∷ [])))
    (sym (first_is l b lies sound d high (q ∷ []) isOpen))
    (finds_1 b q (differing l q.segment i) (differing l y j) i y j
    (says_is l b lies sound d high (q ∷ []) isOpen q i 0 (omega arith) (omega arith) refl f)
    (differing_none l y j (second_is l b lies sound d high (q ∷ []) isOpen))
    (stands_is l b lies sound d high (q ∷ []) isOpen q i 0 (omega arith) (omega arith) refl f))
finds_copies l b lies sound d high (q ∷ p ∷ []) isOpen fine =
    let i : ℕ = 7 + 2 * suc d in
    let j : ℕ = 8 + 2 * suc d in
    let f = all_head fine.copies in
    let g = all_head (all_tail fine.copies) in
    subst (λ (x : ℕ). Finds b (picked (differing l x i) (differing l (get_or l (6 + 4 * suc d) 0) j) x i (get_or l (6 + 4 * suc d) 0) j) (changes b.segments (q ∷ p ∷ [])))
    (sym (first_is l b lies sound d high (q ∷ p ∷ []) isOpen))
    (subst (λ (y : ℕ). Finds b (picked (differing l q.segment i) (differing l y j) q.segment i y j) (changes b.segments (q ∷ p ∷ [])))
    (sym (second_is l b lies sound d high (q ∷ p ∷ []) isOpen))
    (finds_2 b q p (differing l q.segment i) (differing l p.segment j) i j
    (says_is l b lies sound d high (q ∷ p ∷ []) isOpen q i 0 (omega arith) (omega arith) refl f)
    (says_is l b lies sound d high (q ∷ p ∷ []) isOpen p j 1 (omega arith) (omega arith) refl g)
    (stands_is l b lies sound d high (q ∷ p ∷ []) isOpen q i 0 (omega arith) (omega arith) refl f)
    (stands_is l b lies sound d high (q ∷ p ∷ []) isOpen p j 1 (omega arith) (omega arith) refl g)))
finds_copies l b lies sound d high (q ∷ p ∷ r ∷ ks) isOpen fine = let h : length (q ∷ p ∷ r ∷ ks) ≤ 2 = fine.two in impossible (omega arith)

-- ---- what the code reads
-- a segment that is one
pub differing_some : (l : List ℕ) (s k : ℕ) (u : Bool) → s ≢ 0 → u ≡ same_list (block_of s l) (block_of k l) → not u ≡ differing l s k
unfolding differing
differing_some l s k u h e = rw (ne_eqb s 0 h) (ap not e)

pub differing_zero : (l : List ℕ) (s k : ℕ) → s ≡ 0 → false ≡ differing l s k
differing_zero l s k e = sym (differing_none l s k e)

-- the choice by two tests
module _ (s t : Bool) (x i y j : ℕ) where
  pub pick_up : s ≡ true → t ≡ true → x < y → found.Two x i y j ≡ picked s t x i y j
  unfolding picked
  pick_up e f h = rw (e, f, lt-ltb x y h)

  pub pick_down : s ≡ true → t ≡ true → y ≤ x → found.Two y j x i ≡ picked s t x i y j
  unfolding picked
  pick_down e f h = rw (e, f, le-ltb x y h)

  pub pick_first : s ≡ true → t ≡ false → found.One x i ≡ picked s t x i y j
  unfolding picked
  pick_first e f = rw (e, f)

  pub pick_second : s ≡ false → t ≡ true → found.One y j ≡ picked s t x i y j
  unfolding picked
  pick_second e f = rw (e, f)

  pub pick_none : s ≡ false → t ≡ false → found.Nothing ≡ picked s t x i y j
  unfolding picked
  pick_none e f = rw (e, f)

-- what is picked are segments, with the blocks of copies
picked_placed : (end : ℕ) (s t : Bool) (x i y j : ℕ) → (s ≡ true → Placing end x i) → (t ≡ true → Placing end y j) → Placings end (picked s t x i y j)
unfolding picked
picked_placed end true true x i y j p q =
    by (ltb x y)
    (λ o. subst (λ (u : Bool). Placings end (cond u (found.Two x i y j) (found.Two y j x i))) (sym o) (p refl, q refl))
    (λ o. subst (λ (u : Bool). Placings end (cond u (found.Two x i y j) (found.Two y j x i))) (sym o) (q refl, p refl))
picked_placed end true false x i y j p q = p refl
picked_placed end false true x i y j p q = q refl
picked_placed end false false x i y j p q = tt

placing : (l : List ℕ) (s k : ℕ) → s ≤ 8 → 9 ≤ k → k < 17 → differing l s k ≡ true → Placing 17 s k
placing l s k eight low high e =
    record {
      one = by_order s 1 (λ h. apart (let z = sym (differing_none l s k (omega arith)) ∙ e in cc)) (λ h. h);
      eight = eight;
      low = low;
      high = high;
    }

pub changes_placed : (l : List ℕ) (d : ℕ) → 1 ≤ d → d ≤ 4 → get_or l (5 + 4 * d) 0 ≤ 8 → get_or l (6 + 4 * d) 0 ≤ 8 → AllPlaced 17 (changes_in l d)
unfolding changes_in
changes_placed l d one four first second =
    let x : ℕ = get_or l (5 + 4 * d) 0 in
    let y : ℕ = get_or l (6 + 4 * d) 0 in
    record {
      each =
          picked_placed 17 (differing l x (7 + 2 * d)) (differing l y (8 + 2 * d)) x (7 + 2 * d) y (8 + 2 * d)
          (placing l x (7 + 2 * d) first (omega arith) (omega arith)) (placing l y (8 + 2 * d) second (omega arith) (omega arith));
    }

-- all of a draft
pub changes_are : (l : List ℕ) (d x y : ℕ) (s t : Bool) (r : Found) → x ≡ get_or l (5 + 4 * d) 0 → y ≡ get_or l (6 + 4 * d) 0 → s ≡ differing l x (7 + 2 * d)
    → t ≡ differing l y (8 + 2 * d) → r ≡ picked s t x (7 + 2 * d) y (8 + 2 * d) → r ≡ changes_in l d
unfolding changes_in
changes_are l d x y s t r e f g h p =
    p ∙ ap₂ (λ (u v : Bool). picked u v x (7 + 2 * d) y (8 + 2 * d)) g h
    ∙ ap₂ (λ (u v : ℕ). picked (differing l u (7 + 2 * d)) (differing l v (8 + 2 * d)) u (7 + 2 * d) v (8 + 2 * d)) e f
