-- A draft's copies: the one of a segment, and the book's bytes after a change of it. Assumes nothing.
use Prim.Native.Nat.{ℕ, zero, suc, ◌+◌, ◌*◌, ◌≤◌, ◌<◌}
use native.Mathlib.Omega.{arith}
use mathlib.Core.Path.{◌≡◌, refl, sym, ap, ap₂, subst, ◌∙◌}
use mathlib.Core.Logic.{◌≢◌}
use mathlib.Core.List.{List, [], ◌∷◌, ◌++◌}
use mathlib.Core.Bool.{Bool, true, false}
use Rattle.std.specs.Prelude.{Option, None, Some}
use lib.ListN.{length, get_or, set, length-set}
use Rattle.std.specs.Prelude.{slice_get}
use lib.Dec.{eqb}
use borrow.Author.Tests.{eqb-true}
use Rattle.laws.proofs.Tests.{by, apart}
use Rattle.laws.proofs.Lookups.{get_same, get_other, get_low}
use Rattle.codes.specs.Places.{capacity}
use Rattle.codes.specs.Block.{Content}
use Rattle.blocks.specs.Block.{put_block, flat}
use Rattle.blocks.specs.Content.{holding}
use Rattle.blocks.proofs.Contents.{used_length}
use Rattle.steps.specs.Book.{Copy, Draft, closed, working, Book}
use Rattle.steps.specs.Calls.{copy_of, recopy, has, with_drafts}
use Rattle.layout.specs.Layout.{segment_of, bit, draft_bytes, copies_of, held_of, held_in, copy, part_of, index_bytes, front, back}
use Rattle.layout.specs.Sound.{Distinct, first_once}
use Rattle.layout.specs.Lies.{Lies}
use Rattle.layout.proofs.Recopied.{recopy_absent}
use Rattle.layout.proofs.Stands.{part_copy}
use Rattle.layout.proofs.ForthIndex.{or_closed_lem}
use Rattle.moves.proofs.Parts.{block_of_copy, held_put, held_new}
use Rattle.moves.proofs.StepsStands.{upd_at, stands_put}
use Rattle.moves.proofs.StepsLies.{parts_in, lies_stands, stands_lies}
use Rattle.copies.specs.Copies.{one_on, index_of}

-- ---- the copy of a segment
pub record Indexed (s : ℕ) (ks : List Copy) (n : ℕ) : Type 0 where
  pub held : Content
  pub here : slice_get ks n ≡ Some (record { segment = s; held = held })
  pub copied : copy_of s ks ≡ Some held
  pub named : has s ks ≡ true
  pub again : (c : Content) → Distinct ks → recopy s c ks ≡ set ks n (record { segment = s; held = c })

indexed_here : (s : ℕ) (k : Copy) (ks : List Copy) → eqb s k.segment ≡ true → Indexed s (k ∷ ks) 0
unfolding copy_of has recopy
indexed_here s k ks t =
    let e : s ≡ k.segment = eqb-true s k.segment t in
    record {
      held = k.held;
      here = ap (λ (n : ℕ). Some (record { segment = n; held = k.held })) (sym e);
      copied = rw t;
      named = rw t;
      again = λ c x. rw t (front c x);
    }
  where
    front : (c : Content) → Distinct (k ∷ ks)
        → record { segment = k.segment; held = c } ∷ recopy s c ks ≡ record { segment = s; held = c } ∷ ks
    front c (first_once absent x) =
        let e : s ≡ k.segment = eqb-true s k.segment t in
        let f : has s ks ≡ false = ap (λ (n : ℕ). has n ks) e ∙ absent in
        ap₂ (λ (n : ℕ) (r : List Copy). record { segment = n; held = c } ∷ r) (sym e) (recopy_absent s c ks f)

indexed_later : (s : ℕ) (k : Copy) (ks : List Copy) (n : ℕ) → eqb s k.segment ≡ false → Indexed s ks n → Indexed s (k ∷ ks) (suc n)
unfolding copy_of has recopy
indexed_later s k ks n t v =
    record {
      held = v.held;
      here = v.here;
      copied = rw t v.copied;
      named = rw t v.named;
      again = λ c x. rw t (rest c x);
    }
  where
    rest : (c : Content) → Distinct (k ∷ ks) → k ∷ recopy s c ks ≡ k ∷ set ks n (record { segment = s; held = c })
    rest c (first_once absent x) = ap (λ (r : List Copy). k ∷ r) (v.again c x)

pub index_some : (s : ℕ) (ks : List Copy) (n : ℕ) → index_of s ks ≡ Some n → Indexed s ks n
unfolding index_of
index_some s [] n e = apart cc
index_some s (k ∷ ks) n e =
    by (eqb s k.segment)
    (λ t. let f : Some 0 ≡ Some n = rw t at e in let z : 0 ≡ n = cc in subst (Indexed s (k ∷ ks)) z (indexed_here s k ks t))
    (λ t. let f : one_on (index_of s ks) ≡ Some n = rw t at e in
    behind (index_of s ks) refl f t (λ m. index_some s ks m))
  where
    behind : (o : Option ℕ) → index_of s ks ≡ o → one_on o ≡ Some n → eqb s k.segment ≡ false → ((m : ℕ) → index_of s ks ≡ Some m → Indexed s ks m) → Indexed s (k ∷ ks) n
    behind None q f t next = apart cc
    behind (Some m) q f t next = let z : suc m ≡ n = cc in subst (Indexed s (k ∷ ks)) z (indexed_later s k ks m t (next m q))

pub index_none : (s : ℕ) (ks : List Copy) → index_of s ks ≡ None → copy_of s ks ≡ None
unfolding index_of copy_of
index_none s [] e = refl
index_none s (k ∷ ks) e =
    by (eqb s k.segment) (λ t. let f : Some 0 ≡ None = rw t at e in apart cc)
    (λ t. let f : one_on (index_of s ks) ≡ None = rw t at e in rw t (index_none s ks (behind (index_of s ks) f)))
  where
    behind : (o : Option ℕ) → one_on o ≡ None → o ≡ None
    behind None f = refl
    behind (Some m) f = apart cc

-- ---- block 0 has only the segments' numbers
segment_set : (s : ℕ) (c h : Content) (ks : List Copy) (n m : ℕ) → slice_get ks n ≡ Some (record { segment = s; held = h })
    → segment_of (slice_get (set ks n (record { segment = s; held = c })) m) ≡ segment_of (slice_get ks m)
segment_set s c h [] n m e = refl
segment_set s c h (k ∷ ks) zero zero e = let f : Some k ≡ Some (record { segment = s; held = h }) = e in ap segment_of (sym f)
segment_set s c h (k ∷ ks) zero (suc m) e = refl
segment_set s c h (k ∷ ks) (suc n) zero e = refl
segment_set s c h (k ∷ ks) (suc n) (suc m) e = segment_set s c h ks n m e

flat_same : {X : Type 0} (f : X → List ℕ) (z : X) (xs : List X) (k : ℕ) (y : X) → f y ≡ f (get_or xs k z) → flat f (set xs k y) ≡ flat f xs
unfolding flat
flat_same f z [] k y e = refl
flat_same f z (x ∷ xs) zero y e = ap (λ (a : List ℕ). a ++ flat f xs) e
flat_same f z (x ∷ xs) (suc k) y e = ap (λ (a : List ℕ). f x ++ a) (flat_same f z xs k y e)

pub index_same : (b : Book) (k : ℕ) (y : Draft) → draft_bytes y ≡ draft_bytes (get_or b.drafts k closed) → index_bytes (with_drafts b (set b.drafts k y)) ≡ index_bytes b
unfolding index_bytes
index_same b k y e = ap (λ (m : List ℕ). front b ++ (m ++ back b)) (flat_same draft_bytes closed b.drafts k y e)

-- ---- the bytes after a change of one copy
module _ (l : List ℕ) (b : Book) (lies : Lies l b) (k : ℕ) (ks : List Copy) (stale : Bool) (low : k < 4) (opened : get_or b.drafts k closed ≡ working ks stale)
    (s n : ℕ) (two : n < 2) (v : Indexed s ks n) (x : Distinct ks) (c : Content) (few : length c.places ≤ capacity) where
  abbrev new : Draft
  new = working (recopy s c ks) stale

  abbrev later_book : Book
  later_book = with_drafts b (set b.drafts k new)

  abbrev at_copy : ℕ
  at_copy = 8 + 2 * k + n

  in_drafts : k < length b.drafts
  in_drafts = omega (arith, lies.four)

  n_low : n < length ks
  n_low = get_low ks n v.here

  new_here : held_of (slice_get (recopy s c ks) n) ≡ Some c
  new_here = ap (λ (r : List Copy). held_of (slice_get r n)) (v.again c x) ∙ ap held_of (get_same ks n (record { segment = s; held = c }) n_low)

  new_other : (m : ℕ) → m ≢ n → held_of (slice_get (recopy s c ks) m) ≡ held_of (slice_get ks m)
  new_other m h = ap (λ (r : List Copy). held_of (slice_get r m)) (v.again c x) ∙ ap held_of (get_other ks n m (record { segment = s; held = c }) h)

  bytes_same : draft_bytes new ≡ draft_bytes (get_or b.drafts k closed)
  bytes_same =
      ap₂ (λ (f g : ℕ). 1 ∷ f ∷ g ∷ bit stale ∷ [])
      (ap (λ (r : List Copy). segment_of (slice_get r 0)) (v.again c x) ∙ segment_set s c v.held ks n 0 v.here)
      (ap (λ (r : List Copy). segment_of (slice_get r 1)) (v.again c x) ∙ segment_set s c v.held ks n 1 v.here)
      ∙ ap draft_bytes (sym opened)

  old_copy : (m : ℕ) → held_in b (copy k m) ≡ held_of (slice_get ks m)
  unfolding held_in
  old_copy m = ap (λ (d : Draft). held_of (slice_get (copies_of d) m)) (or_closed_lem b.drafts k ∙ opened)

  here : (j : ℕ) → j ≡ at_copy → parts_in later_book j ≡ Some c
  here j z =
      let e : suc j ≡ 9 + 2 * k + n = omega arith in
      ap (held_in later_book) (ap part_of e ∙ part_copy k n low two) ∙ held_new b k new in_drafts n ∙ new_here

  there : (j : ℕ) → j ≢ at_copy → parts_in later_book j ≡ parts_in b j
  there j d =
      held_put b k new in_drafts (part_of (suc j))
      λ m e.
      let q = block_of_copy (suc j) k m e in
      let apart : m ≢ n = λ z. d (omega (arith, q.0)) in
      new_other m apart ∙ sym (ap (held_in b) e ∙ old_copy m)

  pub changed_lies : Lies (put_block (9 + 2 * k + n) (holding (Some c)) l) (with_drafts b (set b.drafts k (working (recopy s c ks) stale)))
  changed_lies =
      let e : suc at_copy ≡ 9 + 2 * k + n = omega arith in
      let stands = stands_put (lies_stands l b lies) at_copy (holding (Some c)) (Some c) (omega arith) (used_length c few) refl in
      subst (λ (i : ℕ). Lies (put_block i (holding (Some c)) l) later_book) e
      (stands_lies stands later_book (length-set b.drafts k new ∙ lies.four) lies.sixteen
      (λ i g. ap (λ (z : List ℕ). get_or z i 0) (sym (index_same b k new bytes_same)))
      (λ i g. upd_at (parts_in b) at_copy (Some c) i (parts_in later_book i) (λ q. sym (here i q)) (λ d. sym (there i d))))
