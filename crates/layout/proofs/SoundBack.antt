-- The book that sound bytes say is sound. Assumes nothing.
use mathlib.Core.Path.{◌≡◌, refl, sym, ap, ◌∙◌, subst}
use mathlib.Core.Logic.{◌≢◌}
use mathlib.Core.Bool.{Bool, true, false}
use mathlib.Core.List.{List, [], ◌∷◌}
use Prim.Native.Nat.{ℕ, suc, ◌+◌, ◌*◌, ◌-◌, ◌≤◌, ◌<◌}
use native.Mathlib.Omega.{arith}
use lib.ListN.{get_or}
use lib.Dec.{ltb, eqb}
use borrow.Author.Tests.{le-leb, lt-ltb, ne_eqb}
use Rattle.laws.proofs.Tests.{apart}
use Rattle.laws.specs.Lists.{All, all_nil, all_cons}
use Rattle.blocks.specs.Block.{number_at, block_of, Bytes}
use Rattle.blocks.specs.Content.{content_of, is_content}
use Rattle.steps.specs.Book.{Copy}
use Rattle.steps.specs.Calls.{has}
use Rattle.layout.specs.Layout.{copies_at, draft_of, step_of, book_of}
use Rattle.layout.specs.Sound.{is_issue, Fine, FineCopy, Distinct, none_twice, first_once, UpCopies, none_up, one_up, FineTaken, FineDraft, closed_fine, working_fine, FineStep, Sound}
use Rattle.layout.specs.Tests.{used, is_sound}
use Rattle.layout.proofs.Counted.{count_all}
use Rattle.layout.proofs.Says.{DraftSays, shut, bare, one, two, StepSays, single, pair}
use Rattle.layout.proofs.Parts.{Parts, sound_parts, draft_cases, step_cases}
use Rattle.layout.proofs.Said.{segments_length, drafts_length, steps_length, copy_at, copies_none, copies_one, copies_two, draft_shut, draft_open}
use Rattle.layout.proofs.Stands.{used_segment, used_copy, used_before}
use Rattle.layout.proofs.Back.{used_fine}

-- ---- one copy, and two
distinct_one : (k : Copy) → Distinct (k ∷ [])
unfolding has
distinct_one k = first_once refl none_twice

distinct_two : (k q : Copy) → k.segment ≢ q.segment → Distinct (k ∷ q ∷ [])
unfolding has
distinct_two k q d = first_once {k = k} {ks = q ∷ []} (rw (ne_eqb k.segment q.segment d)) (distinct_one q)

up_one : (k : Copy) → UpCopies (k ∷ [])
up_one k = one_up all_nil none_up

up_two : (k q : Copy) → k.segment < q.segment → UpCopies (k ∷ q ∷ [])
up_two k q h = one_up (all_cons h all_nil) (up_one q)

-- ---- drafts and steps, of any issue and any number of segments
module _ (issue n : ℕ) where
  -- a draft that has taken nothing, one segment, two
  taken_none : FineTaken issue n [] false
  taken_none = record { two = omega arith; copies = all_nil; distinct = none_twice; taken = λ e. apart cc }

  taken_one : (k : Copy) (stale : Bool) → FineCopy issue n k → FineTaken issue n (k ∷ []) stale
  taken_one k stale f = record { two = omega arith; copies = all_cons f all_nil; distinct = distinct_one k; taken = λ e. omega arith }

  taken_two : (k q : Copy) (stale : Bool) → FineCopy issue n k → FineCopy issue n q → k.segment ≢ q.segment → FineTaken issue n (k ∷ q ∷ []) stale
  taken_two k q stale f g d =
      record { two = omega arith; copies = all_cons f (all_cons g all_nil); distinct = distinct_two k q d; taken = λ e. omega arith }

  -- a step of one segment, of two
  step_one : (k : Copy) → FineCopy issue n k → FineStep issue n (k ∷ [])
  step_one k f = record { one = omega arith; two = omega arith; copies = all_cons f all_nil; up = up_one k }

  step_two : (k q : Copy) → FineCopy issue n k → FineCopy issue n q → k.segment < q.segment → FineStep issue n (k ∷ q ∷ [])
  step_two k q f g h = record { one = omega arith; two = omega arith; copies = all_cons f (all_cons g all_nil); up = up_two k q h }

module _ (l : List ℕ) (y : Bytes l) (p : Parts l) where
  -- a copy of segment m in block k
  copy_fine : (m k : ℕ) → 1 ≤ m → m ≤ get_or l 4 0 → 1 ≤ k → k ≤ 48 → used l k ≡ true → FineCopy (number_at l 0) (get_or l 4 0) (copy_at l m k)
  copy_fine m k h g a b u = record { from = h; to = g; fine = used_fine l y p k a b u }

  -- copy 0 and copy 1 of draft d
  first_taken_lem : (d : ℕ) → d < 4 → 1 ≤ get_or l (9 + 4 * d) 0 → used l (9 + 2 * d) ≡ true
  first_taken_lem d h g =
      let e : 9 + 2 * d + 0 ≡ 9 + 2 * d = omega arith in
      let f : 9 + 4 * d + 0 ≡ 9 + 4 * d = omega arith in
      ap (used l) (sym e) ∙ used_copy l d 0 h (omega arith) ∙ ap (λ (i : ℕ). ltb 0 (get_or l i 0)) f ∙ lt-ltb 0 (get_or l (9 + 4 * d) 0) g

  second_taken_lem : (d : ℕ) → d < 4 → 1 ≤ get_or l (10 + 4 * d) 0 → used l (suc (9 + 2 * d)) ≡ true
  second_taken_lem d h g =
      let e : 9 + 2 * d + 1 ≡ suc (9 + 2 * d) = omega arith in
      let f : 9 + 4 * d + 1 ≡ 10 + 4 * d = omega arith in
      ap (used l) (sym e) ∙ used_copy l d 1 h (omega arith) ∙ ap (λ (i : ℕ). ltb 0 (get_or l i 0)) f ∙ lt-ltb 0 (get_or l (10 + 4 * d) 0) g

  -- block 0 and block 1 of step s
  first_kept : (s : ℕ) → 1 ≤ get_or l (32 + 2 * s) 0 → used l (17 + 2 * s) ≡ true
  first_kept s g =
      let e : 17 + 2 * s + 0 ≡ 17 + 2 * s = omega arith in
      let f : 32 + 2 * s + 0 ≡ 32 + 2 * s = omega arith in
      ap (used l) (sym e) ∙ used_before l s 0 ∙ ap (λ (i : ℕ). ltb 0 (get_or l i 0)) f ∙ lt-ltb 0 (get_or l (32 + 2 * s) 0) g

  second_kept : (s : ℕ) → 1 ≤ get_or l (33 + 2 * s) 0 → used l (suc (17 + 2 * s)) ≡ true
  second_kept s g =
      let e : 17 + 2 * s + 1 ≡ suc (17 + 2 * s) = omega arith in
      let f : 32 + 2 * s + 1 ≡ 33 + 2 * s = omega arith in
      ap (used l) (sym e) ∙ used_before l s 1 ∙ ap (λ (i : ℕ). ltb 0 (get_or l i 0)) f ∙ lt-ltb 0 (get_or l (33 + 2 * s) 0) g

  -- an open draft's copies
  open_fine : (d : ℕ) → get_or l (8 + 4 * d) 0 ≡ 1
      → FineTaken (number_at l 0) (get_or l 4 0) (copies_at l (get_or l (9 + 4 * d) 0) (get_or l (10 + 4 * d) 0) (9 + 2 * d)) (eqb (get_or l (11 + 4 * d) 0) 1)
      → FineDraft (number_at l 0) (get_or l 4 0) (draft_of l d)
  open_fine d e f = rw (draft_open l d e) (working_fine f)

  draft_by : (d : ℕ) → d < 4
      → DraftSays (get_or l 4 0) (get_or l (8 + 4 * d) 0) (get_or l (9 + 4 * d) 0) (get_or l (10 + 4 * d) 0) (get_or l (11 + 4 * d) 0)
      → FineDraft (number_at l 0) (get_or l 4 0) (draft_of l d)
  draft_by d h (shut e1 e2 e3 e4) = rw (draft_shut l d e1) closed_fine
  draft_by d h (bare e1 e2 e3 e4) =
      open_fine d e1
      (rw (copies_none l (get_or l (9 + 4 * d) 0) (get_or l (10 + 4 * d) 0) (9 + 2 * d) e2, e4) (taken_none (number_at l 0) (get_or l 4 0)))
  draft_by d h (one e1 h1 h2 e3 h4) =
      let f : ℕ = get_or l (9 + 4 * d) 0 in
      let s : ℕ = get_or l (10 + 4 * d) 0 in
      let k : ℕ = 9 + 2 * d in
      open_fine d e1
      (rw (copies_one l f s k h1 e3)
      (taken_one (number_at l 0) (get_or l 4 0) (copy_at l f k) (eqb (get_or l (11 + 4 * d) 0) 1)
      (copy_fine f k h1 h2 (omega arith) (omega arith) (first_taken_lem d h h1))))
  draft_by d h (two e1 h1 h2 h3 h4 differ h5) =
      let f : ℕ = get_or l (9 + 4 * d) 0 in
      let s : ℕ = get_or l (10 + 4 * d) 0 in
      let k : ℕ = 9 + 2 * d in
      open_fine d e1
      (rw (copies_two l f s k h1 h3)
      (taken_two (number_at l 0) (get_or l 4 0) (copy_at l f k) (copy_at l s (suc k)) (eqb (get_or l (11 + 4 * d) 0) 1)
      (copy_fine f k h1 h2 (omega arith) (omega arith) (first_taken_lem d h h1))
      (copy_fine s (suc k) h3 h4 (omega arith) (omega arith) (second_taken_lem d h h3)) differ))

  step_by : (s : ℕ) → s < 16
      → StepSays (get_or l 4 0) (get_or l (32 + 2 * s) 0) (get_or l (33 + 2 * s) 0)
      → FineStep (number_at l 0) (get_or l 4 0) (step_of l s)
  unfolding step_of
  step_by s h (single h1 h2 e3) =
      let a : ℕ = get_or l (32 + 2 * s) 0 in
      let k : ℕ = 17 + 2 * s in
      rw (copies_one l a (get_or l (33 + 2 * s) 0) k h1 e3)
      (step_one (number_at l 0) (get_or l 4 0) (copy_at l a k) (copy_fine a k h1 h2 (omega arith) (omega arith) (first_kept s h1)))
  step_by s h (pair h1 h2 h3) =
      let a : ℕ = get_or l (32 + 2 * s) 0 in
      let b : ℕ = get_or l (33 + 2 * s) 0 in
      let k : ℕ = 17 + 2 * s in
      let low : 1 ≤ b = omega arith in
      rw (copies_two l a b k h1 low)
      (step_two (number_at l 0) (get_or l 4 0) (copy_at l a k) (copy_at l b (suc k))
      (copy_fine a k h1 (omega arith) (omega arith) (omega arith) (first_kept s h1))
      (copy_fine b (suc k) low h3 (omega arith) (omega arith) (second_kept s low)) h2)

  -- each segment, draft and step is fine
  pub segment_fine : (s : ℕ) → s < get_or l 4 0 → is_content (number_at l 0) (content_of (block_of (suc s) l)) ≡ true
  segment_fine s h =
      let most = p.eight in
      used_fine l y p (suc s) (omega arith) (omega arith) (used_segment l s (omega arith) ∙ le-leb (suc s) (get_or l 4 0) h)

  pub draft_fine : (d : ℕ) → d < 4 → FineDraft (number_at l 0) (get_or l 4 0) (draft_of l d)
  draft_fine d h = draft_by d h (draft_cases l p d h)

  pub step_fine : (s : ℕ) → s < get_or l 24 0 → FineStep (number_at l 0) (get_or l 4 0) (step_of l s)
  step_fine s h = let most = p.sixteen in step_by s (omega arith) (step_cases l p s h)

  contents_fine : All (Fine (book_of l).issue) (book_of l).segments
  unfolding book_of
  contents_fine =
      count_all (λ (k : ℕ). content_of (block_of k l)) 1 (get_or l 4 0)
      (λ i h g. let e : suc (i - 1) ≡ i = omega arith in
      subst (λ (k : ℕ). is_content (number_at l 0) (content_of (block_of k l)) ≡ true) e (segment_fine (i - 1) (omega arith)))

  drafts_fine : All (FineDraft (book_of l).issue (get_or l 4 0)) (book_of l).drafts
  unfolding book_of
  drafts_fine = count_all (draft_of l) 0 4 (λ d h g. draft_fine d (omega arith))

  steps_fine : All (FineStep (book_of l).issue (get_or l 4 0)) (book_of l).history.kept
  unfolding book_of
  steps_fine = count_all (step_of l) 0 (get_or l 24 0) (λ s h g. step_fine s (omega arith))

  year_fine : is_issue (book_of l).issue ≡ true
  unfolding book_of
  year_fine = p.year

  pub parts_sound : Sound (book_of l)
  parts_sound =
      record {
        year = year_fine;
        one = rw segments_length p.one;
        eight = rw segments_length p.eight;
        contents = contents_fine;
        four = drafts_length l;
        drafts = rw segments_length drafts_fine;
        past = record { sixteen = rw steps_length p.sixteen; steps = rw segments_length steps_fine };
      }

-- the book that sound bytes say is sound
pub sound_book : (l : List ℕ) → Bytes l → is_sound l ≡ true → Sound (book_of l)
sound_book l y e = parts_sound l y (sound_parts l e)
