-- What it says of bytes that they are a sound book, fact by fact. Assumes nothing.
use mathlib.Core.Path.{◌≡◌, sym, ap, ◌∙◌, subst}
use mathlib.Core.Bool.{true, ◌&&◌}
use mathlib.Core.List.{List}
use Prim.Native.Nat.{ℕ, ◌+◌, ◌*◌, ◌≤◌, ◌<◌}
use native.Mathlib.Omega.{arith}
use lib.ListN.{length, get_or}
use Rattle.std.specs.List.{slice_range}
use lib.Seq.{}
use lib.Dec.{leb, eqb}
use borrow.Author.Tests.{leb-true, eqb-true}
use Rattle.laws.proofs.Tests.{and_left, and_right}
use Rattle.codes.specs.Places.{upward}
use Rattle.checks.specs.Seal.{all_zero, checked}
use Rattle.blocks.specs.Block.{book_length, number_at, block_of}
use Rattle.blocks.proofs.Blocks.{byte_of}
use Rattle.checks.proofs.Zeros.{zero_in}
use Rattle.steps.specs.Calls.{steps_most}
use Rattle.laws.specs.Lists.{every}
use Rattle.layout.specs.Sound.{is_issue}
use Rattle.layout.specs.Tests.{is_draft_at, is_step_at, is_index, is_good, is_sound}
use Rattle.layout.proofs.Counted.{every_up}
use Rattle.layout.proofs.Says.{DraftSays, draft_says, StepSays, step_says}

-- ---- block 0
pub record IndexParts (b : List ℕ) : Type 0 where
  pub check : checked b ≡ true
  pub year : is_issue (number_at b 0) ≡ true
  pub one : 1 ≤ get_or b 4 0
  pub eight : get_or b 4 0 ≤ 8
  pub head : all_zero (slice_range b 5 8) ≡ true
  pub drafts : every (is_draft_at b) (upward 0 4) ≡ true
  pub sixteen : get_or b 24 0 ≤ steps_most
  pub middle : all_zero (slice_range b 25 32) ≡ true
  pub steps : every (is_step_at b) (upward 0 (get_or b 24 0)) ≡ true
  pub tail : all_zero (slice_range b (32 + 2 * get_or b 24 0) 510) ≡ true

-- what the test of block 0 says
pub index_parts : (b : List ℕ) → is_index b ≡ true → IndexParts b
unfolding is_index
index_parts b e =
    let n = get_or b 4 0 in
    let m = get_or b 24 0 in
    let t1 = checked b in
    let t2 = is_issue (number_at b 0) in
    let u = leb 1 n in
    let v = leb n 8 in
    let t4 = all_zero (slice_range b 5 8) in
    let t5 = every (is_draft_at b) (upward 0 4) in
    let t6 = leb m steps_most in
    let t7 = all_zero (slice_range b 25 32) in
    let t8 = every (is_step_at b) (upward 0 m) in
    let t9 = all_zero (slice_range b (32 + 2 * m) 510) in
    let e8 = and_left (t1 && t2 && (u && v) && t4 && t5 && t6 && t7 && t8) t9 e in
    let e7 = and_left (t1 && t2 && (u && v) && t4 && t5 && t6 && t7) t8 e8 in
    let e6 = and_left (t1 && t2 && (u && v) && t4 && t5 && t6) t7 e7 in
    let e5 = and_left (t1 && t2 && (u && v) && t4 && t5) t6 e6 in
    let e4 = and_left (t1 && t2 && (u && v) && t4) t5 e5 in
    let e3 = and_left (t1 && t2 && (u && v)) t4 e4 in
    let e2 = and_left (t1 && t2) (u && v) e3 in
    let f = and_right (t1 && t2) (u && v) e3 in
    record {
      check = and_left t1 t2 e2;
      year = and_right t1 t2 e2;
      one = leb-true 1 n (and_left u v f);
      eight = leb-true n 8 (and_right u v f);
      head = and_right (t1 && t2 && (u && v)) t4 e4;
      drafts = and_right (t1 && t2 && (u && v) && t4) t5 e5;
      sixteen = leb-true m steps_most (and_right (t1 && t2 && (u && v) && t4 && t5) t6 e6);
      middle = and_right (t1 && t2 && (u && v) && t4 && t5 && t6) t7 e7;
      steps = and_right (t1 && t2 && (u && v) && t4 && t5 && t6 && t7) t8 e8;
      tail = and_right (t1 && t2 && (u && v) && t4 && t5 && t6 && t7 && t8) t9 e;
    }

-- ---- the whole book
pub record Parts (l : List ℕ) : Type 0 where
  pub long : length l ≡ book_length
  pub indexed : is_index (block_of 0 l) ≡ true
  pub index : IndexParts (block_of 0 l)
  pub year : is_issue (number_at l 0) ≡ true
  pub one : 1 ≤ get_or l 4 0
  pub eight : get_or l 4 0 ≤ 8
  pub drafts : (d : ℕ) → d < 4 → is_draft_at l d ≡ true
  pub sixteen : get_or l 24 0 ≤ 16
  pub steps : (s : ℕ) → s < get_or l 24 0 → is_step_at l s ≡ true
  -- no bytes behind the steps
  pub rest : (i : ℕ) → 32 + 2 * get_or l 24 0 ≤ i → i < 510 → get_or l i 0 ≡ 0
  pub blocks : (k : ℕ) → 1 ≤ k → k ≤ 48 → is_good l k ≡ true

-- a byte of block 0
pub byte_0 : (i : ℕ) (l : List ℕ) → i < 512 → get_or (block_of 0 l) i 0 ≡ get_or l i 0
byte_0 i l h = let e : 0 * 512 + i ≡ i = omega arith in byte_of 0 i l h ∙ ap (λ (j : ℕ). get_or l j 0) e

-- the same number, the same draft, the same step
pub number_0 : (l : List ℕ) → number_at (block_of 0 l) 0 ≡ number_at l 0
number_0 l = rw (byte_0 0 l (omega arith), byte_0 1 l (omega arith), byte_0 2 l (omega arith), byte_0 3 l (omega arith))

pub draft_0 : (l : List ℕ) (d : ℕ) → d < 4 → is_draft_at (block_of 0 l) d ≡ is_draft_at l d
unfolding is_draft_at
draft_0 l d h =
    rw (
      byte_0 4 l (omega arith),
      byte_0 (8 + 4 * d) l (omega arith),
      byte_0 (9 + 4 * d) l (omega arith),
      byte_0 (10 + 4 * d) l (omega arith),
      byte_0 (11 + 4 * d) l (omega arith),
    )

pub step_0 : (l : List ℕ) (s : ℕ) → s < 16 → is_step_at (block_of 0 l) s ≡ is_step_at l s
unfolding is_step_at
step_0 l s h = rw (byte_0 4 l (omega arith), byte_0 (32 + 2 * s) l (omega arith), byte_0 (33 + 2 * s) l (omega arith))

-- what the test of a book says
pub sound_parts : (l : List ℕ) → is_sound l ≡ true → Parts l
unfolding is_sound
sound_parts l e =
    let t1 = eqb (length l) book_length in
    let t2 = is_index (block_of 0 l) in
    let t3 = every (is_good l) (upward 1 48) in
    let f = and_left (t1 && t2) t3 e in
    let b : List ℕ = block_of 0 l in
    let x : IndexParts b = index_parts b (and_right t1 t2 f) in
    let p4 : get_or b 4 0 ≡ get_or l 4 0 = byte_0 4 l (omega arith) in
    let p24 : get_or b 24 0 ≡ get_or l 24 0 = byte_0 24 l (omega arith) in
    let most : get_or b 24 0 ≤ 16 = x.sixteen in
    record {
      long = eqb-true (length l) book_length (and_left t1 t2 f);
      indexed = and_right t1 t2 f;
      index = x;
      year = subst (λ (m : ℕ). is_issue m ≡ true) (number_0 l) x.year;
      one = subst (λ (m : ℕ). 1 ≤ m) p4 x.one;
      eight = subst (λ (m : ℕ). m ≤ 8) p4 x.eight;
      drafts = λ d h. sym (draft_0 l d h) ∙ every_up (is_draft_at b) 0 4 x.drafts d (omega arith) (omega arith);
      sixteen = subst (λ (m : ℕ). m ≤ 16) p24 x.sixteen;
      steps = λ s h. sym (step_0 l s (omega arith)) ∙ every_up (is_step_at b) 0 (get_or b 24 0) x.steps s (omega arith) (omega arith);
      rest = λ i h g. sym (byte_0 i l (omega arith)) ∙ zero_in (32 + 2 * get_or b 24 0) 510 b x.tail i (omega arith) g;
      blocks = λ k h g. every_up (is_good l) 1 48 (and_right (t1 && t2) t3 e) k h (omega arith);
    }

-- what draft d and step s say
pub draft_cases : (l : List ℕ) → Parts l → (d : ℕ) → d < 4
    → DraftSays (get_or l 4 0) (get_or l (8 + 4 * d) 0) (get_or l (9 + 4 * d) 0) (get_or l (10 + 4 * d) 0) (get_or l (11 + 4 * d) 0)
unfolding is_draft_at
draft_cases l p d h = draft_says (get_or l 4 0) (get_or l (8 + 4 * d) 0) (get_or l (9 + 4 * d) 0) (get_or l (10 + 4 * d) 0) (get_or l (11 + 4 * d) 0) (p.drafts d h)

pub step_cases : (l : List ℕ) → Parts l → (s : ℕ) → s < get_or l 24 0 → StepSays (get_or l 4 0) (get_or l (32 + 2 * s) 0) (get_or l (33 + 2 * s) 0)
unfolding is_step_at
step_cases l p s h = step_says (get_or l 4 0) (get_or l (32 + 2 * s) 0) (get_or l (33 + 2 * s) 0) (p.steps s h)
