-- Demand 3 on bytes, proved: `whole_bytes`. Assumes nothing.
use Prim.Native.Nat.{ℕ, zero, suc, ◌+◌, ◌-◌, ◌*◌, ◌/◌, ◌%◌, ◌≤◌, ◌<◌}
use native.Mathlib.Omega.{arith}
use mathlib.Core.Path.{◌≡◌, refl, sym, ◌∙◌, ap}
use mathlib.Core.List.{List, [], ◌∷◌, ◌++◌}
use lib.ListN.{get_or, get_or-append}
use Rattle.laws.proofs.Tests.{by_order}
use Rattle.laws.specs.Lists.{all_nil, all_cons}
use Rattle.refusal.specs.Answer.{Answer, ok, no, and_then}
use Rattle.codes.specs.Block.{Content}
use Rattle.blocks.specs.Block.{block_count, flat, block_of}
use Rattle.checks.proofs.Seals.{sealed_at}
use Rattle.steps.specs.Book.{Book, new_book}
use Rattle.steps.specs.Calls.{Call, Value, settle, book_rule, step}
use Rattle.layout.specs.Layout.{draft_bytes, front, back, index_bytes, copies_from, befores_from, block_bytes, bytes_of}
use Rattle.layout.specs.Sound.{closed_fine, Sound}
use Rattle.layout.specs.Rule.{on_bytes}
use Rattle.layout.proofs.ForthIndex.{index_steps, index_mid, index_step}
use Rattle.layout.proofs.ForthBlocks.{bytes_length, block_at_lem}
use Rattle.layout.proofs.ForthParts.{sound_wide, bytes_lie}
use Rattle.layout.proofs.ForthLies.{lies_segment, lies_before}
use Rattle.layout.proofs.Forth.{book_bytes}
use Rattle.layout.proofs.ForthSound.{bytes_sound}
use Rattle.layout.proofs.Rules.{in_book, in_bytes, rule_sound}
use Rattle.keeping.proofs.Keeping.{step_sound}
use Rattle.steps.specs.Serial.{Event, run_calls, calls, kept_of}
use Rattle.serial.specs.Bytewise.{run_bytes, rerun_bytes, WholeBytes}
use Rattle.steps.proofs.Whole.{alone, whole_run}

-- ---- calls on the bytes of a sound book
-- one call
left_bytes : (b : Book) (r : Answer (Value × Book)) → settle (bytes_of b) (in_bytes r) ≡ ((settle b r).0, bytes_of (settle b r).1)
unfolding in_bytes in_book and_then
left_bytes b (ok z) = refl
left_bytes b (no n p) = refl

step_bytes_lem : (b : Book) → Sound b → (c : Call) → on_bytes (bytes_of b) c ≡ ((step b c).0, bytes_of (step b c).1)
unfolding on_bytes step
step_bytes_lem b h c =
    ap (settle (bytes_of b)) (rule_sound (bytes_of b) c (bytes_length b (sound_wide b h)) (bytes_sound b h)
    ∙ ap (λ (x : Book). in_bytes (book_rule x c)) (book_bytes b h))
    ∙ left_bytes b (book_rule b c)

-- all of them
pub run_bytes_lem : (cs : List Call) (b : Book) → Sound b → run_bytes (bytes_of b) cs ≡ ((run_calls b cs).0, bytes_of (run_calls b cs).1)
unfolding run_bytes run_calls
run_bytes_lem [] b h = refl
run_bytes_lem (c ∷ cs) b h = rw (step_bytes_lem b h c, run_bytes_lem cs (step b c).1 (step_sound b c h))

pub run_sound : (cs : List Call) (b : Book) → Sound b → Sound (run_calls b cs).1
unfolding run_calls
run_sound [] b h = h
run_sound (c ∷ cs) b h = run_sound cs (step b c).1 (step_sound b c h)

-- ---- a book, and the same with every draft closed
module _ (b : Book) (sound : Sound b) where
  alone_sound : Sound (alone b)
  alone_sound =
      record {
        year = sound.year;
        one = sound.one;
        eight = sound.eight;
        contents = sound.contents;
        four = refl;
        drafts = all_cons closed_fine (all_cons closed_fine (all_cons closed_fine (all_cons closed_fine all_nil)));
        past = sound.past;
      }

  -- their segment blocks
  same_segments : (k : ℕ) → 1 ≤ k → k < copies_from 0 → block_of k (bytes_of (alone b)) ≡ block_of k (bytes_of b)
  same_segments zero h g = absurd (omega arith)
  same_segments (suc n) h g =
      lies_segment (bytes_of (alone b)) (alone b) (bytes_lie (alone b) alone_sound) n (omega arith)
      ∙ sym (lies_segment (bytes_of b) b (bytes_lie b sound) n (omega arith))

  -- their step blocks
  same_steps : (k : ℕ) → befores_from 0 ≤ k → k < block_count → block_of k (bytes_of (alone b)) ≡ block_of k (bytes_of b)
  same_steps k h g =
      let s : ℕ = (k - 17) / 2 in
      let j : ℕ = (k - 17) % 2 in
      let e : k ≡ 17 + 2 * s + j = omega arith in
      let p : s < 16 = omega arith in
      let q : j < 2 = omega arith in
      ap (λ (i : ℕ). block_of i (bytes_of (alone b))) e
      ∙ lies_before (bytes_of (alone b)) (alone b) (bytes_lie (alone b) alone_sound) s j p q
      ∙ sym (ap (λ (i : ℕ). block_of i (bytes_of b)) e ∙ lies_before (bytes_of b) b (bytes_lie b sound) s j p q)

-- the bytes of block 0 before its check
first_at : (b : Book) → Sound b → (i : ℕ) → i < 510 → get_or (block_of 0 (bytes_of b)) i 0 ≡ get_or (index_bytes b) i 0
unfolding block_bytes
first_at b h i g = ap (λ (z : List ℕ). get_or z i 0) (block_at_lem b (sound_wide b h) 0 (omega arith)) ∙ sealed_at (index_bytes b) i g

-- those before the drafts
front_at : (b : Book) (i : ℕ) → i < 8 → get_or (index_bytes b) i 0 ≡ get_or (front b) i 0
unfolding index_bytes
front_at b i h = get_or-append (front b) (flat draft_bytes b.drafts ++ back b) 0 i h

module _ (b : Book) (sound : Sound b) where
  same_front : (i : ℕ) → i < 8 → get_or (block_of 0 (bytes_of (alone b))) i 0 ≡ get_or (block_of 0 (bytes_of b)) i 0
  same_front i h =
      first_at (alone b) (alone_sound b sound) i (omega arith) ∙ front_at (alone b) i h
      ∙ sym (first_at b sound i (omega arith) ∙ front_at b i h)

  -- those after the drafts: the number of steps, zeros, the steps' segments
  same_back : (i : ℕ) → 24 ≤ i → i < 510 → get_or (index_bytes (alone b)) i 0 ≡ get_or (index_bytes b) i 0
  same_back i h g =
      by_order i 25
      (λ l. let e : i ≡ 24 = omega arith in
      ap (λ (n : ℕ). get_or (index_bytes (alone b)) n 0) e ∙ index_steps (alone b) refl
      ∙ sym (ap (λ (n : ℕ). get_or (index_bytes b) n 0) e ∙ index_steps b sound.four))
      (λ l.
      by_order i 32
      (λ m. index_mid (alone b) refl i l m ∙ sym (index_mid b sound.four i l m))
      (λ m. let s : ℕ = (i - 32) / 2 in
      let j : ℕ = (i - 32) % 2 in
      let e : i ≡ 32 + 2 * s + j = omega arith in
      let p : s < 240 = omega arith in
      let q : j < 2 = omega arith in
      ap (λ (n : ℕ). get_or (index_bytes (alone b)) n 0) e ∙ index_step (alone b) refl sound.past.sixteen s j p q
      ∙ sym (ap (λ (n : ℕ). get_or (index_bytes b) n 0) e ∙ index_step b sound.four sound.past.sixteen s j p q)))

  same_index : (i : ℕ) → 24 ≤ i → i < 510 → get_or (block_of 0 (bytes_of (alone b))) i 0 ≡ get_or (block_of 0 (bytes_of b)) i 0
  same_index i h g = first_at (alone b) (alone_sound b sound) i g ∙ same_back i h g ∙ sym (first_at b sound i g)

-- ---- demand 3 on bytes
-- the kept calls get the kept answers, and leave the bytes of the book that the history left, with every draft closed
pub whole_run_bytes : (issue : ℕ) (segments : List Content) → Sound (new_book issue segments) → (h : List Call) →
    rerun_bytes (bytes_of (new_book issue segments)) h
    ≡ (kept_of (run_calls (new_book issue segments) h).0, bytes_of (alone (run_calls (new_book issue segments) h).1))
whole_run_bytes issue segments sound h =
    rw (run_bytes_lem h (new_book issue segments) sound)
    (run_bytes_lem (calls (kept_of (run_calls (new_book issue segments) h).0)) (new_book issue segments) sound
    ∙ ap (λ (x : List Event × Book). (x.0, bytes_of x.1)) (whole_run issue segments h))

-- of what a run gives: a byte of block 0, and a block
abbrev index_byte : ℕ → List Event × List ℕ → ℕ
index_byte i x = get_or (block_of 0 x.1) i 0

abbrev block_at : ℕ → List Event × List ℕ → List ℕ
block_at k x = block_of k x.1

pub whole_bytes : (issue : ℕ) (segments : List Content) → Sound (new_book issue segments) → (h : List Call) →
    WholeBytes (bytes_of (new_book issue segments)) h
whole_bytes issue segments sound h =
    let b : Book = new_book issue segments in
    let last : Book = (run_calls b h).1 in
    let good : Sound last = run_sound h b sound in
    let e : run_bytes (bytes_of b) h ≡ ((run_calls b h).0, bytes_of last) = run_bytes_lem h b sound in
    let f : rerun_bytes (bytes_of b) h ≡ (kept_of (run_calls b h).0, bytes_of (alone last)) = whole_run_bytes issue segments sound h in
    record {
      answers = ap (λ (x : List Event × List ℕ). x.0) f ∙ sym (ap (λ (x : List Event × List ℕ). kept_of x.0) e);
      front = λ i p. ap (index_byte i) f ∙ same_front last good i p ∙ sym (ap (index_byte i) e);
      segments = λ k p q. ap (block_at k) f ∙ same_segments last good k p q ∙ sym (ap (block_at k) e);
      index = λ i p q. ap (index_byte i) f ∙ same_index last good i p q ∙ sym (ap (index_byte i) e);
      steps = λ k p q. ap (block_at k) f ∙ same_steps last good k p q ∙ sym (ap (block_at k) e);
    }
