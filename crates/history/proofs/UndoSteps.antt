-- The newest step of a sound book: its segments, and what its blocks hold. Assumes nothing.
use mathlib.Core.Path.{◌≡◌, sym, ap, ap₂, subst, ◌∙◌}
use mathlib.Core.Logic.{◌≢◌}
use mathlib.Core.Bool.{Bool, true, cond}
use mathlib.Core.List.{List, [], ◌∷◌}
use Rattle.std.specs.Prelude.{Some}
use Prim.Native.Nat.{ℕ, suc, ◌+◌, ◌*◌, ◌-◌, ◌≤◌, ◌<◌}
use native.Mathlib.Omega.{arith}
use lib.ListN.{length, get_or}
use Rattle.std.specs.Prelude.{slice_get}
use borrow.Author.Tests.{eq-eqb, ne_eqb}
use Rattle.laws.proofs.Tests.{by_order, impossible}
use Rattle.blocks.specs.Block.{block_count}
use Rattle.steps.specs.Book.{Copy, Book}
use Rattle.steps.specs.Calls.{newest}
use Rattle.layout.specs.Layout.{part_of, held_in, step_of, book_of}
use Rattle.layout.specs.Tests.{is_sound}
use Rattle.layout.proofs.Says.{StepSays, single, pair}
use Rattle.layout.proofs.Parts.{Parts, sound_parts, step_cases}
use Rattle.layout.proofs.Said.{copy_at, copies_one, copies_two, segments_length, steps_length, step_of_lem}
use Rattle.layout.proofs.Stands.{part_before}
use Rattle.history.specs.Changing.{Placing, Placings, AllPlaced, step_in, Stands, Finds}
use Rattle.history.specs.LastStep.{LastStep}
use Rattle.history.specs.declared.Found.{Found}
use Rattle.history.specs.declared.Found.TheVariants as found

-- ---- what the two bytes say
-- one segment or two, which exist
record Ranges (n first second : ℕ) : Type 0 where
  from : 1 ≤ first
  to : first ≤ n
  other : second ≤ n

ranges : {n first second : ℕ} → StepSays n first second → Ranges n first second
ranges (single h g e) = record { from = h; to = g; other = omega arith }
ranges (pair h g k) = record { from = h; to = omega arith; other = k }

-- one or two
module _ (l : List ℕ) (r : ℕ) where
  abbrev first : ℕ
  first = get_or l (32 + 2 * r) 0

  abbrev second : ℕ
  second = get_or l (33 + 2 * r) 0

  abbrev chosen : Bool → Found
  chosen t = cond t (found.One first (17 + 2 * r)) (found.Two first (17 + 2 * r) second (18 + 2 * r))

  one_in : second ≡ 0 → step_in l r ≡ found.One first (17 + 2 * r)
  unfolding step_in
  one_in z = ap chosen (eq-eqb second 0 z)

  two_in : second ≢ 0 → step_in l r ≡ found.Two first (17 + 2 * r) second (18 + 2 * r)
  unfolding step_in
  two_in h = ap chosen (ne_eqb second 0 h)

  by_second : (P : Found → Type 0) → (second ≡ 0 → P (found.One first (17 + 2 * r))) → (1 ≤ second → P (found.Two first (17 + 2 * r) second (18 + 2 * r))) → P (step_in l r)
  by_second P p q =
      by_order second 1
      (λ h. let z : second ≡ 0 = omega arith in subst P (sym (one_in z)) (p z))
      (λ h. subst P (sym (two_in (λ z. omega arith))) (q h))

  -- as the code reads them
  module _ (x : ℕ) (is_x : x ≡ get_or l (32 + 2 * r) 0) (y : ℕ) (is_y : y ≡ get_or l (33 + 2 * r) 0) where
    pub step_single : y ≡ 0 → found.One x (17 + 2 * r) ≡ step_in l r
    step_single z = ap (λ (s : ℕ). found.One s (17 + 2 * r)) is_x ∙ sym (one_in (sym is_y ∙ z))

    pub step_pair : y ≢ 0 → found.Two x (17 + 2 * r) y (18 + 2 * r) ≡ step_in l r
    step_pair h =
        ap₂ (λ (s t : ℕ). found.Two s (17 + 2 * r) t (18 + 2 * r)) is_x is_y ∙ sym (two_in (λ z. h (is_y ∙ z)))

-- what block j of step r holds
held_is : (b : Book) (r j : ℕ) (cs : List Copy) (k : Copy) → j < 2 → slice_get b.history.kept r ≡ Some cs → slice_get cs j ≡ Some k
    → held_in b (part_of (17 + 2 * r + j)) ≡ Some k.held
unfolding held_in
held_is b r j cs k h e f = rw (part_before r j h, e, f)

-- a sound book that has a step has a newest one
pub last_step : (l : List ℕ) (n r : ℕ) → is_sound l ≡ true → n ≡ get_or l 24 0 → n ≢ 0 → r ≡ n - 1 → LastStep l r
last_step l n r sound is ne er =
    let count : get_or l 24 0 ≡ r + 1 = by_order n 1 (λ h. let z : n ≡ 0 = omega arith in impossible (ne z)) (λ h. omega arith) in
    record { sound = sound; count = count; sixteen = omega (arith, count, (sound_parts l sound).sixteen) }

module _ (l : List ℕ) (r : ℕ) (s : LastStep l r) where
  -- its segments exist
  ranged : Ranges (get_or l 4 0) (first l r) (second l r)
  ranged = ranges (step_cases l (sound_parts l s.sound) r (omega (arith, s.count)))

  -- it is in the book, and it is the newest
  step_there : slice_get (book_of l).history.kept r ≡ Some (step_of l r)
  step_there = step_of_lem l r (omega (arith, s.count))

  pub step_count : length (book_of l).history.kept ≡ r + 1
  step_count = steps_length l ∙ s.count

  pub newest_is : newest (book_of l).history.kept ≡ Some (step_of l r)
  unfolding newest
  newest_is =
      let e : length (book_of l).history.kept - 1 ≡ r = omega (arith, step_count) in
      ap (slice_get (book_of l).history.kept) e ∙ step_there

  -- its copies: one or two
  step_one : second l r ≡ 0 → step_of l r ≡ copy_at l (first l r) (17 + 2 * r) ∷ []
  unfolding step_of
  step_one z = copies_one l (first l r) (second l r) (17 + 2 * r) ranged.from z

  step_two : 1 ≤ second l r → step_of l r ≡ copy_at l (first l r) (17 + 2 * r) ∷ copy_at l (second l r) (suc (17 + 2 * r)) ∷ []
  unfolding step_of
  step_two h = copies_two l (first l r) (second l r) (17 + 2 * r) ranged.from h

  -- what its first block holds, and its second
  first_held : (k : Copy) → slice_get (step_of l r) 0 ≡ Some k → held_in (book_of l) (part_of (17 + 2 * r)) ≡ Some k.held
  first_held k e =
      let z : 17 + 2 * r ≡ 17 + 2 * r + 0 = omega arith in
      ap (λ (i : ℕ). held_in (book_of l) (part_of i)) z ∙ held_is (book_of l) r 0 (step_of l r) k (omega arith) step_there e

  second_held : (k : Copy) → slice_get (step_of l r) 1 ≡ Some k → held_in (book_of l) (part_of (18 + 2 * r)) ≡ Some k.held
  second_held k e =
      let z : 18 + 2 * r ≡ 17 + 2 * r + 1 = omega arith in
      ap (λ (i : ℕ). held_in (book_of l) (part_of i)) z ∙ held_is (book_of l) r 1 (step_of l r) k (omega arith) step_there e

  first_stands : (ks : List Copy) → step_of l r ≡ copy_at l (first l r) (17 + 2 * r) ∷ ks
      → Stands (book_of l) (first l r) (17 + 2 * r) (copy_at l (first l r) (17 + 2 * r)).held
  first_stands ks e =
      record {
        one = ranged.from;
        there = omega (arith, segments_length l, ranged.to);
        held = first_held (copy_at l (first l r) (17 + 2 * r)) (ap (λ (cs : List Copy). slice_get cs 0) e);
      }

  pub step_finds : Finds (book_of l) (step_in l r) (step_of l r)
  step_finds =
      by_second l r (λ (f : Found). Finds (book_of l) f (step_of l r))
      (λ z. record { content = (copy_at l (first l r) (17 + 2 * r)).held; stands = first_stands [] (step_one z); are = step_one z })
      (λ h.
      let q : Copy = copy_at l (second l r) (suc (17 + 2 * r)) in
      record {
        content = (copy_at l (first l r) (17 + 2 * r)).held;
        content2 = q.held;
        stands = first_stands (q ∷ []) (step_two h);
        stands2 = record {
          one = h;
          there = omega (arith, segments_length l, ranged.other);
          held = second_held q (ap (λ (cs : List Copy). slice_get cs 1) (step_two h));
        };
        are = step_two h;
      })

  pub step_placed : AllPlaced block_count (step_in l r)
  step_placed =
      let parts : Parts l = sound_parts l s.sound in
      let put_first : Placing block_count (first l r) (17 + 2 * r) = record {
        one = ranged.from;
        eight = omega (arith, ranged.to, parts.eight);
        low = omega arith;
        high = omega (arith, s.sixteen);
      } in
      record {
        each =
            by_second l r (Placings block_count)
            (λ z. put_first)
            (λ h. (put_first, record { one = h; eight = omega (arith, ranged.other, parts.eight); low = omega arith; high = omega (arith, s.sixteen) }));
      }
