-- Which block is which part of a book, and whether it is used. Assumes nothing.
use mathlib.Core.Path.{◌≡◌, subst}
use mathlib.Core.List.{List}
use Prim.Native.Nat.{ℕ, suc, ◌+◌, ◌*◌, ◌-◌, ◌/◌, ◌%◌, ◌≤◌, ◌<◌}
use native.Mathlib.Omega.{arith}
use lib.ListN.{get_or}
use lib.Dec.{ltb, leb}
use borrow.Author.Tests.{lt-ltb, le-ltb}
use Rattle.laws.proofs.Tests.{by_order}
use Rattle.layout.specs.Layout.{segment, copy, before, block_number, first_taken, second_taken, first_before, second_before, part_of}
use Rattle.layout.specs.Tests.{used}

-- ---- halves
half : (m q r : ℕ) → m ≡ 2 * q + r → r < 2 → m / 2 ≡ q
half m q r e h = omega arith

odd : (m q r : ℕ) → m ≡ 2 * q + r → r < 2 → m % 2 ≡ r
odd m q r e h = omega arith

-- ---- the numbering, as the calls count drafts
pub draft_blocks : (d : ℕ) → (first_taken (suc d) ≡ block_number (copy d 0)) × (second_taken (suc d) ≡ block_number (copy d 1))
draft_blocks d = (omega arith, omega arith)

pub step_blocks : (s : ℕ) → (first_before s ≡ block_number (before s 0)) × (second_before s ≡ block_number (before s 1))
step_blocks s = (omega arith, omega arith)

-- ---- segments
pub part_segment : (s : ℕ) → s < 8 → part_of (block_number (segment s)) ≡ segment s
unfolding part_of
part_segment s h = let e : suc s - 1 ≡ s = omega arith in rw (lt-ltb (suc s) 9 (omega arith), e)

pub used_segment : (l : List ℕ) (s : ℕ) → s < 8 → used l (suc s) ≡ leb (suc s) (get_or l 4 0)
unfolding used
used_segment l s h = rw (lt-ltb (suc s) 9 (omega arith))

-- ---- copies: copy r of draft d, both counted from 0
pub part_copy : (d r : ℕ) → d < 4 → r < 2 → part_of (block_number (copy d r)) ≡ copy d r
unfolding part_of
part_copy d r h g =
    let k : ℕ = 9 + 2 * d + r in
    let e : k - 9 ≡ 2 * d + r = omega arith in
    rw (le-ltb k 9 (omega arith), lt-ltb k 17 (omega arith), half (k - 9) d r e g, odd (k - 9) d r e g)

pub used_copy : (l : List ℕ) (d r : ℕ) → d < 4 → r < 2 → used l (9 + 2 * d + r) ≡ ltb 0 (get_or l (9 + 4 * d + r) 0)
unfolding used
used_copy l d r h g =
    let k : ℕ = 9 + 2 * d + r in
    let e : k - 9 ≡ 2 * d + r = omega arith in
    rw (le-ltb k 9 (omega arith), lt-ltb k 17 (omega arith), half (k - 9) d r e g, odd (k - 9) d r e g)

-- ---- steps: block r of step s, both counted from 0
pub part_before : (s r : ℕ) → r < 2 → part_of (block_number (before s r)) ≡ before s r
unfolding part_of
part_before s r g =
    let k : ℕ = 17 + 2 * s + r in
    let e : k - 17 ≡ 2 * s + r = omega arith in
    rw (le-ltb k 9 (omega arith), le-ltb k 17 (omega arith), half (k - 17) s r e g, odd (k - 17) s r e g)

pub used_before : (l : List ℕ) (s r : ℕ) → used l (17 + 2 * s + r) ≡ ltb 0 (get_or l (32 + 2 * s + r) 0)
unfolding used
used_before l s r =
    let k : ℕ = 17 + 2 * s + r in
    let e : 15 + k ≡ 32 + 2 * s + r = omega arith in
    rw (le-ltb k 9 (omega arith), le-ltb k 17 (omega arith), e)

-- ---- what holds of every segment's, copy's and step's block holds of blocks 1..48
module _ (P : ℕ → Type 0) (one : (s : ℕ) → s < 8 → P (suc s)) (two : (d r : ℕ) → d < 4 → r < 2 → P (9 + 2 * d + r))
    (three : (s r : ℕ) → s < 16 → r < 2 → P (17 + 2 * s + r)) where
  pub every_block : (k : ℕ) → 1 ≤ k → k ≤ 48 → P k
  every_block k h g =
      by_order k 9 (λ a. let e : suc (k - 1) ≡ k = omega arith in subst P e (one (k - 1) (omega arith)))
      (λ a. by_order k 17
      (λ b. let e : 9 + 2 * ((k - 9) / 2) + (k - 9) % 2 ≡ k = omega arith in
      subst P e (two ((k - 9) / 2) ((k - 9) % 2) (omega arith) (omega arith)))
      (λ b. let e : 17 + 2 * ((k - 17) / 2) + (k - 17) % 2 ≡ k = omega arith in
      subst P e (three ((k - 17) / 2) ((k - 17) % 2) (omega arith) (omega arith))))
