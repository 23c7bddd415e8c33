-- What the tests of a draft's and of a step's bytes say, by cases. Assumes nothing.
use mathlib.Core.Path.{◌≡◌, refl, sym}
use mathlib.Core.Logic.{◌≢◌}
use mathlib.Core.Bool.{Bool, true, false, cond, ◌&&◌, ◌||◌, not}
use Prim.Native.Nat.{ℕ, ◌≤◌, ◌<◌}
use native.Mathlib.Omega.{arith}
use lib.Dec.{leb, ltb, eqb}
use borrow.Author.Tests.{leb-true, ltb-true, eqb-true, eq-eqb, eqb-false, not-true}
use Rattle.laws.proofs.Tests.{by, by_order, apart, impossible, and_left, and_right}
use Rattle.layout.specs.Tests.{is_draft, is_step}

-- ---- a draft's four bytes
-- a closed draft; an open one that has taken nothing, one segment, or two
pub data DraftSays (n isOpen first second stale : ℕ) : Type 0 where
  shut : isOpen ≡ 0 → first ≡ 0 → second ≡ 0 → stale ≡ 0 → DraftSays n isOpen first second stale
  bare : isOpen ≡ 1 → first ≡ 0 → second ≡ 0 → stale ≡ 0 → DraftSays n isOpen first second stale
  one : isOpen ≡ 1 → 1 ≤ first → first ≤ n → second ≡ 0 → stale ≤ 1 → DraftSays n isOpen first second stale
  two : isOpen ≡ 1 → 1 ≤ first → first ≤ n → 1 ≤ second → second ≤ n → first ≢ second → stale ≤ 1 → DraftSays n isOpen first second stale

-- a test that is true or another one
or_else : (a b : Bool) → (a || b) ≡ true → a ≡ false → b ≡ true
or_else true b e f = apart cc
or_else false b e f = e

-- neither of two tests is true
neither_left : (a b : Bool) → not (a || b) ≡ true → a ≡ false
neither_left true b e = sym e
neither_left false b e = refl

neither_right : (a b : Bool) → not (a || b) ≡ true → b ≡ false
neither_right true true e = sym e
neither_right true false e = refl
neither_right false b e = not-true b e

-- what is chosen by a test
when_true : (t x y : Bool) → t ≡ true → cond t x y ≡ true → x ≡ true
when_true true x y c e = e
when_true false x y c e = apart cc

when_false : (t x y : Bool) → t ≡ false → cond t x y ≡ true → y ≡ true
when_false true x y c e = apart cc
when_false false x y c e = e

module _ (n isOpen first second stale : ℕ) (e : is_draft n isOpen first second stale ≡ true) where
  -- the tests of an open draft
  apart_test : Bool
  apart_test = eqb second 0 || not (eqb first 0 || eqb first second)

  taken_test : Bool
  taken_test = eqb stale 0 || not (eqb first 0)

  closed_says : eqb isOpen 0 ≡ true → DraftSays n isOpen first second stale
  unfolding is_draft apart_test taken_test
  closed_says c =
      let a1 = eqb first 0 in
      let a2 = eqb second 0 in
      let a3 = eqb stale 0 in
      let f : (a1 && a2 && a3) ≡ true = when_true (eqb isOpen 0) (a1 && a2 && a3) (eqb isOpen 1 && leb first n && leb second n && leb stale 1 && apart_test && taken_test) c e in
      let g = and_left (a1 && a2) a3 f in
      shut (eqb-true isOpen 0 c) (eqb-true first 0 (and_left a1 a2 g)) (eqb-true second 0 (and_right a1 a2 g)) (eqb-true stale 0 (and_right (a1 && a2) a3 f))

  open_says : eqb isOpen 0 ≡ false → DraftSays n isOpen first second stale
  unfolding is_draft apart_test taken_test
  open_says c =
      let a1 = eqb isOpen 1 in
      let a2 = leb first n in
      let a3 = leb second n in
      let a4 = leb stale 1 in
      let f6 : (a1 && a2 && a3 && a4 && apart_test && taken_test) ≡ true =
      when_false (eqb isOpen 0) (eqb first 0 && eqb second 0 && eqb stale 0) (a1 && a2 && a3 && a4 && apart_test && taken_test) c e in
      let f5 = and_left (a1 && a2 && a3 && a4 && apart_test) taken_test f6 in
      let f4 = and_left (a1 && a2 && a3 && a4) apart_test f5 in
      let f3 = and_left (a1 && a2 && a3) a4 f4 in
      let f2 = and_left (a1 && a2) a3 f3 in
      let isOne : isOpen ≡ 1 = eqb-true isOpen 1 (and_left a1 a2 f2) in
      let high : first ≤ n = leb-true first n (and_right a1 a2 f2) in
      let high2 : second ≤ n = leb-true second n (and_right (a1 && a2) a3 f3) in
      let bit : stale ≤ 1 = leb-true stale 1 (and_right (a1 && a2 && a3) a4 f4) in
      let differ : apart_test ≡ true = and_right (a1 && a2 && a3 && a4) apart_test f5 in
      let took : taken_test ≡ true = and_right (a1 && a2 && a3 && a4 && apart_test) taken_test f6 in
      by_order first 1
      (λ k. let z : first ≡ 0 = omega arith in
      let t : eqb first 0 ≡ true = eq-eqb first 0 z in
      bare isOne z
      (by (eqb second 0) (λ d. eqb-true second 0 d) (λ d. apart (let q = neither_left (eqb first 0) (eqb first second) (or_else (eqb second 0) (not (eqb first 0 || eqb first second)) differ d) in cc)))
      (by (eqb stale 0) (λ d. eqb-true stale 0 d) (λ d. apart (let q = not-true (eqb first 0) (or_else (eqb stale 0) (not (eqb first 0)) took d) in cc))))
      (λ k. by (eqb second 0) (λ d. one isOne k high (eqb-true second 0 d) bit)
      (λ d. let q = neither_right (eqb first 0) (eqb first second) (or_else (eqb second 0) (not (eqb first 0 || eqb first second)) differ d) in
      two isOne k high (positive second d) high2 (eqb-false first second q) bit))
    where
      positive : (m : ℕ) → eqb m 0 ≡ false → 1 ≤ m
      positive m d = by_order m 1 (λ h. let z : m ≡ 0 = omega arith in impossible (eqb-false m 0 d z)) (λ h. h)

  -- the test says one of the four
  pub draft_says : DraftSays n isOpen first second stale
  draft_says = by (eqb isOpen 0) closed_says open_says

-- ---- a step's two bytes
-- one segment, or two
pub data StepSays (n first second : ℕ) : Type 0 where
  single : 1 ≤ first → first ≤ n → second ≡ 0 → StepSays n first second
  pair : 1 ≤ first → first < second → second ≤ n → StepSays n first second

-- the test says one of the two
pub step_says : (n first second : ℕ) → is_step n first second ≡ true → StepSays n first second
unfolding is_step
step_says n first second e =
    let a1 = leb 1 first in
    let a2 = leb first n in
    let b1 = ltb first second in
    let b2 = leb second n in
    let a3 = eqb second 0 || (b1 && b2) in
    let f = and_left (a1 && a2) a3 e in
    let g = and_right (a1 && a2) a3 e in
    let low : 1 ≤ first = leb-true 1 first (and_left a1 a2 f) in
    by (eqb second 0) (λ d. single low (leb-true first n (and_right a1 a2 f)) (eqb-true second 0 d))
    (λ d. let h = or_else (eqb second 0) (b1 && b2) g d in
    pair low (ltb-true first second (and_left b1 b2 h)) (leb-true second n (and_right b1 b2 h)))
