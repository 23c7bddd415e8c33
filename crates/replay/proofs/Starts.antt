-- A case's first two lines. Assumes nothing.
use Prim.Native.Nat.{ℕ, zero, suc, ◌+◌, ◌-◌, ◌≤◌, ◌<◌}
use native.Mathlib.Omega.{arith}
use mathlib.Core.Path.{◌≡◌, refl, sym, ap, ◌∙◌}
use mathlib.Core.List.{List, [], ◌∷◌, ◌++◌}
use mathlib.Core.Bool.{cond, ◌&&◌, and-false}
use Rattle.std.specs.Prelude.{Option, None, Some, option_map}
use lib.ListN.{length, get_or, take, drop, length-drop, get_or-eq_default}
use lib.Seq.{drop-drop, get_or-drop, take_all}
use lib.Dec.{eqb}
use borrow.Author.Tests.{eq-eqb, ne_eqb, eqb-true, eqb-false, le-leb, lt-leb}
use Rattle.laws.proofs.Tests.{by}
use Rattle.lines.specs.Bytes.{digit, word, begins}
use Rattle.lines.specs.Spans.{part}
use Rattle.heading.specs.Heading.{times}
use Rattle.printing.specs.Asked.{asked_of}
use Rattle.printing.specs.declared.YearMonth.{YearMonth}
use Rattle.replay.specs.Lines.{decimal, length_line, case_of, digits_in_front, number_from, paper_source, lines_within}
use Rattle.replay.specs.declared.Number.{Number}
use Rattle.replay.specs.declared.Source.{Source}

eqb_suc : (m n : ℕ) → eqb (suc m) (suc n) ≡ eqb m n
eqb_suc m n = by (eqb m n) (λ p. rw p (eq-eqb (suc m) (suc n) (ap suc (eqb-true m n p)))) (λ p. rw p (ne_eqb (suc m) (suc n) (λ e. eqb-false m n p (omega arith))))

-- n digits and LF stand at the front if just n digits do, and LF behind them
form_is : (n k : ℕ) (s : List ℕ) → n < k → begins (times n digit ++ word "\n") s ≡ (eqb (digits_in_front k s) n && eqb (get_or s n 0) 10)
unfolding begins digits_in_front
form_is n zero s h = let no : ⊥ = omega arith in absurd no
form_is zero (suc k) [] h = refl
form_is zero (suc k) (b ∷ s) h = by (eqb b 10) (λ p. let e : b ≡ 10 = eqb-true b 10 p in rw e refl) (λ p. rw (p, and-false))
form_is (suc n) (suc k) [] h = rw (ne_eqb 0 (suc n) (omega arith))
form_is (suc n) (suc k) (b ∷ s) h = by (digit b) (λ d. rw (d, eqb_suc) (form_is n k s (omega arith))) (λ d. rw (d, ne_eqb 0 (suc n) (omega arith)))

length_is : (s : List ℕ) → length_line s ≡ cond (eqb (digits_in_front 10 s) 5 && eqb (get_or s 5 0) 10) (Some (decimal 0 (take 5 s))) None
unfolding length_line
length_is s = rw (form_is 5 10 s (omega arith))

-- The head h of the input s that a case at `at` starts with.
pub record Head (s : List ℕ) (at : ℕ) (h : List ℕ) : Type 0 where
  pub low : at ≤ length s
  pub is : h ≡ drop at s

pub head_is : (s : List ℕ) (at : ℕ) → at ≤ length s → Head s at (take (length s - at) (drop at s))
head_is s at l = record { low = l; is = take_all (length s - at) (drop at s) (rw (length-drop at s) (omega arith)) }

module _ (s : List ℕ) (at : ℕ) (h : List ℕ) (v : Head s at h) (a : Option YearMonth) (ea : a ≡ asked_of h) where
  pub start_unasked : a ≡ None → option_map (paper_source s) None ≡ case_of (drop at s)
  unfolding case_of
  start_unasked e = rw (← v.is, ← ea, e)

  module _ (t : YearMonth) (e : a ≡ Some t) where
    wrong : length_line (drop 8 h) ≡ None → option_map (paper_source s) None ≡ case_of (drop at s)
    unfolding case_of
    wrong z = rw (← v.is, ← ea, e, z)

    pub start_short : length h < 14 → option_map (paper_source s) None ≡ case_of (drop at s)
    start_short l = let g : get_or h 13 0 ≡ 0 = get_or-eq_default h 0 (omega arith) in wrong (length_is (drop 8 h) ∙ rw (get_or-drop 8 h 5 0, g, and-false))

    module _ (n : Number) (en : n ≡ number_from h 8) where
      ends : n.end ≡ 8 + digits_in_front 10 (drop 8 h)
      ends = ap (λ (x : Number). x.end) en

      value : n.value ≡ decimal 0 (take (digits_in_front 10 (drop 8 h)) (drop 8 h))
      value = ap (λ (x : Number). x.value) en

      pub start_other : (n.end ≡ 13 → ⊥) → option_map (paper_source s) None ≡ case_of (drop at s)
      start_other k = wrong (length_is (drop 8 h) ∙ rw (ne_eqb (digits_in_front 10 (drop 8 h)) 5 (λ z. k (omega (arith, ends)))))

      module _ (k : n.end ≡ 13) where
        five : digits_in_front 10 (drop 8 h) ≡ 5
        five = omega (arith, ends)

        pub start_unended : (get_or h 13 0 ≡ 10 → ⊥) → option_map (paper_source s) None ≡ case_of (drop at s)
        start_unended z = wrong (length_is (drop 8 h) ∙ rw (get_or-drop 8 h 5 0, ne_eqb (get_or h 13 0) 10 z, and-false))

        module _ (z : get_or h 13 0 ≡ 10) where
          told : length_line (drop 8 h) ≡ Some n.value
          told =
              length_is (drop 8 h) ∙ rw (get_or-drop 8 h 5 0, eq-eqb (get_or h 13 0) 10 z, five) (ap Some (sym at_five))
            where
              at_five : n.value ≡ decimal 0 (take 5 (drop 8 h))
              at_five = value ∙ rw five

          pub start_few : length h - 14 < n.value → option_map (paper_source s) None ≡ case_of (drop at s)
          unfolding case_of
          start_few l = rw (← v.is, ← ea, e, told, length-drop 14 h, lt-leb n.value (length h - 14) l)

          pub start_case : n.value ≤ length h - 14
              → option_map (paper_source s) (Some (record { year = t.year; month = t.month; start = at + 14; end = at + 14 + n.value })) ≡ case_of (drop at s)
          unfolding case_of
          start_case l = rw (text, more, ← v.is, ← ea, e, told, length-drop 14 h, le-leb n.value (length h - 14) l)
            where
              behind : drop 14 h ≡ drop (at + 14) s
              behind = rw v.is (drop-drop 14 at s)

              text : part s (at + 14) (at + 14 + n.value) ≡ take n.value (drop 14 h)
              text = let o : at + 14 + n.value - (at + 14) ≡ n.value = omega arith in rw (o, behind)

              more : drop (at + 14 + n.value) s ≡ drop n.value (drop 14 h)
              more = rw behind (sym (drop-drop n.value (at + 14) s))

-- the bulletin ends within the input
pub start_end_lem : (s : List ℕ) (at : ℕ) (h : List ℕ) → Head s at h → (14 ≤ length h) → (n : ℕ) → n ≤ length h - 14 → at + 14 + n ≤ length s
start_end_lem s at h v l n k = let e : length h ≡ length s - at = rw v.is (length-drop at s) in omega (arith, v.low)

-- a case that was found, and its call lines
module _ (at n : ℕ) (o : Option Source) (c : Source) (w : lines_within at n o) (e : o ≡ Some c) where
  found : lines_within at n (Some c)
  found = rw e at w

  pub case_low : at < c.end
  case_low = found.0

  pub case_high : c.end ≤ n
  case_high = found.1

  -- the next case is nearer to the input's end
  pub case_less : (r : ℕ) → c.end ≤ r → r ≤ n → n - r < n - at
  case_less r h k = let l : at < c.end = case_low in omega arith
