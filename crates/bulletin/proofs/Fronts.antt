-- The MND block, its storm, and where the segments start: one law for each way out. Assumes nothing.
use Rattle.heading.specs.declared.Storm.{Storm}
use Rattle.heading.specs.declared.Storm.TheVariants as found
use Rattle.std.specs.Prelude.{Option, None, Some, Result, Ok, Err}
use Prim.Native.Nat.{ℕ, ◌+◌, ◌-◌, ◌≤◌}
use native.Mathlib.Omega.{arith}
use mathlib.Core.Path.{◌≡◌, refl, sym, ap, ◌∙◌}
use mathlib.Core.List.{List, [], ◌∷◌}
use mathlib.Core.Bool.{Bool, true, false, cond, ◌||◌}
use lib.ListN.{length, drop, length-drop}
use borrow.Author.Tests.{eqb-true}
use Rattle.laws.proofs.Tests.{by, apart, and_left}
use Rattle.refusal.specs.declared.Reason.{Reason}
use Rattle.refusal.specs.declared.Reason.TheVariants.{WrongBlock, NoSegment, WrongStorm}
use Rattle.refusal.specs.Answer.{Answer, ok, no, refusal_for, answer_by}
use Rattle.refusal.specs.declared.Refusal.{Refusal}
use Rattle.lines.specs.Bytes.{begins, exactly}
use Rattle.lines.specs.Lines.{Line, blank, opens}
use Rattle.lines.specs.Spans.{span_at, part}
use Rattle.lines.specs.declared.Span.{Span}
use Rattle.lines.proofs.Ends.{end_of, line_at, lines_step, lines_last, found_none, found_here, found_end, span_inside}
use Rattle.lines.proofs.Strings.{exactly_is}
use Rattle.heading.specs.Storm as storm
use Rattle.heading.specs.Storm.{is_office, storm_form, names_storm, StormName, storm_of}
use Rattle.heading.specs.Paper.{paper_storm, paper_named}
use Rattle.segments.specs.Search.{from_first, up_to_first, closes}
use Rattle.segments.specs.Searching.{lines_on, found_lines, LineFrom, Inside}
use Rattle.bulletin.specs.Mnd.{storm_said, office_storm}
use Rattle.bulletin.specs.Starts.{from_line3}
use Rattle.segments.proofs.Seeking.{body_of}

-- ---- an office line, or one that closes the block
abbrev pub office_or_close : List ℕ → Bool
office_or_close line = closes line || is_office line

-- ---- the office line is the first line that is one or closes the block, if it does not close it
first_storm : List Line → Answer (Option StormName)
first_storm [] = ok None
first_storm (l ∷ ls) = cond (closes l.body) (ok None) (storm_said l (storm_of l.body))

office_is : (ls : List Line) → office_storm (from_first is_office (up_to_first closes ls)) ≡ first_storm (from_first office_or_close ls)
unfolding from_first up_to_first first_storm
office_is [] = refl
office_is (l ∷ ls) =
    by (closes l.body) (λ c. simp c) (λ c. by (is_office l.body) (λ o. simp (c, o)) (λ o. simp (c, o) (office_is ls)))

-- ---- the storm
storm_long : (line : List ℕ) → storm_of line ≡ storm.refused_storm → 9 ≤ length line
unfolding storm_of names_storm
storm_long line e =
    by (exactly storm_form (drop (length line - 9) line))
    (λ y. let n : length (drop (length line - 9) line) ≡ 9 = eqb-true _ 9 (and_left _ (begins storm_form (drop (length line - 9) line)) (sym (exactly_is storm_form (drop (length line - 9) line)) ∙ y)) in
    omega (arith, length-drop (length line - 9) line))
    (λ y. let f : storm.no_storm ≡ storm.refused_storm = rw y at e in apart cc)

module _ (s : List ℕ) (from : ℕ) (f : Option Span) (ef : found_lines s f ≡ from_first office_or_close (lines_on s from)) where
  pub storm_none : f ≡ None → answer_by paper_storm (Ok found.None) ≡ office_storm (from_first is_office (up_to_first closes (lines_on s from)))
  unfolding first_storm
  storm_none q = sym (office_is (lines_on s from) ∙ rw (← ef, q))

  module _ (i : Inside s from f) (l : Span) (q : f ≡ Some l) (line : List ℕ) (en : line ≡ part s l.start l.end) (t : Bool) (et : t ≡ closes line) where
    abbrev a : ℕ
    a = l.start

    -- it is the line that starts where it does
    here : span_at s a ≡ Some l
    here = let v : LineFrom s from l = rw q at i in v.is

    body_is : (line_at s a).body ≡ line
    body_is = sym (body_of s a (Some l) (sym here) l refl line en)

    first_is : office_storm (from_first is_office (up_to_first closes (lines_on s from))) ≡ cond t (ok None) (storm_said (line_at s a) (storm_of line))
    unfolding first_storm
    first_is = office_is (lines_on s from) ∙ rw (← ef, q, lines_step s a (span_inside s l here), body_is, ← et)

    pub storm_closed : t ≡ true → answer_by paper_storm (Ok found.None) ≡ office_storm (from_first is_office (up_to_first closes (lines_on s from)))
    storm_closed y = sym (first_is ∙ rw y)

    module _ (n : t ≡ false) (m : Result Storm Reason) (em : paper_named m ≡ storm_of line) where
      said_is : office_storm (from_first is_office (up_to_first closes (lines_on s from))) ≡ storm_said (line_at s a) (paper_named m)
      said_is = first_is ∙ rw (n, em)

      pub storm_right : (x : Storm) → m ≡ Ok x → answer_by paper_storm (Ok x) ≡ office_storm (from_first is_office (up_to_first closes (lines_on s from)))
      storm_right x y = sym (said_is ∙ ap (λ (k : Result Storm Reason). storm_said (line_at s a) (paper_named k)) y ∙ plain x)
        where
          plain : (x : Storm) → storm_said (line_at s a) (paper_named (Ok x)) ≡ ok (paper_storm x)
          plain found.None = refl
          plain (found.Found id) = refl

      module _ (v : Reason) (y : m ≡ Err v) where
        end_is : l.end ≡ a + length line
        unfolding end_of
        end_is = found_end s a (Some l) (sym here) l refl ∙ ap (λ (x : List ℕ). a + length x) body_is

        long : 9 ≤ length line
        long = storm_long line (sym em ∙ ap paper_named y)

        pub storm_room : 8 ≤ l.end
        storm_room = omega (arith, end_is, long)

        pub storm_wrong : v ≡ WrongStorm → (w : Refusal) → w ≡ refusal_for v (l.end - 8) → answer_by paper_storm (Err w) ≡ office_storm (from_first is_office (up_to_first closes (lines_on s from)))
        storm_wrong ev w ew =
            let e : a + (length line - 8) ≡ l.end - 8 = omega (arith, end_is, long) in
            rw (ew, ev) (sym (said_is ∙ ap (λ (k : Result Storm Reason). storm_said (line_at s a) (paper_named k)) y ∙ rw (body_is, e)))

-- ---- line 3
module _ (s : List ℕ) (third : ℕ) (past : List Line) where
  pub place_none : (f : Option Span) → f ≡ span_at s third → f ≡ None → (w : Refusal) → w ≡ refusal_for NoSegment (length s) → answer_by (lines_on s) (Err w) ≡ from_line3 past (length s) (lines_on s third)
  place_none f e q w ew = rw (ew, lines_last s third (found_none s third f e q))

  module _ (f : Option Span) (ef : f ≡ span_at s third) (l : Span) (el : f ≡ Some l) (line : List ℕ) (en : line ≡ part s third l.end) (t : Bool) (et : t ≡ blank line) where
    line3 : from_line3 past (length s) (lines_on s third) ≡ cond t (ok past) (cond (opens line) (ok (lines_on s third)) (no 6 third))
    line3 = rw (lines_step s third (found_here s third f ef l el), ← body_of s third f ef l el line en, ← et)

    pub place_blank : t ≡ true → (r : ℕ) → lines_on s r ≡ past → answer_by (lines_on s) (Ok r) ≡ from_line3 past (length s) (lines_on s third)
    place_blank y r q = ap ok q ∙ sym (line3 ∙ rw y)

    module _ (n : t ≡ false) (o : Bool) (eo : o ≡ opens line) where
      pub place_opens : o ≡ true → answer_by (lines_on s) (Ok third) ≡ from_line3 past (length s) (lines_on s third)
      place_opens y = sym (line3 ∙ rw (n, ← eo, y))

      pub place_wrong : o ≡ false → (w : Refusal) → w ≡ refusal_for WrongBlock third → answer_by (lines_on s) (Err w) ≡ from_line3 past (length s) (lines_on s third)
      place_wrong y w ew = rw ew (sym (line3 ∙ rw (n, ← eo, y)))
