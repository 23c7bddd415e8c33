-- The top of a bulletin: lines 1 and 2 and the issue. Assumes nothing.
use Rattle.std.specs.Prelude.{Option, None, Some, Result, Ok, Err, option_map}
use Prim.Native.Nat.{ℕ, ◌≤◌}
use native.Mathlib.Omega.{arith}
use mathlib.Core.Path.{◌≡◌, sym, ap, ◌∙◌}
use mathlib.Core.List.{List}
use mathlib.Core.Bool.{Bool, true, false, cond, ◌&&◌}
use lib.ListN.{length}
use lib.Dec.{leb}
use Rattle.laws.proofs.Tests.{by_order}
use Rattle.refusal.specs.declared.Reason.TheVariants.{WrongLength, WrongHeading, WrongIdentifier, WrongTime}
use Rattle.refusal.specs.Answer.{ok, no, refusal_for, and_then, answer_by, answer_of}
use Rattle.refusal.specs.declared.Refusal.{Refusal}
use Rattle.lines.specs.Lines.{lines_of}
use Rattle.lines.specs.Check.{check_text}
use Rattle.lines.specs.Spans.{span_at, part}
use Rattle.lines.specs.declared.Span.{Span}
use Rattle.lines.proofs.Ends.{next_of, next_last, next_within, lines_step, lines_last, found_none, found_here, found_next}
use Rattle.calendar.specs.Calendar.{is_issue_month, minute_of}
use Rattle.heading.specs.Heading.{heading_of, is_identifier}
use Rattle.heading.specs.Paper.{paper_heading}
use Rattle.heading.specs.declared.Heading.{Heading}
use Rattle.segments.specs.Search.{lines_after}
use Rattle.segments.specs.Searching.{lines_on}
use Rattle.bulletin.specs.Bulletin as rule
use Rattle.bulletin.specs.Bulletin.{is_length, line1, line2}
use Rattle.bulletin.specs.Front.{text_checked, second_of, top_of, above_of}
use Rattle.bulletin.specs.declared.Top.{Top}
use Rattle.segments.proofs.Seeking.{body_of}

-- ---- 1, 5, 2
module _ (s : List ℕ) (year month : ℕ) where
  pub check_length : (leb 1 (length s) && leb (length s) 16384) ≡ false → (r : Refusal) → r ≡ refusal_for WrongLength 0 → answer_of (Err r) ≡ text_checked s year month
  unfolding text_checked is_length and_then
  check_length n r e = rw (e, n)

  module _ (y : (leb 1 (length s) && leb (length s) 16384) ≡ true) (t : Bool) (et : t ≡ is_issue_month year month) where
    pub check_month : t ≡ false → (r : Refusal) → r ≡ refusal_for WrongTime 0 → answer_of (Err r) ≡ text_checked s year month
    unfolding text_checked is_length and_then
    check_month n r e = rw (e, y, ← et, n)

    pub check_text_lem : t ≡ true → (r : Result Unit Refusal) → answer_of r ≡ check_text s → answer_of r ≡ text_checked s year month
    unfolding text_checked is_length and_then
    check_text_lem q r e = rw (y, ← et, q) e

-- ---- the lines one by one
later_is : (s : List ℕ) (at : ℕ) → lines_after (lines_on s at) ≡ lines_on s (next_of s at)
later_is s at =
    by_order at (length s) (λ h. rw (lines_step s at h))
    (λ h. ap lines_after (lines_last s at h) ∙ sym (ap (lines_on s) (next_last s at h) ∙ lines_last s at h))

module _ (s : List ℕ) (at : ℕ) (f : Option Span) (e : f ≡ span_at s at) (l : Span) (z : f ≡ Some l) (line : List ℕ) (q : line ≡ part s at l.end) where
  line1_is : line1 (lines_on s at) ≡ rule.headed (heading_of line)
  line1_is = rw (lines_step s at (found_here s at f e l z), ← body_of s at f e l z line q)

  line2_is : line2 (length s) (lines_on s at) ≡ cond (is_identifier line) (ok at) (no 4 at)
  line2_is = rw (lines_step s at (found_here s at f e l z), ← body_of s at f e l z line q)

-- ---- 3, 4, 5
pub top_empty : (s : List ℕ) (year month : ℕ) (f : Option Span) → f ≡ span_at s 0 → f ≡ None
    → (r : Refusal) → r ≡ refusal_for WrongHeading 0 → answer_by (above_of s) (Err r) ≡ top_of s year month
unfolding top_of and_then
top_empty s year month f e q r p = rw (p, lines_last s 0 (found_none s 0 f e q))

-- line 2, which starts at `second`, and the issue
module _ (s : List ℕ) (year month second : ℕ) (g : Heading) (fb : Option Span) (eb : fb ≡ span_at s second) where
  pub second_short : second ≤ length s → fb ≡ None → (r : Refusal) → r ≡ refusal_for WrongIdentifier second
      → answer_by (above_of s) (Err r) ≡ second_of s year month (lines_on s second) (paper_heading g)
  unfolding second_of and_then
  second_short h z r e =
      let k : length s ≤ second = found_none s second fb eb z in
      let m : length s ≡ second = omega arith in
      rw (e, lines_last s second k, m)

  module _ (b : Span) (qb : fb ≡ Some b) (name : List ℕ) (en : name ≡ part s second b.end) (t : Bool) (et : t ≡ is_identifier name) where
    second_line : line2 (length s) (lines_on s second) ≡ cond t (ok second) (no 4 second)
    second_line = line2_is s second fb eb b qb name en ∙ rw (← et)

    pub second_identifier : t ≡ false → (r : Refusal) → r ≡ refusal_for WrongIdentifier second
        → answer_by (above_of s) (Err r) ≡ second_of s year month (lines_on s second) (paper_heading g)
    unfolding second_of and_then
    second_identifier n r e = rw (e, second_line, n)

    module _ (y : t ≡ true) (m : Option ℕ) (em : m ≡ minute_of (record { year = year; month = month; stamp = g.stamp })) where
      pub second_issue : m ≡ None → (r : Refusal) → r ≡ refusal_for WrongTime 0
          → answer_by (above_of s) (Err r) ≡ second_of s year month (lines_on s second) (paper_heading g)
      unfolding second_of and_then
      second_issue n r e = rw (e, second_line, y, ← em, n)

      third_lines : lines_after (lines_on s second) ≡ lines_on s b.next
      third_lines = later_is s second ∙ ap (lines_on s) (sym (found_next s second fb eb b qb))

      pub second_right : (issue : ℕ) → m ≡ Some issue
          → answer_by (above_of s) (Ok (record { heading = g; identifier = second; issue = issue; third = b.next }))
          ≡ second_of s year month (lines_on s second) (paper_heading g)
      unfolding second_of and_then
      second_right issue z = rw (second_line, y, ← em, z, third_lines)

module _ (s : List ℕ) (year month : ℕ) (fa : Option Span) (ea : fa ≡ span_at s 0) (a : Span) (qa : fa ≡ Some a) (line : List ℕ) (el : line ≡ part s 0 a.end) (h : Option Heading) (eh : option_map paper_heading h ≡ heading_of line) where
  heading_is : line1 (lines_of s) ≡ rule.headed (option_map paper_heading h)
  heading_is = line1_is s 0 fa ea a qa line el ∙ rw eh

  pub top_heading : h ≡ None → (r : Refusal) → r ≡ refusal_for WrongHeading 0 → answer_by (above_of s) (Err r) ≡ top_of s year month
  unfolding top_of and_then
  top_heading q r e =
      let w : line1 (lines_of s) ≡ no 3 0 = heading_is ∙ ap (λ (x : Option Heading). rule.headed (option_map paper_heading x)) q in
      rw (e, w)

  pub second_within : a.next ≤ length s
  second_within = omega (arith, found_next s 0 fa ea a qa, next_within s 0 (omega arith))

  pub top_second : (g : Heading) → h ≡ Some g → (r : Result Top Refusal) → answer_by (above_of s) r ≡ second_of s year month (lines_on s a.next) (paper_heading g)
      → answer_by (above_of s) r ≡ top_of s year month
  unfolding top_of and_then
  top_second g q r e =
      let first-line : line1 (lines_of s) ≡ ok (paper_heading g) = heading_is ∙ ap (λ (x : Option Heading). rule.headed (option_map paper_heading x)) q in
      let next-lines : lines_after (lines_of s) ≡ lines_on s a.next = later_is s 0 ∙ ap (lines_on s) (sym (found_next s 0 fa ea a qa)) in
      rw (first-line, next-lines) e
