-- Document 01, "Numbered refusals": the order of reading a bulletin.
use Rattle.std.specs.Prelude.{ℕ, List, [], ◌∷◌, Bool, cond, ◌&&◌, length, leb}
use Rattle.std.specs.Prelude.{Option, None, Some}
use Rattle.refusal.specs.declared.Reason.TheVariants.{WrongLength, WrongHeading, WrongIdentifier, WrongTime}
use Rattle.refusal.specs.Answer.{Answer, ok, refused, must, and_then}
use Rattle.lines.specs.Lines.{Line, lines_of}
use Rattle.lines.specs.Check.{check_text}
use Rattle.calendar.specs.Calendar.{is_issue_month, minute_of}
use Rattle.heading.specs.Heading.{Heading, heading_of, is_identifier}
use Rattle.heading.specs.Storm.{StormName}
use Rattle.segments.specs.Search.{lines_after}
use Rattle.bulletin.specs.Mnd.{storm_in}
use Rattle.segments.specs.Segments.{Segment}
use Rattle.bulletin.specs.Starts.{segments_of}

-- "A text is 1 to 16,384 bytes."
abbrev pub text_most : ℕ
text_most = 16384

unfoldable pub is_length : List ℕ → Bool
is_length text = leb 1 (length text) && leb (length text) text_most

-- line 1
abbrev pub headed : Option Heading → Answer Heading
headed None = refused WrongHeading 0
headed (Some h) = ok h

abbrev pub line1 : List Line → Answer Heading
line1 [] = refused WrongHeading 0
line1 (l ∷ ls) = headed (heading_of l.body)

-- line 2: its start; without it, it would start at text length
abbrev pub line2 : ℕ → List Line → Answer ℕ
line2 stop [] = refused WrongIdentifier stop
line2 stop (l ∷ ls) = cond (is_identifier l.body) (ok l.start) (refused WrongIdentifier l.start)

-- "The issue day must exist in its month."
abbrev pub issued : Option ℕ → Answer ℕ
issued None = refused WrongTime 0
issued (Some minute) = ok minute

-- what a bulletin says
pub record Bulletin : Type 0 where
  pub heading : Heading
  pub identifier : ℕ
  pub issue : ℕ
  pub storm : Option StormName
  pub segments : List Segment

-- "Order, reading: 1, 5 (year, month), 2, 3, 4, 5 (issue), 10, then 6 at the start of a line 3 that opens nothing, or 7 (also without a line 3); then segment by segment 9, 6, 25, 5, 11, 8."
unfoldable pub read_bulletin : List ℕ → ℕ → ℕ → Answer Bulletin
read_bulletin text year month =
    and_then (must (is_length text) WrongLength 0) λ _.
    and_then (must (is_issue_month year month) WrongTime 0) λ _.
    and_then (check_text text) λ _.
    and_then (line1 (lines_of text)) λ heading.
    and_then (line2 (length text) (lines_after (lines_of text))) λ identifier.
    and_then (issued (minute_of (record { year = year; month = month; stamp = heading.stamp }))) λ issue.
    and_then (storm_in (lines_of text)) λ storm.
    and_then (segments_of text issue (lines_of text)) λ segments.
    ok (record { heading = heading; identifier = identifier; issue = issue; storm = storm; segments = segments })
