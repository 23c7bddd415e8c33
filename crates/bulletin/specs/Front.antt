-- Serves the code: what its answers mean, up to the first segment, and the order of reading up to there.
use Rattle.std.specs.Prelude.{ℕ, length, List}
use Rattle.refusal.specs.declared.Reason.TheVariants.{WrongLength, WrongTime}
use Rattle.lines.specs.Check.{check_text}
use Rattle.calendar.specs.Calendar.{is_issue_month, minute_of}
use Rattle.heading.specs.Heading.{Heading}
use Rattle.heading.specs.Paper.{paper_heading}
use Rattle.refusal.specs.Answer.{Answer, ok, must, and_then}
use Rattle.lines.specs.Lines.{Line, lines_of}
use Rattle.segments.specs.Search.{lines_after}
use Rattle.segments.specs.Searching.{lines_on}
use Rattle.bulletin.specs.Bulletin.{is_length, line1, line2, issued}
use Rattle.bulletin.specs.declared.Top.{Top}

-- 1, 5 (year, month), 2
unfoldable pub text_checked : List ℕ → ℕ → ℕ → Answer Unit
text_checked text year month =
    and_then (must (is_length text) WrongLength 0) λ _.
    and_then (must (is_issue_month year month) WrongTime 0) λ _.
    check_text text

-- 3, 4, 5 (issue): and the lines below line 2
pub record Above : Type 0 where
  pub heading : Heading
  pub identifier : ℕ
  pub issue : ℕ
  pub below : List Line

-- from line 2 on
unfoldable pub second_of : List ℕ → ℕ → ℕ → List Line → Heading → Answer Above
second_of text year month lines heading =
    and_then (line2 (length text) lines) λ identifier.
    and_then (issued (minute_of (record { year = year; month = month; stamp = heading.stamp }))) λ issue.
    ok (record { heading = heading; identifier = identifier; issue = issue; below = lines_after lines })

unfoldable pub top_of : List ℕ → ℕ → ℕ → Answer Above
top_of text year month = and_then (line1 (lines_of text)) (second_of text year month (lines_after (lines_of text)))

-- what the code's top says
abbrev pub above_of : List ℕ → Top → Above
above_of text t = record { heading = paper_heading t.heading; identifier = t.identifier; issue = t.issue; below = lines_on text t.third }
