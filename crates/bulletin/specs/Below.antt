-- Serves the code: the rest of the order of reading, from the storm on and from the segments on, and what a function that reads on from there promises.
use Rattle.heading.specs.declared.Storm.{Storm}
use Rattle.std.specs.Prelude.{ℕ, ◌≡◌, List, [], ◌∷◌, length}
use Rattle.std.specs.Prelude.{Option, Result, Ok, IfOk}
use Rattle.refusal.specs.declared.Reason.TheVariants.{NoSegment}
use Rattle.refusal.specs.Answer.{Answer, ok, refused, and_then, answer_by}
use Rattle.refusal.specs.declared.Refusal.{Refusal}
use Rattle.lines.specs.Lines.{blank}
use Rattle.heading.specs.Storm.{is_office, StormName}
use Rattle.heading.specs.Paper.{paper_heading}
use Rattle.segments.specs.Search.{from_first, up_to_first, after_first, closes}
use Rattle.segments.specs.Searching.{lines_on}
use Rattle.bulletin.specs.Mnd.{office_storm}
use Rattle.segments.specs.Segments.{segments_from, most}
use Rattle.bulletin.specs.Starts.{from_line3}
use Rattle.segments.specs.Seen.{segments_for, segments_held, Sized}
use Rattle.segments.specs.Listing.{seen_of, seen_from}
use Rattle.segments.specs.KeptBy.{kept_from}
use Rattle.bulletin.specs.Report.{Report, report_of, report_said}
use Rattle.segments.specs.declared.Segment.{Segment}
use Rattle.bulletin.specs.declared.Top.{Top}
use Rattle.bulletin.specs.declared.Head.{Head}
use Rattle.bulletin.specs.declared.Bulletin.{Bulletin}

abbrev pub some_seen : ℕ → (List Segment → Report) → List Segment → Answer Report
some_seen stop report [] = refused NoSegment stop
some_seen stop report (g ∷ gs) = ok (report (g ∷ gs))

unfoldable pub listed_of : List ℕ → ℕ → Head → Answer Report
listed_of text from h = and_then (seen_from most text h.issue from) (some_seen (length text) (report_of h))

abbrev pub head_of : Top → Storm → Head
head_of t storm = record { heading = t.heading; identifier = t.identifier; issue = t.issue; storm = storm }

abbrev pub below_top : Top → Option StormName → List Segment → Report
below_top t storm gs = record { heading = paper_heading t.heading; identifier = t.identifier; issue = t.issue; storm = storm; segments = gs }

unfoldable pub below_of : List ℕ → Top → Answer Report
below_of text t =
    and_then (office_storm (from_first is_office (up_to_first closes (after_first blank (lines_on text t.third))))) λ storm.
    and_then (from_line3 (after_first closes (after_first blank (lines_on text t.third))) (length text) (lines_on text t.third)) λ ls.
    and_then (seen_of (segments_from most text t.issue ls)) (some_seen (length text) (below_top t storm))

-- an answer that says this, with its array; if it is accepted, the places of its segments are kept in the lent numbers
pub record Answers (text : List ℕ) (said : Answer Report) (before after : List ℕ) (r : Result Bulletin Refusal) : Type 0 where
  pub says : answer_by report_said r ≡ said
  pub segments : (b : Bulletin) → r ≡ Ok b → b.segments ≡ segments_for (segments_held b.segments)
  pub sized : IfOk r (λ b. Sized b.segments)
  pub kept : (b : Bulletin) → r ≡ Ok b → after ≡ kept_from text b.head.issue 0 (segments_held b.segments) before
