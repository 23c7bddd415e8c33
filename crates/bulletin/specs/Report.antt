-- The reader's answer: what a bulletin says, with each segment's places in the text, purge minute and count.
use Rattle.std.specs.Prelude.{Option, Result, Ok}
use Rattle.std.specs.Prelude.{ℕ, ◌≡◌, List, [], map}
use Rattle.refusal.specs.Answer.{Answer, ok, no, answer_by}
use Rattle.refusal.specs.declared.Refusal.{Refusal}
use Rattle.heading.specs.Heading.{Heading}
use Rattle.heading.specs.Storm.{StormName}
use Rattle.heading.specs.Paper.{paper_heading, paper_storm}
use Rattle.bulletin.specs.Bulletin as rule
use Rattle.segments.specs.Seen.{seen, segments_for, segments_held}
use Rattle.segments.specs.declared.Segment.{Segment}
use Rattle.bulletin.specs.declared.Head.{Head}
use Rattle.bulletin.specs.declared.Bulletin.{Bulletin}

pub record Report : Type 0 where
  pub heading : Heading
  pub identifier : ℕ
  pub issue : ℕ
  pub storm : Option StormName
  pub segments : List Segment

abbrev pub reported : Answer rule.Bulletin → Answer Report
reported (ok b) = ok (record { heading = b.heading; identifier = b.identifier; issue = b.issue; storm = b.storm; segments = map seen b.segments })
reported (no number place) = no number place

-- ---- the code's answer
abbrev pub report_of : Head → List Segment → Report
report_of h gs = record { heading = paper_heading h.heading; identifier = h.identifier; issue = h.issue; storm = paper_storm h.storm; segments = gs }

-- all that a bulletin says
abbrev pub report_said : Bulletin → Report
report_said b = report_of b.head (segments_held b.segments)

-- ---- the promise of reading
abbrev pub segments_reported : Answer Report → List Segment
segments_reported (ok r) = r.segments
segments_reported (no number place) = []

-- what the answer says, and the array of its segments
pub record Reads (text : List ℕ) (year month : ℕ) (r : Result Bulletin Refusal) : Type 0 where
  pub says : answer_by report_said r ≡ reported (rule.read_bulletin text year month)
  pub segments : (b : Bulletin) → r ≡ Ok b → b.segments ≡ segments_for (segments_reported (reported (rule.read_bulletin text year month)))
