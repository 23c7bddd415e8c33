-- Document 01: "The core hands back the segment as a part of the caller's own text, line ends with it, by number from 1."
use Rattle.std.specs.Prelude.{ℕ, zero, suc, List, [], ◌∷◌}
use Rattle.refusal.specs.declared.Reason.TheVariants.{NoSuchSegment}
use Rattle.refusal.specs.Answer.{Answer, ok, no, refused, and_then}
use Rattle.lines.specs.Spans.{part}
use Rattle.bulletin.specs.Bulletin.{read_bulletin}
use Rattle.bulletin.specs.Report.{Report, reported}
use Rattle.segments.specs.declared.Segment.{Segment}

-- "A view's 15 comes last."
unfoldable pub numbered : ℕ → List Segment → Answer Segment
numbered n [] = refused NoSuchSegment 0
numbered zero (g ∷ gs) = refused NoSuchSegment 0
numbered (suc zero) (g ∷ gs) = ok g
numbered (suc (suc n)) (g ∷ gs) = numbered (suc n) gs

abbrev pub segment_in : ℕ → Report → Answer Segment
segment_in n r = numbered n r.segments

unfoldable pub view_of : List ℕ → ℕ → ℕ → ℕ → Answer Segment
view_of text year month n = and_then (reported (read_bulletin text year month)) (segment_in n)

abbrev pub accepted : Answer Segment → Answer Unit
accepted (ok g) = ok tt
accepted (no number place) = no number place

-- "a returned part is empty" on refusal
abbrev pub part_viewed : Answer Segment → List ℕ → List ℕ
part_viewed (ok g) text = part text g.start g.past
part_viewed (no number place) text = []
