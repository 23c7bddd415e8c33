-- What the reader's functions answer of a bulletin, and of one of its segments.
use Rattle.std.specs.Prelude.{ℕ, List, map, length}
use Rattle.std.specs.Prelude.{Option, None, Some}
use Rattle.std.specs.Prelude.{slice_get}
use Rattle.refusal.specs.declared.Reason.TheVariants.{OutOfRange}
use Rattle.refusal.specs.Answer.{Answer, ok, no, refused, and_then}
use Rattle.codes.specs.Block.{Content}
use Rattle.steps.specs.Book.{at}
use Rattle.steps.specs.Calls as calls
use Rattle.bulletin.specs.Bulletin.{Bulletin, read_bulletin}
use Rattle.segments.specs.Segments as segments
use Rattle.bulletin.specs.Report.{Report}
use Rattle.segments.specs.declared.Segment.{Segment}
use Rattle.making.specs.Make.{or_no_segment}
use Rattle.packing.specs.Packing.{bbb_bits, storm_bits, viewed, view_bits}

-- ---- of a bulletin
abbrev pub issue_in : Report → ℕ
issue_in r = r.issue

abbrev pub count_in : Report → ℕ
count_in r = length r.segments

abbrev pub bbb_in : Report → ℕ
bbb_in r = bbb_bits r.heading.bbb

abbrev pub identifier_in : Report → ℕ
identifier_in r = r.identifier

abbrev pub storm_bits_in : Report → ℕ
storm_bits_in r = storm_bits r.storm

-- ---- of a segment
abbrev pub view_bits_of : Segment → ℕ
view_bits_of g = view_bits (viewed g)

abbrev pub block_end_of : Segment → ℕ
block_end_of g = g.block

abbrev pub purge_minute_of : Segment → ℕ
purge_minute_of g = g.purge

abbrev pub count_of : Segment → ℕ
count_of g = g.count

-- the place at an index, as the book's call on a copy answers it: reading's refusals, 15, then 24
abbrev pub contents_of : Bulletin → List Content
contents_of b = map (λ (g : segments.Segment). g.content) b.segments

abbrev pub place_at : Option ℕ → calls.BookAnswer
place_at None = refused OutOfRange 0
place_at (Some p) = ok (calls.number p)

abbrev pub place_answer : ℕ → Answer Content → calls.BookAnswer
place_answer i (ok c) = place_at (slice_get c.places i)
place_answer i (no reason place) = no reason place

unfoldable pub place_in : List ℕ → ℕ → ℕ → ℕ → ℕ → calls.BookAnswer
place_in text year month n i =
    and_then (read_bulletin text year month) λ b.
    place_answer i (or_no_segment (at (contents_of b) n))
