-- Document 01, "Segments and place code blocks": where the segments of a bulletin start, and all of them.
use Rattle.std.specs.Prelude.{ℕ, List, [], ◌∷◌, cond, length}
use Rattle.refusal.specs.declared.Reason.TheVariants.{WrongBlock, NoSegment}
use Rattle.refusal.specs.Answer.{Answer, ok, refused, and_then}
use Rattle.lines.specs.Lines.{Line, blank, opens}
use Rattle.segments.specs.Search.{lines_after}
use Rattle.segments.specs.Segments.{Segment, segments_from, most}
use Rattle.bulletin.specs.Mnd.{past_mnd}

-- "If line 3 is not blank it must open the first segment. If it is blank, the first segment starts at the first line that opens a block after the MND block and the
-- line that closes it." 6 at the start of a line 3 that opens nothing, or 7, also without a line 3.
abbrev pub from_line3 : List Line → ℕ → List Line → Answer (List Line)
from_line3 past stop [] = refused NoSegment stop
from_line3 past stop (l ∷ ls) = cond (blank l.body) (ok past) (cond (opens l.body) (ok (l ∷ ls)) (refused WrongBlock l.start))

unfoldable pub first_lines : ℕ → List Line → Answer (List Line)
first_lines stop lines = from_line3 (past_mnd lines) stop (lines_after (lines_after lines))

-- | 7 | no segment | text length |
abbrev pub one_or_more : ℕ → List Segment → Answer (List Segment)
one_or_more stop [] = refused NoSegment stop
one_or_more stop (s ∷ ss) = ok (s ∷ ss)

unfoldable pub segments_of : List ℕ → ℕ → List Line → Answer (List Segment)
segments_of text issue lines = and_then (first_lines (length text) lines) (λ ls. and_then (segments_from most text issue ls) (one_or_more (length text)))
