-- Document 01, "Segments and place code blocks": the segments of a bulletin.
use Rattle.std.specs.Prelude.{ℕ, zero, suc, List, [], ◌∷◌, cond, ltb}
use Rattle.refusal.specs.declared.Reason.TheVariants.{NoEnd, NinthSegment}
use Rattle.refusal.specs.Answer.{Answer, ok, refused, and_then}
use Rattle.lines.specs.Lines.{Line, is_end, opens}
use Rattle.lines.specs.declared.End.{End}
use Rattle.codes.specs.Block.{Content}
use Rattle.reading.specs.Placed.{placed_at}
use Rattle.segments.specs.Search.{from_first}

-- its first byte's place, where its block starts too; the place after its block's last line, and after its `$$` line; how its first line ended; and its content
pub record Segment : Type 0 where
  pub start : ℕ
  pub block : ℕ
  pub past : ℕ
  pub ended : End
  pub content : Content

-- "Purge: `DDHHMM` .. It ends the block and its line.": the place after the line that has the purge, of the lines from the segment's first on. Its element stands at `at`.
unfoldable pub past_purge : ℕ → Line → List Line → ℕ
past_purge at l [] = l.next
past_purge at l (m ∷ ls) = cond (ltb at l.next) l.next (past_purge at m ls)

-- "A segment runs up to and with the line that is exactly `$$`." l is its first line; 8 at its start where there is none; the next segments stand in the lines after it.
abbrev pub runs_to : Line → (block : ℕ) → Content → (List Line → Answer (List Segment)) → List Line → Answer (List Segment)
runs_to l block c next [] = refused NoEnd l.start
runs_to l block c next (e ∷ ls) = and_then (next ls) (λ ss. ok (record { start = l.start; block = block; past = e.next; ended = l.ended; content = c } ∷ ss))

-- in each segment 6, 25, 5 and 11, then 8
abbrev pub opened : List ℕ → ℕ → (List Line → Answer (List Segment)) → List Line → Answer (List Segment)
opened text issue next [] = ok []
opened text issue next (l ∷ ls) =
    and_then (placed_at text issue l.start) λ p.
    runs_to l (past_purge p.at l ls) p.content next (from_first is_end (l ∷ ls))

-- | 9 | a ninth segment | its start |
abbrev pub ninth : List Line → Answer (List Segment)
ninth [] = ok []
ninth (l ∷ ls) = refused NinthSegment l.start

-- "Each next segment starts at the next such line after the previous `$$`. Lines between are passed over." At most n more.
unfoldable pub segments_from : ℕ → List ℕ → ℕ → List Line → Answer (List Segment)
segments_from zero text issue ls = ninth (from_first opens ls)
segments_from (suc n) text issue ls = opened text issue (segments_from n text issue) (from_first opens ls)

-- "A bulletin has 1 to 8 segments."
abbrev pub most : ℕ
most = 8
