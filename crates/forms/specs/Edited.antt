-- Document 02, R-1, as R-5 amends it: "write the text with each segment's block replaced by the book's written form, every other byte kept".
use Rattle.std.specs.Prelude.{ℕ, List, [], ◌∷◌, ◌++◌, map, drop}
use Rattle.refusal.specs.Answer.{Answer, ok, and_then}
use Rattle.lines.specs.Spans.{part}
use Rattle.lines.specs.declared.End.{End}
use Rattle.codes.specs.Block.{Content}
use Rattle.writing.specs.Write.{written_block}
use Rattle.segments.specs.Segments.{Segment}

-- The text from a place on: its own bytes up to the next segment's block, the new block in place of the old one, and so on behind the old one's last line.
-- Behind the last block, the text's own bytes.
unfoldable pub edited_from : ℕ → List ℕ → List Segment → List (List ℕ) → List ℕ
edited_from at text [] blocks = drop at text
edited_from at text (g ∷ gs) [] = drop at text
edited_from at text (g ∷ gs) (b ∷ blocks) = part text at g.start ++ (b ++ edited_from g.block text gs blocks)

abbrev pub edited : List ℕ → List Segment → List (List ℕ) → List ℕ
edited text gs blocks = edited_from 0 text gs blocks

-- how the first lines of these segments' blocks ended
abbrev pub ends_in : List Segment → List End
ends_in gs = map (λ (g : Segment). g.ended) gs

-- "the book's written form": that of each content, in order. R-5 "ends each new block's lines as that block's first line in the text ended": one end for each.
-- The writer's 24 is never met in a sound book (`forms_given`).
unfoldable pub written_forms : List End → List Content → Answer (List (List ℕ))
written_forms ends [] = ok []
written_forms [] (c ∷ cs) = ok []
written_forms (end ∷ ends) (c ∷ cs) =
    and_then (written_block end c.places c.purge) λ block.
    and_then (written_forms ends cs) λ blocks.
    ok (block ∷ blocks)
