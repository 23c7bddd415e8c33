-- Document 01, "Segments and place code blocks": the content of a segment, and where its purge stands.
use Rattle.std.specs.Prelude.{ℕ, List}
use Rattle.refusal.specs.declared.Reason.TheVariants.{WrongBlock}
use Rattle.refusal.specs.Answer.{Answer, ok, refused, and_then}
use Rattle.codes.specs.Block.{Read, block, wrong_at, read_block, Content, content_at}

-- the place of the purge element; a block that is wrong has none
abbrev pub purge_place : Read → Answer ℕ
purge_place (block ps s at) = ok at
purge_place (wrong_at place) = refused WrongBlock place

pub record Placed : Type 0 where
  pub content : Content
  pub at : ℕ

-- the content of the segment that starts at a place of the text, under an issue, and the place of its purge element
unfoldable pub placed_at : List ℕ → ℕ → ℕ → Answer Placed
placed_at text issue start =
    and_then (content_at text issue start) λ c.
    and_then (purge_place (read_block text start)) λ at.
    ok (record { content = c; at = at })
