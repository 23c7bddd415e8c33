-- Document 01, "Steps": make and write.
use Rattle.std.specs.Prelude.{ℕ, ◌≡◌, List, map, length, eqb}
use Rattle.std.specs.Prelude.{Option, None, Some, Result}
use Rattle.refusal.specs.declared.Reason.TheVariants.{WrongLength, NotSound, NoSuchSegment}
use Rattle.refusal.specs.Answer.{Answer, ok, no, refused, must, and_then, answer_of}
use Rattle.refusal.specs.declared.Refusal.{Refusal}
use Rattle.codes.specs.Block.{Content}
use Rattle.lines.specs.declared.End.TheVariants.{CrCrLf}
use Rattle.writing.specs.Write.{written_block, fitting, length_of, output_of}
use Rattle.segments.specs.Segments.{Segment}
use Rattle.bulletin.specs.Bulletin.{Bulletin, read_bulletin}
use Rattle.blocks.specs.Block.{book_length}
use Rattle.steps.specs.Book.{Book, at, new_book}
use Rattle.layout.specs.Layout.{bytes_of, book_of}
use Rattle.layout.specs.Tests.{is_sound}

-- ---- "Make: from text, year and month, no drafts, no steps, into a lent book whose old bytes do not matter; its refusals are reading's, with 1 for either length."
abbrev pub book_from : Bulletin → Book
book_from b = new_book b.issue (map (λ (g : Segment). g.content) b.segments)

unfoldable pub make_rule : List ℕ → List ℕ → ℕ → ℕ → Answer Book
make_rule l text year month =
    and_then (must (eqb (length l) book_length) WrongLength 0) λ _.
    and_then (read_bulletin text year month) λ b.
    ok (book_from b)

abbrev pub made_answer : Answer Book → Answer Unit
made_answer (ok b) = ok tt
made_answer (no number place) = no number place

abbrev pub made_bytes : Answer Book → List ℕ → List ℕ
made_bytes (ok b) l = bytes_of b
made_bytes (no number place) l = l

pub record Makes (before after text : List ℕ) (year month : ℕ) (r : Result Unit Refusal) : Type 0 where
  pub answer : answer_of r ≡ made_answer (make_rule before text year month)
  pub left : after ≡ made_bytes (make_rule before text year month) before

-- ---- "Write: a segment's block, from the book, into a lent output": 1, 12, "15, then 23 after 12"
-- "no such segment"
abbrev pub or_no_segment : {A : Type 0} → Option A → Answer A
or_no_segment None = refused NoSuchSegment 0
or_no_segment (Some x) = ok x

-- a segment's block: what `writing` gives for its places and purge, with lines that "end CR CR LF". In a sound book it gives one for every segment (`segment_blocked`).
abbrev pub block_given : Answer (List ℕ) → Option (List ℕ)
block_given (ok block) = Some block
block_given (no number place) = None

abbrev pub content_form : Option Content → Option (List ℕ)
content_form None = None
content_form (Some c) = block_given (written_block CrCrLf c.places c.purge)

unfoldable pub segment_block : Book → ℕ → Option (List ℕ)
segment_block b s = content_form (at b.segments s)

unfoldable pub write_on : List ℕ → ℕ → ℕ → Answer (List ℕ)
write_on l s room =
    and_then (must (eqb (length l) book_length) WrongLength 0) λ _.
    and_then (must (is_sound l) NotSound 0) λ _.
    and_then (or_no_segment (segment_block (book_of l) s)) λ block.
    fitting room block

-- the promise: the answer, and the output afterwards
pub record WritesOn (l before after : List ℕ) (s : ℕ) (r : Result ℕ Refusal) : Type 0 where
  pub answer : answer_of r ≡ length_of (write_on l s (length before))
  pub output : after ≡ output_of (write_on l s (length before)) before
