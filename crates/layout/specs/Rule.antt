-- The rule of every call on a book's bytes: 1, 12, then what the steps of document 01 say of the book that the bytes hold.
use Rattle.std.specs.Prelude.{ℕ, ◌≡◌, List, [], ◌∷◌, length, eqb, Result}
use Rattle.refusal.specs.declared.Reason.TheVariants.{WrongLength, NotSound}
use Rattle.refusal.specs.Answer.{Answer, ok, must, and_then, answer_by}
use Rattle.refusal.specs.declared.Refusal.{Refusal}
use Rattle.blocks.specs.Block.{book_length}
use Rattle.steps.specs.Calls.{Call, Value, BookAnswer, draft, done, number, was, changed, settle, book_rule}
use Rattle.layout.specs.Layout.{bytes_of, book_of}
use Rattle.layout.specs.Tests.{is_sound}
use Rattle.layout.specs.declared.Changed.{Changed}
use Rattle.layout.specs.declared.Changed.TheVariants.{Nothing, One, Two}
use Rattle.layout.specs.declared.Reply.{Reply}
use Rattle.layout.specs.declared.Reply.TheVariants as reply

-- "Book calls: 1, 12, .." and then the refusals of the book that the bytes hold; what is left are the bytes of the book that the call leaves
unfoldable pub bytes_rule : List ℕ → Call → Answer (Value × List ℕ)
bytes_rule l c =
    and_then (must (eqb (length l) book_length) WrongLength 0) λ _.
    and_then (must (is_sound l) NotSound 0) λ _.
    and_then (book_rule (book_of l) c) λ r.
    ok (r.0, bytes_of r.1)

-- what the call answers, and the bytes that it leaves: a refused one leaves those that it was lent
unfoldable pub on_bytes : List ℕ → Call → BookAnswer × List ℕ
on_bytes l c = settle l (bytes_rule l c)

-- ---- the code's answers as this paper's
abbrev pub segments_said : Changed → List ℕ
segments_said Nothing = []
segments_said (One a) = a ∷ []
segments_said (Two a b) = a ∷ b ∷ []

abbrev pub value_said : Reply → Value
value_said (reply.Draft d) = draft d
value_said reply.Done = done
value_said (reply.Number n) = number n
value_said (reply.Was there) = was there
value_said (reply.Segments c) = changed (segments_said c)

-- the promise of a call that changes a book: its answer, and every byte afterwards
pub record Does (before after : List ℕ) (c : Call) (r : Result Reply Refusal) : Type 0 where
  pub answer : answer_by value_said r ≡ (on_bytes before c).0
  pub left : after ≡ (on_bytes before c).1
