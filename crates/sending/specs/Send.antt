-- Document 02, R-1: the rule of the call that writes the edited bulletin out.
use Rattle.std.specs.Prelude.{ℕ, ◌≡◌, List, Bool, ◌&&◌, length, eqb}
use Rattle.std.specs.Prelude.{Option, None, Some, Result}
use Rattle.refusal.specs.declared.Reason.TheVariants.{WrongLength, WrongTime, NotSound, NotBelonging}
use Rattle.refusal.specs.Answer.{Answer, refused, must, and_then, answer_of}
use Rattle.refusal.specs.declared.Refusal.{Refusal}
use Rattle.calendar.specs.Calendar.{date_of}
use Rattle.calendar.specs.declared.Date.{Date}
use Rattle.writing.specs.Write.{fitting, length_of, output_of}
use Rattle.bulletin.specs.Bulletin.{Bulletin, is_length, read_bulletin}
use Rattle.blocks.specs.Block.{book_length}
use Rattle.steps.specs.Book.{Book}
use Rattle.layout.specs.Layout.{book_of}
use Rattle.layout.specs.Tests.{is_sound}
use Rattle.forms.specs.Edited.{edited, ends_in, written_forms}

-- "The text is read afresh under the year and month of the book's issue minute": a sound book's has both (`sound_dated`).
abbrev pub read_under : List ℕ → Option Date → Answer Bulletin
read_under text None = refused WrongTime 0
read_under text (Some d) = read_bulletin text d.year d.month

-- "it belongs to the book if it reads, and its issue and segment count agree"
unfoldable pub belongs : Book → Bulletin → Bool
belongs b r = eqb r.issue b.issue && eqb (length r.segments) (length b.segments)

-- "Refusals: 1 for either length, 12, reading's own, 27 (does not belong), 23 last." `room` is the output's length.
unfoldable pub edited_rule : List ℕ → List ℕ → ℕ → Answer (List ℕ)
edited_rule text l room =
    and_then (must (is_length text && eqb (length l) book_length) WrongLength 0) λ _.
    and_then (must (is_sound l) NotSound 0) λ _.
    and_then (read_under text (date_of (book_of l).issue)) λ r.
    and_then (must (belongs (book_of l) r) NotBelonging 0) λ _.
    and_then (written_forms (ends_in r.segments) (book_of l).segments) λ blocks.
    fitting room (edited text r.segments blocks)

-- the promise of the call: the answer, and the output afterwards; "its length is answered and later bytes stay"
pub record WritesEdited (text l before after : List ℕ) (r : Result ℕ Refusal) : Type 0 where
  pub answer : answer_of r ≡ length_of (edited_rule text l (length before))
  pub output : after ≡ output_of (edited_rule text l (length before)) before
