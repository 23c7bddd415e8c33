-- Serves the code: the date of a sound book's issue, and a text that was read under its year and month and belongs to the book.
use Rattle.std.specs.Prelude.{◌≡◌, true, List, map, ℕ}
use Rattle.std.specs.Prelude.{Some}
use Rattle.refusal.specs.Answer.{ok}
use Rattle.calendar.specs.Calendar.{date_of}
use Rattle.calendar.specs.declared.Date.{Date}
use Rattle.bulletin.specs.Bulletin as rule
use Rattle.bulletin.specs.Bulletin.{read_bulletin}
use Rattle.segments.specs.Seen.{seen, segments_held, Sized}
use Rattle.segments.specs.declared.Segments.{Segments}
use Rattle.blocks.specs.Block.{number_at}
use Rattle.layout.specs.Layout.{book_of}
use Rattle.sending.specs.Send.{belongs}

-- a book's issue minute, and the date of that
pub record IssueOn (l : List ℕ) (issue : ℕ) (date : Date) : Type 0 where
  pub is : issue ≡ number_at l 0
  pub on : Some date ≡ date_of issue

-- these are the segments of such a text
pub record Belonging (text l : List ℕ) (gs : Segments) : Type 0 where
  pub date : Date
  pub dated : date_of (book_of l).issue ≡ Some date
  pub said : rule.Bulletin
  pub read : read_bulletin text date.year date.month ≡ ok said
  pub agrees : belongs (book_of l) said ≡ true
  pub are : segments_held gs ≡ map seen said.segments
  pub sized : Sized gs
