-- Document 02, R-1 with R-5: what is proved of the rule of the call that writes the edited bulletin out. A reader must believe these notions to believe its laws.
use Rattle.std.specs.Prelude.{ℕ, ◌≤◌, ◌<◌, suc, ◌≡◌, true, false, ◌&&◌, List, map, length, eqb}
use Rattle.std.specs.Prelude.{Some}
use Rattle.laws.specs.Lists.{All}
use Rattle.refusal.specs.declared.Reason.TheVariants.{WrongLength, NotSound, OutputShort, NotBelonging}
use Rattle.refusal.specs.Answer.{Answer, ok, no, refused}
use Rattle.lines.specs.Lines.{Line, lines_of}
use Rattle.lines.specs.Spans.{part}
use Rattle.lines.specs.declared.End.{End}
use Rattle.calendar.specs.Calendar.{date_of}
use Rattle.calendar.specs.declared.Date.{Date}
use Rattle.codes.specs.Block.{Content}
use Rattle.writing.specs.Write.{written_block}
use Rattle.segments.specs.Segments.{Segment}
use Rattle.bulletin.specs.Bulletin.{Bulletin, text_most, is_length, read_bulletin}
use Rattle.blocks.specs.Block.{book_length, block_of}
use Rattle.steps.specs.Book.{Book, new_book}
use Rattle.layout.specs.Layout.{bytes_of, book_of}
use Rattle.layout.specs.Tests.{is_sound}
use Rattle.making.specs.Make.{make_rule}
use Rattle.forms.specs.Edited.{edited, ends_in, written_forms}
use Rattle.sending.specs.Send.{belongs}

-- ---- reading what was written out
-- a segment's block as it stands in the text: from its first byte through the line end of the purge's line
abbrev pub block_text : List ℕ → Segment → List ℕ
block_text text g = part text g.start g.block

-- it is the written form of the segment's content, its lines ending as its first line did
abbrev pub InWrittenForm : List ℕ → Segment → Type 0
InWrittenForm text g = written_block g.ended g.content.places g.content.purge ≡ ok (block_text text g)

-- The text reads to the heading, the identifier, the issue and the storm of r, and to as many segments. They have the contents cs, their blocks' first lines
-- end as those of r did, and each block is in written form.
pub record ReadsTo (text : List ℕ) (year month : ℕ) (r : Bulletin) (cs : List Content) : Type 0 where
  pub bulletin : Bulletin
  pub reads : read_bulletin text year month ≡ ok bulletin
  pub heading : bulletin.heading ≡ r.heading
  pub identifier : bulletin.identifier ≡ r.identifier
  pub issue : bulletin.issue ≡ r.issue
  pub storm : bulletin.storm ≡ r.storm
  pub count : length bulletin.segments ≡ length r.segments
  pub contents : map (λ (g : Segment). g.content) bulletin.segments ≡ cs
  pub ends : ends_in bulletin.segments ≡ ends_in r.segments
  pub forms : All (InWrittenForm text) bulletin.segments

-- "it belongs to the book if it reads, and its issue and segment count agree"
pub record Agrees (b : Book) (r : Bulletin) : Type 0 where
  pub issue : r.issue ≡ b.issue
  pub count : length r.segments ≡ length b.segments

-- "Demand 2 gains: reading the output gives the book's sets and purge minutes, if the output is within 16,384 bytes." Of any contents:
pub record EditedReads (text : List ℕ) (year month : ℕ) (r : Bulletin) (cs : List Content) : Type 0 where
  pub blocks : List (List ℕ)
  pub given : written_forms (ends_in r.segments) cs ≡ ok blocks
  pub reads : length (edited text r.segments blocks) ≤ text_most → ReadsTo (edited text r.segments blocks) year month r cs

-- and of what the call gives for the bytes l of a book: under the year and month of the book's issue the text reads, and the output reads to the same
-- with the book's contents.
pub record WrittenReads (text l out : List ℕ) : Type 0 where
  pub date : Date
  pub dated : date_of (book_of l).issue ≡ Some date
  pub read : Bulletin
  pub reads : read_bulletin text date.year date.month ≡ ok read
  pub agrees : Agrees (book_of l) read
  pub again : ReadsTo out date.year date.month read (book_of l).segments

-- ---- line ends
-- every line of the text ended so
abbrev pub OnlyEnd : End → List ℕ → Type 0
OnlyEnd end text = All (λ (l : Line). l.ended ≡ end) (lines_of text)

-- R-5, "an output that mixes line ends upsets" the gateways: a text that has only LF comes out with only LF, and so for CR LF and CR CR LF.
abbrev pub KeepsEnd : List ℕ → List ℕ → Type 0
KeepsEnd text out = (end : End) → OnlyEnd end text → OnlyEnd end out

-- ---- the answers
-- the book is sound, the text reads under its year and month and belongs to it, and out is the text with the book's written forms in it
pub record EditedText (text l out : List ℕ) : Type 0 where
  pub sound : is_sound l ≡ true
  pub date : Date
  pub dated : date_of (book_of l).issue ≡ Some date
  pub read : Bulletin
  pub reads : read_bulletin text date.year date.month ≡ ok read
  pub agrees : Agrees (book_of l) read
  pub blocks : List (List ℕ)
  pub given : written_forms (ends_in read.segments) (book_of l).segments ≡ ok blocks
  pub is : out ≡ edited text read.segments blocks

-- "Refusals: 1 for either length, 12, reading's own, 27 (does not belong), 23 last": what the call answers, and no other number
pub data EditedAnswer (text l : List ℕ) (room : ℕ) : Answer (List ℕ) → Type 0 where
  -- 1
  other_length : (is_length text && eqb (length l) book_length) ≡ false → EditedAnswer text l room (refused WrongLength 0)
  -- 12
  unsound : is_sound l ≡ false → EditedAnswer text l room (refused NotSound 0)
  -- reading's own
  unreadable : (d : Date) (number place : ℕ) → date_of (book_of l).issue ≡ Some d → read_bulletin text d.year d.month ≡ no number place
      → EditedAnswer text l room (no number place)
  -- 27
  stranger : (d : Date) (r : Bulletin) → date_of (book_of l).issue ≡ Some d → read_bulletin text d.year d.month ≡ ok r → belongs (book_of l) r ≡ false
      → EditedAnswer text l room (refused NotBelonging 0)
  -- 23
  no_room : (out : List ℕ) → EditedText text l out → room < length out → EditedAnswer text l room (refused OutputShort 0)
  -- accepted
  written_out : (out : List ℕ) → EditedText text l out → length out ≤ room → EditedAnswer text l room (ok out)

-- ---- the book that is made of the output, into any lent bytes m of a book's length: it has this book's issue and segments, and its blocks 1 to 8 are this
-- book's, byte for byte
pub record MadeAgain (l out : List ℕ) (year month : ℕ) : Type 0 where
  pub made : (m : List ℕ) → length m ≡ book_length → make_rule m out year month ≡ ok (new_book (book_of l).issue (book_of l).segments)
  pub blocks : (s : ℕ) → s < 8 → block_of (suc s) (bytes_of (new_book (book_of l).issue (book_of l).segments)) ≡ block_of (suc s) l
