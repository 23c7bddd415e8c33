-- What is written out is what the book says, and stays so: made into a book, written out once more, or in written form before. Assumes nothing.
use Prim.Native.Nat.{ℕ, ◌≤◌}
use mathlib.Core.Path.{◌≡◌, refl, sym, ap, ap₂, ◌∙◌, subst}
use mathlib.Core.Bool.{true}
use mathlib.Core.List.{List, map}
use Rattle.std.specs.Prelude.{Some}
use lib.ListN.{length, length-map}
use borrow.Author.Tests.{eq-eqb, le-leb}
use Rattle.laws.proofs.Lookups.{some_same}
use Rattle.laws.specs.Lists.{All}
use Rattle.refusal.specs.declared.Reason.TheVariants.{WrongLength}
use Rattle.refusal.specs.Answer.{ok, and_then}
use Rattle.calendar.specs.Calendar.{date_of}
use Rattle.calendar.specs.declared.Date.{Date}
use Rattle.codes.specs.Block.{Content}
use Rattle.writing.specs.Write.{fitting}
use Rattle.segments.specs.Segments.{Segment}
use Rattle.bulletin.specs.Bulletin.{Bulletin, text_most, is_length, read_bulletin}
use Rattle.bulletin.proofs.Saying.{by_then, ok_one}
use Rattle.blocks.specs.Block.{book_length, Bytes}
use Rattle.steps.specs.Book.{Book, new_book}
use Rattle.layout.specs.Layout.{bytes_of, book_of}
use Rattle.layout.specs.Sound.{Sound}
use Rattle.layout.specs.Tests.{is_sound}
use Rattle.layout.proofs.Parts.{sound_parts}
use Rattle.layout.proofs.Back.{sound_lies}
use Rattle.layout.proofs.SoundBack.{sound_book}
use Rattle.layout.proofs.Forth.{book_bytes}
use Rattle.layout.proofs.ForthParts.{bytes_lie}
use Rattle.layout.proofs.ForthLies.{lies_segment}
use Rattle.layout.proofs.ForthSound.{bytes_sound}
use Rattle.keeping.proofs.Keeping.{new_sound}
use Rattle.making.specs.Make.{book_from, make_rule}
use Rattle.making.proofs.Made.{read_back}
use Rattle.making.proofs.Sounding.{must_true, made_dated, made_sound}
use Rattle.forms.specs.Edited.{edited, ends_in, written_forms}
use Rattle.sending.specs.Send.{edited_rule}
use Rattle.rereading.specs.Demand.{block_text, InWrittenForm, Agrees, MadeAgain}
use Rattle.rereading.proofs.Ordered.{own_blocks}
use Rattle.rereading.proofs.ReadsEdited.{each_forms, read_ordered}
use Rattle.rereading.proofs.Demand.{agrees_belongs, rule_is, given, written_reads}

-- ---- a text in written form
-- With its own written forms in place of its blocks it is unchanged.
pub own_edited : (text : List ℕ) (year month : ℕ) (r : Bulletin) (blocks : List (List ℕ)) → read_bulletin text year month ≡ ok r
    → All (InWrittenForm text) r.segments → written_forms (ends_in r.segments) (map (λ (g : Segment). g.content) r.segments) ≡ ok blocks
    → edited text r.segments blocks ≡ text
own_edited text year month r blocks e forms given =
    let same : blocks ≡ map (block_text text) r.segments = ok_one _ _ (sym given ∙ each_forms text forms) in
    ap (λ (x : List (List ℕ)). edited text r.segments x) same ∙ own_blocks text (read_ordered text year month r e)

-- a text that reads has its length
read_long : (text : List ℕ) (year month : ℕ) (r : Bulletin) → read_bulletin text year month ≡ ok r → is_length text ≡ true
unfolding read_bulletin
read_long text year month r e = by_then _ _ r (λ _ long _. must_true (is_length text) WrongLength 0 long) e

fitting_is : (room : ℕ) (out : List ℕ) → length out ≤ room → fitting room out ≡ ok out
unfolding fitting
fitting_is room out h = rw (le-leb (length out) room h)

-- It comes out of a book that has its contents as it is.
unchanged : (text l : List ℕ) (room : ℕ) (d : Date) (r : Bulletin) → is_sound l ≡ true → date_of (book_of l).issue ≡ Some d
    → read_bulletin text d.year d.month ≡ ok r → Agrees (book_of l) r → map (λ (g : Segment). g.content) r.segments ≡ (book_of l).segments
    → All (InWrittenForm text) r.segments → length text ≤ room → edited_rule text l room ≡ ok text
unchanged text l room d r good dated e a contents forms fits =
    let blocks : List (List ℕ) = map (block_text text) r.segments in
    let given : written_forms (ends_in r.segments) (book_of l).segments ≡ ok blocks = ap (written_forms (ends_in r.segments)) (sym contents) ∙ each_forms text forms in
    let same : edited text r.segments blocks ≡ text = own_edited text d.year d.month r blocks e forms (each_forms text forms) in
    rule_is text l room d r blocks (rw (read_long text d.year d.month r e, (sound_parts l good).long)) good dated e (agrees_belongs (book_of l) r a) given
    ∙ ap (fitting room) same
    ∙ fitting_is room text fits

-- A text in written form and the book that is made of it: it comes out unchanged.
pub own_unchanged : (text : List ℕ) (year month : ℕ) (r : Bulletin) (room : ℕ) → read_bulletin text year month ≡ ok r → All (InWrittenForm text) r.segments
    → length text ≤ room → edited_rule text (bytes_of (book_from r)) room ≡ ok text
own_unchanged text year month r room e forms fits =
    let s : Sound (book_from r) = made_sound text year month r e in
    let same : book_of (bytes_of (book_from r)) ≡ book_from r = book_bytes (book_from r) s in
    let d : Date = record { year = year; month = month; stamp = (read_back text year month r e).stamp } in
    let agrees : Agrees (book_from r) r = record { issue = refl; count = sym (length-map r.segments (λ (g : Segment). g.content)) } in
    unchanged text (bytes_of (book_from r)) room d r (bytes_sound (book_from r) s) (ap (λ (b : Book). date_of b.issue) same ∙ made_dated text year month r e) e
    (subst (λ (b : Book). Agrees b r) (sym same) agrees) (ap (λ (b : Book). b.segments) (sym same)) forms fits

-- ---- the output of the call
module _ (text l : List ℕ) (room : ℕ) (out : List ℕ) (y : Bytes l) (e : edited_rule text l room ≡ ok out) (most : length out ≤ text_most) where
  -- Written out again with the same book it gives the same bytes.
  pub output_again : edited_rule out l room ≡ ok out
  output_again =
      let w = written_reads text l room out y e most in
      let a = w.again in
      let g = given text l room out y e in
      unchanged out l room w.date a.bulletin g.edits.sound w.dated a.reads
      (record { issue = a.issue ∙ w.agrees.issue; count = a.count ∙ w.agrees.count }) a.contents a.forms g.fits

  -- The book that is made of it, under the year and month of this book's issue, has this book's issue and segments, and its segment blocks have
  -- the same bytes.
  pub output_made : (d : Date) → date_of (book_of l).issue ≡ Some d → MadeAgain l out d.year d.month
  unfolding make_rule and_then
  output_made d dated =
      let w = written_reads text l room out y e most in
      let a = w.again in
      let good = (given text l room out y e).edits.sound in
      let b : Book = book_of l in
      let s : Sound b = sound_book l y good in
      let new : Book = new_book b.issue b.segments in
      let same : w.date ≡ d = some_same (sym w.dated ∙ dated) in
      let reads : read_bulletin out d.year d.month ≡ ok a.bulletin =
      subst (λ (x : Date). read_bulletin out x.year x.month ≡ ok a.bulletin) same a.reads in
      let made : book_from a.bulletin ≡ new = ap₂ (λ (i : ℕ) (cs : List Content). new_book i cs) (a.issue ∙ w.agrees.issue) a.contents in
      let sound : Sound new = new_sound b.issue b.segments s.year s.one s.eight s.contents in
      record {
        made = λ m long. rw (eq-eqb (length m) book_length long, reads) (ap ok made);
        blocks = λ k h. lies_segment (bytes_of new) new (bytes_lie new sound) k h ∙ sym (lies_segment l b (sound_lies l y good) k h);
      }
