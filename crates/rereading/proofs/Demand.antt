-- Demand 2 of the call's rule: what it gives reads back to the book's sets and purge minutes. And which answers it has. Assumes nothing.
use Prim.Native.Nat.{ℕ, ◌+◌, ◌≤◌, ◌<◌}
use native.Mathlib.Omega.{arith}
use mathlib.Core.Path.{◌≡◌, refl, sym, ap, ◌∙◌, subst}
use mathlib.Core.Bool.{true, ◌&&◌}
use mathlib.Core.List.{List}
use Rattle.std.specs.Prelude.{Option, Some}
use lib.ListN.{length}
use lib.Dec.{eqb, leb}
use borrow.Author.Tests.{eqb-true, eq-eqb, leb-true, leb-false, ltb-true}
use Rattle.laws.proofs.Tests.{by, apart, and_left, and_right}
use Rattle.laws.specs.Lists.{All}
use Rattle.refusal.specs.Answer.{Answer, ok, no, and_then}
use Rattle.months.specs.Months.{start_of, issue_months, all_months}
use Rattle.calendar.specs.Calendar.{date_of}
use Rattle.calendar.specs.declared.Date.{Date}
use Rattle.months.proofs.Laws.{start_mono, start_end_lem}
use Rattle.calendar.proofs.Laws.{date_some}
use Rattle.codes.specs.Block.{Content}
use Rattle.writing.specs.Write.{fitting}
use Rattle.bulletin.specs.Bulletin.{Bulletin, text_most, is_length, read_bulletin}
use Rattle.bulletin.proofs.Saying.{ok_one}
use Rattle.blocks.specs.Block.{book_length, Bytes}
use Rattle.blocks.specs.Content.{is_content}
use Rattle.steps.specs.Book.{Book}
use Rattle.layout.specs.Layout.{book_of}
use Rattle.layout.specs.Sound.{is_issue, Sound}
use Rattle.layout.specs.Tests.{is_sound}
use Rattle.layout.proofs.SoundBack.{sound_book}
use Rattle.forms.specs.Edited.{edited, ends_in, written_forms}
use Rattle.sending.specs.Send.{read_under, belongs, edited_rule}
use Rattle.rereading.specs.Demand.{ReadsTo, EditedReads, WrittenReads, OnlyEnd, KeepsEnd, Agrees, EditedText}
use Rattle.rereading.specs.Demand.{EditedAnswer, other_length, unsound, unreadable, stranger, no_room, written_out}
use Rattle.rereading.proofs.WrittenBlock.{AllWritten}
use Rattle.forms.specs.Forms.{forms_room}
use Rattle.forms.proofs.Forming.{forms_most}
use Rattle.rereading.proofs.Ordered.{ordered_most}
use Rattle.rereading.proofs.OneEnd.{edited_one_end}
use Rattle.rereading.proofs.ReadsEdited.{read_written, edited_reads, read_ordered}

-- ---- a sound book
-- its issue has a year and a month
pub sound_dated : (b : Book) → Sound b → (d : Date) × (date_of b.issue ≡ Some d)
unfolding is_issue
sound_dated b s =
    let h : b.issue < start_of issue_months = ltb-true b.issue (start_of issue_months) s.year in
    date_some b.issue (omega (arith, start_mono issue_months all_months (omega arith), start_end_lem))

-- ---- a text that belongs to a book
pub belongs_agrees : (b : Book) (r : Bulletin) → belongs b r ≡ true → Agrees b r
unfolding belongs
belongs_agrees b r e =
    let i = eqb r.issue b.issue in
    let n = eqb (length r.segments) (length b.segments) in
    record { issue = eqb-true _ _ (and_left i n e); count = eqb-true _ _ (and_right i n e) }

pub agrees_belongs : (b : Book) (r : Bulletin) → Agrees b r → belongs b r ≡ true
unfolding belongs
agrees_belongs b r a = rw (eq-eqb r.issue b.issue a.issue, eq-eqb (length r.segments) (length b.segments) a.count)

-- ---- and the book is sound
-- its contents are right under the text's issue,
agreed_contents : (b : Book) (r : Bulletin) → Sound b → Agrees b r → All (λ (c : Content). is_content r.issue c ≡ true) b.segments
agreed_contents b r s a = subst (λ (k : ℕ). All (λ (c : Content). is_content k c ≡ true) b.segments) (sym a.issue) s.contents

module _ (text : List ℕ) (year month : ℕ) (b : Book) (r : Bulletin) (s : Sound b) (e : read_bulletin text year month ≡ ok r) (a : Agrees b r) where
  -- they have their written forms, whose lines end as the first lines of the text's blocks did,
  pub forms_given : AllWritten r.issue (ends_in r.segments) b.segments
  forms_given = read_written text year month r e b.segments (agreed_contents b r s a) (sym a.count)

  -- and the text can be edited by it
  belongs_reads : EditedReads text year month r b.segments
  belongs_reads = edited_reads text year month r e b.segments (agreed_contents b r s a) (sym a.count)

-- ---- the rule, test by test
-- the year and month under which the text is read
read_under_lem : (text : List ℕ) (o : Option Date) (d : Date) → o ≡ Some d → read_under text o ≡ read_bulletin text d.year d.month
read_under_lem text o d e = ap (read_under text) e

module _ (text l : List ℕ) (room : ℕ) where
  abbrev Told : Answer (List ℕ) → Type 0
  Told = EditedAnswer text l room

  -- every test but the last is passed: the edited text, or 23
  pub rule_is : (d : Date) (r : Bulletin) (blocks : List (List ℕ)) → (is_length text && eqb (length l) book_length) ≡ true → is_sound l ≡ true
      → date_of (book_of l).issue ≡ Some d → read_bulletin text d.year d.month ≡ ok r → belongs (book_of l) r ≡ true
      → written_forms (ends_in r.segments) (book_of l).segments ≡ ok blocks → edited_rule text l room ≡ fitting room (edited text r.segments blocks)
  unfolding edited_rule and_then
  rule_is d r blocks a s e f g h = rw (a, s, read_under_lem text _ d e ∙ f, g, h)

  told_fitting : (out : List ℕ) → EditedText text l out → Told (fitting room out)
  unfolding fitting
  told_fitting out w =
      by (leb (length out) room)
      (λ t. rw t (written_out out w (leb-true (length out) room t)))
      (λ t. rw t (no_room out w (leb-false (length out) room t)))

  told_read : (d : Date) → is_sound l ≡ true → (is_length text && eqb (length l) book_length) ≡ true → Sound (book_of l) → date_of (book_of l).issue ≡ Some d
      → (a : Answer Bulletin) → read_bulletin text d.year d.month ≡ a → Told (edited_rule text l room)
  unfolding edited_rule and_then
  told_read d good long s dated (no number place) e = rw (long, good, read_under_lem text _ d dated ∙ e) (unreadable d number place dated e)
  told_read d good long s dated (ok r) e =
      let under = read_under_lem text (date_of (book_of l).issue) d dated ∙ e in
      by (belongs (book_of l) r)
      (λ t.
      let agrees = belongs_agrees (book_of l) r t in
      let w = forms_given text d.year d.month (book_of l) r s e agrees in
      rw (long, good, under, t, w.given)
      (told_fitting (edited text r.segments w.blocks)
      (record { sound = good; date = d; dated = dated; read = r; reads = e; agrees = agrees; blocks = w.blocks; given = w.given; is = refl })))
      (λ t. rw (long, good, under, t) (stranger d r dated e t))

  -- For bytes l the rule answers 1, 12, reading's own, 27, 23 or the edited text, each where its own test says so, and nothing else.
  pub edited_answers : Bytes l → Told (edited_rule text l room)
  unfolding edited_rule and_then
  edited_answers y =
      by (is_length text && eqb (length l) book_length)
      (λ long. by (is_sound l)
      (λ good.
      let s = sound_book l y good in
      let d = sound_dated (book_of l) s in
      told_read d.0 good long s d.1 (read_bulletin text d.0.year d.0.month) refl)
      (λ bad. rw (long, bad) (unsound bad)))
      (λ short. rw short (other_length short))

-- ---- the output
-- what the rule gives is the edited text, and the output has room for it
pub record Given (text l out : List ℕ) (room : ℕ) : Type 0 where
  pub edits : EditedText text l out
  pub fits : length out ≤ room

given_by : (text l : List ℕ) (room : ℕ) (a : Answer (List ℕ)) (out : List ℕ) → EditedAnswer text l room a → a ≡ ok out → Given text l out room
given_by text l room a out (other_length t) e = apart cc
given_by text l room a out (unsound t) e = apart cc
given_by text l room a out (unreadable d number place t f) e = apart cc
given_by text l room a out (stranger d r t f g) e = apart cc
given_by text l room a out (no_room x w h) e = apart cc
given_by text l room a out (written_out x w h) e = let same : x ≡ out = cc in subst (λ (z : List ℕ). Given text l z room) same (record { edits = w; fits = h })

module _ (text l : List ℕ) (room : ℕ) (out : List ℕ) (y : Bytes l) (e : edited_rule text l room ≡ ok out) where
  pub given : Given text l out room
  given = given_by text l room (edited_rule text l room) out (edited_answers text l room y) e

  -- The output that the rule gives, if it is within 16,384 bytes, reads under the book's year and month to the same heading, identifier, issue and storm,
  -- to as many segments, and in each to the book's content.
  pub written_reads : length out ≤ text_most → WrittenReads text l out
  written_reads most =
      let w = given.edits in
      let year : ℕ = w.date.year in
      let month : ℕ = w.date.month in
      let r = belongs_reads text year month (book_of l) w.read (sound_book l y w.sound) w.reads w.agrees in
      let same : w.blocks ≡ r.blocks = ok_one _ _ (sym w.given ∙ r.given) in
      let is : out ≡ edited text w.read.segments r.blocks = w.is ∙ ap (λ (x : List (List ℕ)). edited text w.read.segments x) same in
      record {
        date = w.date;
        dated = w.dated;
        read = w.read;
        reads = w.reads;
        agrees = w.agrees;
        again =
            subst (λ (x : List ℕ). ReadsTo x year month w.read (book_of l).segments) (sym is)
            (r.reads (subst (λ (x : List ℕ). length x ≤ text_most) is most));
      }

  -- If every line of the text ended so, every line of the output does: none mixes line ends that the text did not mix.
  pub output_one_end : KeepsEnd text out
  output_one_end end only =
      let w = given.edits in
      subst (OnlyEnd end) (sym w.is)
      (edited_one_end text w.date.year w.date.month w.read w.reads (book_of l).segments w.blocks w.given end only)

  -- It has at most 9,728 bytes more than the text: those of eight blocks.
  pub edited_most : length out ≤ length text + forms_room
  edited_most =
      let w = given.edits in
      let o = ordered_most text (read_ordered text w.date.year w.date.month w.read w.reads) w.blocks in
      let same : length out ≡ length (edited text w.read.segments w.blocks) = ap (λ (x : List ℕ). length x) w.is in
      omega (arith, same, o, forms_most (ends_in w.read.segments) (book_of l).segments w.blocks w.given, (sound_book l y w.sound).eight)
