-- The ways out of writing the edited bulletin. Assumes nothing.
use Prim.Native.Nat.{ℕ, ◌+◌, ◌≤◌, ◌<◌}
use native.Mathlib.Omega.{arith}
use mathlib.Core.Path.{◌≡◌, refl, sym, ap, ap₂, ◌∙◌}
use mathlib.Core.Bool.{Bool, true, false, ◌&&◌}
use mathlib.Core.List.{List, ◌++◌}
use Rattle.std.specs.Prelude.{Option, None, Some, Result, Ok, Err, IfOk}
use lib.ListN.{length, take, drop, get_or, length-map, take-append-drop}
use lib.Seq.{length-take-le}
use lib.Dec.{eqb, leb}
use mir.Syntax.{w64}
use mir.Val.{Fits}
use borrow.Author.Tests.{le-leb, lt-leb, eq-eqb, ne_eqb, eqb-true, leb-true}
use Rattle.laws.proofs.Tests.{and_right}
use Rattle.refusal.specs.declared.Reason.TheVariants.{WrongLength, WrongTime, NotSound, OutputShort, NotBelonging}
use Rattle.refusal.specs.Answer.{Answer, ok, refused, refusal_for, must, and_then, answer_of}
use Rattle.refusal.specs.declared.Refusal.{Refusal}
use Rattle.calendar.specs.Calendar.{date_of}
use Rattle.calendar.specs.declared.Date.{Date}
use Rattle.writing.specs.Write.{fitting, length_of, output_of}
use Rattle.bulletin.specs.Bulletin as rule
use Rattle.bulletin.specs.Bulletin.{text_most, is_length, read_bulletin}
use Rattle.lines.specs.declared.End.{End}
use Rattle.segments.specs.Segments as rule-segments
use Rattle.segments.specs.Seen.{seen, segments_held, Sized}
use Rattle.bulletin.specs.Report.{reported, Reads}
use Rattle.segments.specs.declared.Segment.{Segment}
use Rattle.segments.specs.declared.Segments.{Segments}
use Rattle.bulletin.specs.declared.Bulletin.{Bulletin}
use Rattle.bulletin.proofs.Saying.{Told, told_by, refused_by}
use Rattle.blocks.specs.Block.{book_length, number_at}
use Rattle.layout.specs.Layout.{book_of}
use Rattle.layout.specs.Tests.{is_sound}
use Rattle.layout.proofs.Said.{segments_length}
use Rattle.forms.specs.Edited.{edited, ends_in, written_forms}
use Rattle.forms.specs.Forms.{ends_of, SoundBook, RoomFor, Laid, sum_of, cut_into, kept_length, with_forms, filled_in, Cuttable}
use Rattle.forms.specs.declared.Sizes.{Sizes}
use Rattle.forms.proofs.Forming.{forms_many}
use Rattle.forms.proofs.Keeping.{ends_seen, forms_edited, forms_length, cut_in_order, sum_lengths}
use Rattle.sending.specs.Send.{read_under, belongs, edited_rule, WritesEdited}
use Rattle.sending.specs.Under.{IssueOn, Belonging}

-- room for three forms, and for eight
pub room_few : (n : ℕ) (forms : List ℕ) → n ≤ 3 → length forms ≡ 3648 → RoomFor n forms
room_few n forms h k = record { each = omega arith; most = omega arith }

pub room_all : (text l : List ℕ) (gs : Segments) → Belonging text l gs → (forms : List ℕ) → length forms ≡ 9728 → RoomFor gs.count forms
room_all text l gs v forms k = record { each = omega (arith, v.sized.few); most = omega arith }

-- the date of a book's issue
pub issue_on : (l : List ℕ) (n : ℕ) → n ≡ number_at l 0 → (x : Option Date) → x ≡ date_of n → (d : Date) → x ≡ Some d → IssueOn l n d
issue_on l n is x e d q = record { is = is; on = (sym q) ∙ e }

module _ (text l before : List ℕ) where
  -- what the rule says gives the promise
  ruled : (after : List ℕ) (r : Result ℕ Refusal) (a : Answer (List ℕ)) → edited_rule text l (length before) ≡ a → answer_of r ≡ length_of a → after ≡ output_of a before
      → WritesEdited text l before after r
  ruled after r a e f g = record { answer = f ∙ ap length_of (sym e); output = g ∙ ap (λ (x : Answer (List ℕ)). output_of x before) (sym e) }

  -- ---- 1
  wrong_length_lem : (is_length text && eqb (length l) book_length) ≡ false
      → (r : Refusal) → r ≡ refusal_for WrongLength 0 → WritesEdited text l before before (Err r)
  unfolding edited_rule and_then
  wrong_length_lem h r e = ruled before (Err r) (refused WrongLength 0) (rw h) (rw e) refl

  pub edited_empty : length text < 1 → (r : Refusal) → r ≡ refusal_for WrongLength 0 → WritesEdited text l before before (Err r)
  unfolding is_length
  edited_empty h = wrong_length_lem (rw (lt-leb 1 (length text) h))

  pub edited_long : text_most < length text → (r : Refusal) → r ≡ refusal_for WrongLength 0 → WritesEdited text l before before (Err r)
  unfolding is_length
  edited_long h = wrong_length_lem (rw (le-leb 1 (length text) (omega arith), lt-leb (length text) text_most h))

  pub is_length_lem : 1 ≤ length text → length text ≤ text_most → is_length text ≡ true
  unfolding is_length
  is_length_lem h k = rw (le-leb 1 (length text) h, le-leb (length text) text_most k)

  pub edited_book : 1 ≤ length text → length text ≤ text_most → (length l ≡ book_length → ⊥)
      → (r : Refusal) → r ≡ refusal_for WrongLength 0 → WritesEdited text l before before (Err r)
  edited_book h k n = wrong_length_lem (rw (is_length_lem h k, ne_eqb (length l) book_length n))

  module _ (t : is_length text ≡ true) where
    pub text_most_lem : length text ≤ text_most
    unfolding is_length
    text_most_lem = leb-true (length text) text_most (and_right (leb 1 (length text)) (leb (length text) text_most) t)

    -- ---- 12
    rule_broken : length l ≡ book_length → is_sound l ≡ false → edited_rule text l (length before) ≡ refused NotSound 0
    unfolding edited_rule and_then
    rule_broken h s = rw (t, eq-eqb (length l) book_length h, s)

    pub edited_broken : length l ≡ book_length → (b : Bool) → b ≡ is_sound l → b ≡ false
        → (r : Refusal) → r ≡ refusal_for NotSound 0 → WritesEdited text l before before (Err r)
    edited_broken h b f g r e = ruled before (Err r) (refused NotSound 0) (rule_broken h (sym f ∙ g)) (rw e) refl

    module _ (sound : SoundBook l) where
      -- ---- the text read under the book's year and month
      rule_read : (a : Answer rule.Bulletin) → read_under text (date_of (book_of l).issue) ≡ a
          → edited_rule text l (length before) ≡ and_then a
          (λ r. and_then (must (belongs (book_of l) r) NotBelonging 0)
          (λ _. and_then (written_forms (ends_in r.segments) (book_of l).segments) (λ blocks. fitting (length before) (edited text r.segments blocks))))
      unfolding edited_rule and_then
      rule_read a e = rw (t, eq-eqb (length l) book_length sound.long, sound.sound, e)

      issue_is : (n : ℕ) → n ≡ number_at l 0 → (book_of l).issue ≡ n
      unfolding book_of
      issue_is n e = sym e

      module _ (n : ℕ) (is : n ≡ number_at l 0) where
        under : (o : Option Date) → o ≡ date_of n → read_under text (date_of (book_of l).issue) ≡ read_under text o
        under o e = ap (λ (k : ℕ). read_under text (date_of k)) (issue_is n is) ∙ ap (read_under text) (sym e)

        module _ (x : Option Date) (e : x ≡ date_of n) where
          pub edited_undated : x ≡ None → (r : Refusal) → r ≡ refusal_for WrongTime 0 → WritesEdited text l before before (Err r)
          unfolding and_then
          edited_undated q r f =
              ruled before (Err r) (refused WrongTime 0) (rule_read (refused WrongTime 0) (under None ((sym q) ∙ e))) (rw f) refl

      module _ (n : ℕ) (d : Date) (o : IssueOn l n d) (rb : Result Bulletin Refusal) (reads : Reads text d.year d.month rb) where
        under_date : read_under text (date_of (book_of l).issue) ≡ read_bulletin text d.year d.month
        under_date = under n o.is (Some d) o.on

        pub edited_unread : (r : Refusal) → rb ≡ Err r → WritesEdited text l before before (Err r)
        unfolding and_then
        edited_unread r q =
            let f : refused r.reason r.place ≡ reported (read_bulletin text d.year d.month) = rw q at reads.says in
            let g = refused_by text d.year d.month r (read_bulletin text d.year d.month) refl f in
            ruled before (Err r) (refused r.reason r.place) (rule_read (refused r.reason r.place) (under_date ∙ g)) refl refl

        module _ (b : Bulletin) (q : rb ≡ Ok b) (is-sized : IfOk rb (λ b. Sized b.segments)) (m : ℕ) (count : m ≡ get_or l 4 0) where
          z : Sized b.segments
          z = rw q at is-sized

          told : Told text d.year d.month b.head (segments_held b.segments)
          told = told_by text d.year d.month b.head (segments_held b.segments) (read_bulletin text d.year d.month) refl (rw q at reads.says)

          many : length told.said.segments ≡ b.segments.count
          many =
              sym (length-map told.said.segments seen)
              ∙ ap (λ (gs : List Segment). length gs) (sym told.seen_are)
              ∙ length-take-le b.segments.count b.segments.held (omega (arith, z.long, z.few))

          belong_is : belongs (book_of l) told.said ≡ (eqb b.head.issue n && eqb b.segments.count m)
          unfolding belongs
          belong_is =
              ap₂ (λ (x y : Bool). x && y)
              (ap₂ eqb (sym told.issue) (issue_is n o.is))
              (ap₂ eqb many (segments_length l ∙ sym count))

          pub edited_stranger : (eqb b.head.issue n && eqb b.segments.count m) ≡ false
              → (r : Refusal) → r ≡ refusal_for NotBelonging 0 → WritesEdited text l before before (Err r)
          unfolding and_then
          edited_stranger f r g =
              ruled before (Err r) (refused NotBelonging 0)
              (rule_read (ok told.said) (under_date ∙ told.read) ∙ rw (belong_is ∙ f))
              (rw g) refl

          pub edited_belongs : (eqb b.head.issue n && eqb b.segments.count m) ≡ true → Belonging text l b.segments
          edited_belongs f =
              record {
                date = d;
                dated = ap date_of (issue_is n o.is) ∙ sym o.on;
                said = told.said;
                read = told.read;
                agrees = belong_is ∙ f;
                are = told.seen_are;
                sized = z;
              }

      -- ---- 23, or the edited bulletin
      module _ (gs : Segments) (v : Belonging text l gs) where
        many_held : length v.said.segments ≡ gs.count
        many_held =
            sym (length-map v.said.segments seen)
            ∙ ap (λ (x : List Segment). length x) (sym v.are)
            ∙ length-take-le gs.count gs.held (omega (arith, v.sized.long, v.sized.few))

        -- the book has as many segments
        pub held_count : gs.count ≡ get_or l 4 0
        unfolding belongs
        held_count =
            let i = eqb v.said.issue (book_of l).issue in
            let n = eqb (length v.said.segments) (length (book_of l).segments) in
            sym many_held ∙ eqb-true _ _ (and_right i n v.agrees) ∙ segments_length l

        -- the first lines ended as the rule says
        ends_are : ends_of (segments_held gs) ≡ ends_in v.said.segments
        ends_are = ap ends_of v.are ∙ ends_seen v.said.segments

        module _ (forms : List ℕ) (s : Sizes) (w : Laid (ends_of (segments_held gs)) l forms s) where
          given_is : written_forms (ends_in v.said.segments) (book_of l).segments ≡ ok w.blocks
          given_is = ap (λ (es : List End). written_forms es (book_of l).segments) (sym ends_are) ∙ w.given

          ends_many : length (ends_in v.said.segments) ≡ length (book_of l).segments
          ends_many = length-map v.said.segments (λ (g : rule-segments.Segment). g.ended) ∙ many_held ∙ held_count ∙ sym (segments_length l)

          abbrev out : List ℕ
          out = edited text v.said.segments w.blocks

          rule_last : edited_rule text l (length before) ≡ fitting (length before) out
          unfolding and_then
          rule_last = rule_read (ok v.said) (ap (read_under text) v.dated ∙ v.read) ∙ rw (v.agrees, given_is)

          as_many : length w.blocks ≡ gs.count
          as_many = forms_many (ends_in v.said.segments) (book_of l).segments ends_many w.blocks given_is ∙ segments_length l ∙ sym held_count

          cut : cut_into (take gs.count s.each) forms ≡ w.blocks
          cut =
              ap₂ cut_into (ap (λ (k : ℕ). take k s.each) (sym as_many) ∙ w.sizes)
              (sym (take-append-drop s.total forms) ∙ ap (λ (x : List ℕ). x ++ drop s.total forms) w.bytes)
              ∙ cut_in_order w.blocks (drop s.total forms)

          pub filled_is : filled_in text gs forms s.each ≡ out
          filled_is =
              ap₂ (λ (x : List Segment) (bs : List (List ℕ)). with_forms 0 text x bs) v.are cut
              ∙ forms_edited 0 text v.said.segments w.blocks

          pub filled_long : length (filled_in text gs forms s.each) ≡ kept_length 0 text (segments_held gs) + s.total
          filled_long =
              let same : length w.blocks ≡ length (segments_held gs) =
              as_many ∙ sym (length-take-le gs.count gs.held (omega (arith, v.sized.long, v.sized.few))) in
              ap (λ (bs : List (List ℕ)). length (with_forms 0 text (segments_held gs) bs)) cut
              ∙ forms_length 0 text (segments_held gs) w.blocks same
              ∙ ap (λ (k : ℕ). kept_length 0 text (segments_held gs) + k) (sym w.total)

          pub total_fits : (k : ℕ) → k ≤ 147456 → Fits w64 (k + s.total)
          total_fits k h = omega (arith, w.most, w.short)

          pub cuttable : Cuttable gs forms s.each
          cuttable =
              record {
                sized = v.sized;
                wide = w.wide;
                low =
                    let e : sum_of (take gs.count s.each) ≡ s.total =
                    ap sum_of (ap (λ (k : ℕ). take k s.each) (sym as_many) ∙ w.sizes) ∙ sum_lengths w.blocks ∙ sym w.total in
                    omega (arith, e, w.most);
                short = w.short;
              }

          module _ (k : ℕ) (is : k ≡ kept_length 0 text (segments_held gs)) where
            long : length out ≡ k + s.total
            long = ap (λ (x : List ℕ). length x) (sym filled_is) ∙ filled_long ∙ ap (λ (n : ℕ). n + s.total) (sym is)

            pub edited_short : length before < k + s.total
                → (r : Refusal) → r ≡ refusal_for OutputShort 0 → WritesEdited text l before before (Err r)
            unfolding fitting
            edited_short f r e =
                ruled before (Err r) (refused OutputShort 0)
                (rule_last ∙ rw (lt-leb (length out) (length before) (omega (arith, long))))
                (rw e) refl

            pub edited_room : k + s.total ≤ length before → length (filled_in text gs forms s.each) ≤ length before
            edited_room f = omega (arith, filled_long)

            pub edited_whole : k + s.total ≤ length before → (after : List ℕ) → after ≡ output_of (ok (filled_in text gs forms s.each)) before
                → WritesEdited text l before after (Ok (k + s.total))
            unfolding fitting
            edited_whole f after e =
                ruled after (Ok (k + s.total)) (ok out)
                (rule_last ∙ rw (le-leb (length out) (length before) (omega (arith, long))))
                (ap ok (sym long))
                (e ∙ ap (λ (x : List ℕ). output_of (ok x) before) filled_is)
