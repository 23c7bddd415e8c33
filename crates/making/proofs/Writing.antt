-- A segment's block, and the ways out of writing it from a book. Assumes nothing.
use Prim.Native.Nat.{ℕ, suc, ◌-◌, ◌≤◌, ◌<◌}
use native.Mathlib.Omega.{arith}
use mathlib.Core.Path.{◌≡◌, refl, sym, ap, ◌∙◌}
use mathlib.Core.Bool.{Bool, true, false}
use mathlib.Core.List.{List}
use Rattle.std.specs.Prelude.{Option, None, Some, Result, Err}
use lib.ListN.{length, take, get_or}
use borrow.Author.Tests.{ne_eqb, le-leb}
use Rattle.laws.proofs.Tests.{apart}
use Rattle.refusal.specs.declared.Reason.TheVariants.{WrongLength, NotSound, NoSuchSegment}
use Rattle.refusal.specs.Answer.{Answer, ok, no, refused, refusal_for, and_then, answer_of}
use Rattle.refusal.specs.declared.Refusal.{Refusal}
use Rattle.lines.specs.declared.End.{End}
use Rattle.lines.specs.declared.End.TheVariants.{CrCrLf}
use Rattle.codes.specs.Places.{capacity}
use Rattle.codes.specs.Block.{Content}
use Rattle.writing.specs.Write.{written_block, fitting, write_rule, length_of, output_of, Writes}
use Rattle.writing.specs.Pen.{written_block_most}
use Rattle.writing.proofs.Bound.{block_most_lem}
use Rattle.roundtrip.specs.Round.{ReadsBack}
use Rattle.lines.specs.Lines.{ends_line}
use Rattle.roundtrip.proofs.WriteRead.{write_read}
use Rattle.blocks.specs.Block.{book_length, block_of, Bytes}
use Rattle.blocks.specs.Content.{content_of}
use Rattle.blocks.specs.Held.{held_content}
use Rattle.blocks.specs.declared.Held.{Held}
use Rattle.blocks.proofs.Contents.{used_true}
use Rattle.steps.specs.Book.{Book, at}
use Rattle.layout.specs.Layout.{book_of}
use Rattle.layout.specs.Tests.{used, is_sound}
use Rattle.layout.proofs.Parts.{sound_parts}
use Rattle.layout.proofs.Said.{segment_of_lem, segment_past}
use Rattle.layout.proofs.Stands.{used_segment}
use Rattle.layout.proofs.Back.{good_used}
use Rattle.layout.proofs.SoundBack.{sound_book}
use Rattle.keeping.proofs.Parts.{all_stands}
use Rattle.keeping.proofs.Editing.{fine_places, fine_purge}
use Rattle.making.specs.Make.{or_no_segment, block_given, content_form, segment_block, write_on, WritesOn}

-- what the rule says gives the promise
ruled : (l before after : List ℕ) (s : ℕ) (r : Result ℕ Refusal) (a : Answer (List ℕ)) → write_on l s (length before) ≡ a → answer_of r ≡ length_of a → after ≡ output_of a before
    → WritesOn l before after s r
ruled l before after s r a e f g = record { answer = f ∙ ap length_of (sym e); output = g ∙ ap (λ (x : Answer (List ℕ)). output_of x before) (sym e) }

-- ---- a segment's block
-- the writer's rule gives a block of the content c, and that is the block of segment s
pub record SegmentBlock (b : Book) (s : ℕ) (c : Content) : Type 0 where
  pub block : List ℕ
  pub is : segment_block b s ≡ Some block
  pub given : written_block CrCrLf c.places c.purge ≡ ok block

-- In a sound book each segment that exists has a written block that reads back to it, whichever of the three ends its lines have,
pub segment_back : (end : End) → ends_line end ≡ true → (l : List ℕ) → Bytes l → is_sound l ≡ true → (s : ℕ) (c : Content) → at (book_of l).segments s ≡ Some c
    → ReadsBack end (book_of l).issue c
segment_back end so l y e s c q =
    let f = (all_stands (book_of l).segments s c (sound_book l y e).contents q).is in
    write_read end so _ c (fine_places _ c f) (fine_purge _ c f)

-- and so the write call's block: the writer's 24 is never met;
pub segment_block_lem : (l : List ℕ) → Bytes l → is_sound l ≡ true → (s : ℕ) (c : Content) → at (book_of l).segments s ≡ Some c → SegmentBlock (book_of l) s c
unfolding segment_block
segment_block_lem l y e s c q =
    let w = segment_back CrCrLf refl l y e s c q in
    record { block = w.block; is = rw (q, w.given); given = w.given }

-- one that does not exist has none.
no_block : (b : Book) (s : ℕ) → at b.segments s ≡ None → segment_block b s ≡ None
unfolding segment_block
no_block b s q = rw q

pub data Blocked (b : Book) (s : ℕ) : Type 0 where
  no_segment_lem : at b.segments s ≡ None → segment_block b s ≡ None → Blocked b s
  a_segment : (c : Content) → at b.segments s ≡ Some c → SegmentBlock b s c → Blocked b s

pub segment_blocked : (l : List ℕ) → Bytes l → is_sound l ≡ true → (s : ℕ) → Blocked (book_of l) s
segment_blocked l y e s = go (at (book_of l).segments s) refl
  where
    go : (o : Option Content) → at (book_of l).segments s ≡ o → Blocked (book_of l) s
    go None q = no_segment_lem q (no_block (book_of l) s q)
    go (Some c) q = a_segment c q (segment_block_lem l y e s c q)

-- No block of a segment has more than 1,216 bytes.
pub segment_most : (b : Book) (s : ℕ) (block : List ℕ) → segment_block b s ≡ Some block → length block ≤ written_block_most
unfolding segment_block
segment_most b s block e = go (at b.segments s) e
  where
    given : (c : Content) (a : Answer (List ℕ)) → written_block CrCrLf c.places c.purge ≡ a → block_given a ≡ Some block → length block ≤ written_block_most
    given c (ok x) q f = let same : x ≡ block = cc in rw (← same) (block_most_lem CrCrLf c.places c.purge x q)
    given c (no number place) q f = apart cc

    go : (o : Option Content) → content_form o ≡ Some block → length block ≤ written_block_most
    go None f = apart cc
    go (Some c) f = given c (written_block CrCrLf c.places c.purge) refl f

-- where there is a block, only the room for it is asked
pub rule_block : (end : End) (room : ℕ) (c : Content) (block : List ℕ) → written_block end c.places c.purge ≡ ok block
    → write_rule end room c.places c.purge ≡ fitting room block
unfolding write_rule and_then
rule_block end room c block e = rw e

-- ---- the rule, at each way out
rule_short : (l : List ℕ) (s room : ℕ) → (length l ≡ book_length → ⊥) → write_on l s room ≡ refused WrongLength 0
unfolding write_on and_then
rule_short l s room h = rw (ne_eqb (length l) book_length h)

rule_broken : (l : List ℕ) (s room : ℕ) → length l ≡ book_length → is_sound l ≡ false → write_on l s room ≡ refused NotSound 0
unfolding write_on and_then
rule_broken l s room h e = rw (h, e)

rule_sound : (l : List ℕ) (s room : ℕ) → length l ≡ book_length → is_sound l ≡ true → (o : Option (List ℕ)) → segment_block (book_of l) s ≡ o
    → write_on l s room ≡ and_then (or_no_segment o) (fitting room)
unfolding write_on and_then
rule_sound l s room h e o f = rw (h, e, f)

-- ---- the ways out
module _ (l before : List ℕ) (s : ℕ) where
  pub write_short : (length l ≡ book_length → ⊥) → (r : Refusal) → r ≡ refusal_for WrongLength 0 → WritesOn l before before s (Err r)
  write_short h r e = ruled l before before s (Err r) (refused WrongLength 0) (rule_short l s (length before) h) (rw e) refl

  module _ (h : length l ≡ book_length) where
    pub write_broken : (b : Bool) → b ≡ is_sound l → b ≡ false → (r : Refusal) → r ≡ refusal_for NotSound 0 → WritesOn l before before s (Err r)
    write_broken b f g r e = ruled l before before s (Err r) (refused NotSound 0) (rule_broken l s (length before) h (sym f ∙ g)) (rw e) refl

    module _ (sound : is_sound l ≡ true) where
      not_there : at (book_of l).segments s ≡ None → (r : Refusal) → r ≡ refusal_for NoSuchSegment 0 → WritesOn l before before s (Err r)
      unfolding and_then
      not_there f r e =
          ruled l before before s (Err r) (refused NoSuchSegment 0) (rule_sound l s (length before) h sound None (no_block (book_of l) s f)) (rw e) refl

      pub write_low : s < 1 → (r : Refusal) → r ≡ refusal_for NoSuchSegment 0 → WritesOn l before before s (Err r)
      write_low g r e = let z : s ≡ 0 = omega arith in not_there (ap (λ (k : ℕ). at (book_of l).segments k) z) r e

      module _ (n : ℕ) (m : n ≡ get_or l 4 0) where
        pub write_far : 1 ≤ s → n < s → (r : Refusal) → r ≡ refusal_for NoSuchSegment 0 → WritesOn l before before s (Err r)
        write_far f g r e =
            let z : s ≡ suc (s - 1) = omega arith in
            not_there (ap (λ (k : ℕ). at (book_of l).segments k) z ∙ segment_past l (s - 1) (omega arith)) r e

        module _ (f : 1 ≤ s) (g : s ≤ n) where
          z : s ≡ suc (s - 1)
          z = omega arith

          few_blocks : s ≤ 8
          few_blocks = omega (arith, (sound_parts l sound).eight)

          pub write_block : s < 49
          write_block = omega (arith, few_blocks)

          -- a segment's count is in its range
          pub write_few : get_or (block_of s l) 4 0 ≤ capacity
          write_few =
              let p = sound_parts l sound in
              let b = few_blocks in
              (used_true _ (block_of s l)
              (good_used l p s f (omega arith) (ap (λ (k : ℕ). used l k) z ∙ used_segment l (s - 1) (omega arith) ∙ le-leb (suc (s - 1)) (get_or l 4 0) (omega arith)))
              ).few

          here : at (book_of l).segments s ≡ Some (content_of (block_of s l))
          here = ap (λ (k : ℕ). at (book_of l).segments k) z ∙ segment_of_lem l (s - 1) (omega arith) ∙ ap (λ (k : ℕ). Some (content_of (block_of k l))) (sym z)

          pub write_one : Bytes l → (q : Held) → held_content q ≡ content_of (block_of s l) → (after : List ℕ) (r : Result ℕ Refusal)
              → Writes before after (take (q.count - 0) q.places) q.purge r → WritesOn l before after s r
          unfolding and_then
          write_one y q e after r w =
              let b = segment_block_lem l y sound s (content_of (block_of s l)) here in
              let c : q.count - 0 ≡ q.count = omega arith in
              let a : Answer (List ℕ) = fitting (length before) b.block in
              let v : write_rule CrCrLf (length before) (take (q.count - 0) q.places) q.purge ≡ a =
              ap (λ (k : ℕ). write_rule CrCrLf (length before) (take k q.places) q.purge) c
              ∙ ap (λ (x : Content). write_rule CrCrLf (length before) x.places x.purge) e
              ∙ rule_block CrCrLf (length before) (content_of (block_of s l)) b.block b.given in
              ruled l before after s r a
              (rule_sound l s (length before) h sound (Some b.block) b.is)
              (w.answer ∙ ap length_of v)
              (w.output ∙ ap (λ (x : Answer (List ℕ)). output_of x before) v)
