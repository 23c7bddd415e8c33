-- One answer for each input: what a call promises, two results of which it says are equal, the lent bytes afterwards with them. Assumes nothing.
use Prim.Native.Nat.{ℕ}
use mathlib.Core.Path.{◌≡◌}
use mathlib.Core.List.{List}
use Rattle.laws.proofs.One.{answer_one, Same}
use Rattle.refusal.specs.Answer.{Answer}
use Rattle.writing.specs.Write.{length_of, output_of}
use Rattle.bulletin.specs.Bulletin.{read_bulletin}
use Rattle.bulletin.specs.Report.{Report, reported}
use Rattle.bulletin.specs.View.{view_of}
use Rattle.segments.specs.declared.Segment.{Segment}
use Rattle.steps.specs.Calls.{Call}
use Rattle.layout.specs.Rule.{on_bytes}
use Rattle.making.specs.Make.{make_rule, made_answer, made_bytes}
use Rattle.packing.specs.Packing.{pack, packed, nothing, plain}
use Rattle.plugin.specs.Rules.{place_in}

-- ---- the book: open, take, add, remove, set purge, commit, drop and undo
module _ (l m n : List ℕ) (r s : ℕ) where
  pub book_call_one : (c : Call) → r ≡ packed (on_bytes l c).0 → m ≡ (on_bytes l c).1 → s ≡ packed (on_bytes l c).0 → n ≡ (on_bytes l c).1 → Same r s m n
  book_call_one c a x b y = record { answers = answer_one r s a b; bytes = answer_one m n x y }

  pub make_call_one : (text : List ℕ) (year month : ℕ)
      → r ≡ pack nothing (made_answer (make_rule l text year month)) → m ≡ made_bytes (make_rule l text year month) l
      → s ≡ pack nothing (made_answer (make_rule l text year month)) → n ≡ made_bytes (make_rule l text year month) l → Same r s m n
  make_call_one text year month a x b y = record { answers = answer_one r s a b; bytes = answer_one m n x y }

-- the three reads of a copy change nothing
pub read_call_one : (l : List ℕ) (c : Call) (r s : ℕ) → r ≡ packed (on_bytes l c).0 → s ≡ packed (on_bytes l c).0 → r ≡ s
read_call_one l c r s a b = answer_one r s a b

-- ---- the writers, into an output: the rule of write, of write_block or of write_edited gave the answer
pub writer_call_one : (out m n : List ℕ) (r s : ℕ) (a : Answer (List ℕ))
    → r ≡ pack plain (length_of a) → m ≡ output_of a out → s ≡ pack plain (length_of a) → n ≡ output_of a out → Same r s m n
writer_call_one out m n r s a e x f y = record { answers = answer_one r s e f; bytes = answer_one m n x y }

-- ---- the reader: of a bulletin, of one of its segments, of one of its places
module _ (text : List ℕ) (year month : ℕ) (r s : ℕ) where
  pub report_call_one : (part : Report → ℕ) → r ≡ pack part (reported (read_bulletin text year month)) → s ≡ pack part (reported (read_bulletin text year month)) → r ≡ s
  report_call_one part a b = answer_one r s a b

  pub segment_call_one : (part : Segment → ℕ) (n : ℕ) → r ≡ pack part (view_of text year month n) → s ≡ pack part (view_of text year month n) → r ≡ s
  segment_call_one part n a b = answer_one r s a b

  pub place_call_one : (n i : ℕ) → r ≡ packed (place_in text year month n i) → s ≡ packed (place_in text year month n i) → r ≡ s
  place_call_one n i a b = answer_one r s a b
