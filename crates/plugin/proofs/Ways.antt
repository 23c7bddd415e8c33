-- The ways out of a wrapped call: its answer packed, and the bytes that it leaves. Assumes nothing.
use Prim.Native.Nat.{ℕ}
use mathlib.Core.Path.{◌≡◌, ap, ◌∙◌}
use mathlib.Core.List.{List}
use lib.ListN.{length}
use Rattle.std.specs.Prelude.{Result}
use Rattle.refusal.specs.Answer.{answer_by, answer_of}
use Rattle.refusal.specs.declared.Refusal.{Refusal}
use Rattle.lines.specs.declared.End.TheVariants.{CrCrLf}
use Rattle.writing.specs.Write.{write_rule, length_of, output_of, Writes}
use Rattle.steps.specs.Calls.{Call, BookAnswer}
use Rattle.layout.specs.Rule.{on_bytes, value_said, Does}
use Rattle.layout.specs.declared.Reply.{Reply}
use Rattle.making.specs.Make.{make_rule, made_answer, made_bytes, Makes, write_on, WritesOn}
use Rattle.sending.specs.Send.{edited_rule, WritesEdited}
use Rattle.packing.specs.Packing.{pack, packed, nothing, plain}

module _ (l m : List ℕ) (c : Call) (x : Result Reply Refusal) (r : ℕ) where
  pub does_packed : Does l m c x → r ≡ packed (answer_by value_said x) → r ≡ packed (on_bytes l c).0
  does_packed d e = e ∙ ap packed d.answer

pub does_left : (l m : List ℕ) (c : Call) (x : Result Reply Refusal) → Does l m c x → m ≡ (on_bytes l c).1
does_left l m c x d = d.left

pub says_packed : (x : Result Reply Refusal) (a : BookAnswer) (r : ℕ) → answer_by value_said x ≡ a → r ≡ packed (answer_by value_said x) → r ≡ packed a
says_packed x a r q e = e ∙ ap packed q

module _ (l m text : List ℕ) (year month : ℕ) (v : Result Unit Refusal) (d : Makes l m text year month v) where
  pub make_packed : (r : ℕ) → r ≡ pack nothing (answer_of v) → r ≡ pack nothing (made_answer (make_rule l text year month))
  make_packed r e = e ∙ ap (pack nothing) d.answer

  pub make_left : m ≡ made_bytes (make_rule l text year month) l
  make_left = d.left

module _ (l before after : List ℕ) (s : ℕ) (w : Result ℕ Refusal) (d : WritesOn l before after s w) where
  pub write_packed : (r : ℕ) → r ≡ pack plain (answer_of w) → r ≡ pack plain (length_of (write_on l s (length before)))
  write_packed r e = e ∙ ap (pack plain) d.answer

  pub write_left : after ≡ output_of (write_on l s (length before)) before
  write_left = d.output

module _ (before after places : List ℕ) (minute : ℕ) (w : Result ℕ Refusal) (d : Writes before after places minute w) where
  pub block_packed : (r : ℕ) → r ≡ pack plain (answer_of w) → r ≡ pack plain (length_of (write_rule CrCrLf (length before) places minute))
  block_packed r e = e ∙ ap (pack plain) d.answer

  pub block_left : after ≡ output_of (write_rule CrCrLf (length before) places minute) before
  block_left = d.output

module _ (text l before after : List ℕ) (w : Result ℕ Refusal) (d : WritesEdited text l before after w) where
  pub edited_packed : (r : ℕ) → r ≡ pack plain (answer_of w) → r ≡ pack plain (length_of (edited_rule text l (length before)))
  edited_packed r e = e ∙ ap (pack plain) d.answer

  pub edited_left : after ≡ output_of (edited_rule text l (length before)) before
  edited_left = d.output
