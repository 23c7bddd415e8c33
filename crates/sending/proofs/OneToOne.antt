-- The promise of the call determines the answer and every byte of the output. Assumes nothing.
use Prim.Native.Nat.{ℕ}
use mathlib.Core.List.{List}
use Rattle.laws.proofs.One.{answer_one, Same}
use Rattle.std.specs.Prelude.{Result}
use Rattle.refusal.specs.declared.Refusal.{Refusal}
use Rattle.refusal.proofs.OneToOne.{result_one}
use Rattle.sending.specs.Send.{WritesEdited}

pub writes_edited_one : (text l out m n : List ℕ) (r q : Result ℕ Refusal) → WritesEdited text l out m r → WritesEdited text l out n q → Same r q m n
writes_edited_one text l out m n r q x y = record { answers = result_one r q x.answer y.answer; bytes = answer_one m n x.output y.output }
