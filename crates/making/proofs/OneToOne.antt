-- The promises of make and write determine the answer and the bytes. Assumes nothing.
use mathlib.Core.List.{List}
use Prim.Native.Nat.{ℕ}
use Rattle.laws.proofs.One.{answer_one, Same}
use Rattle.refusal.proofs.OneToOne.{result_one}
use Rattle.std.specs.Prelude.{Result}
use Rattle.refusal.specs.declared.Refusal.{Refusal}
use Rattle.making.specs.Make.{Makes, WritesOn}

pub makes_one : (l m n text : List ℕ) (year month : ℕ) (r q : Result Unit Refusal) → Makes l m text year month r → Makes l n text year month q → Same r q m n
makes_one l m n text year month r q x y = record { answers = result_one r q x.answer y.answer; bytes = answer_one m n x.left y.left }

pub writes_one : (l out m n : List ℕ) (s : ℕ) (r q : Result ℕ Refusal) → WritesOn l out m s r → WritesOn l out n s q → Same r q m n
writes_one l out m n s r q x y = record { answers = result_one r q x.answer y.answer; bytes = answer_one m n x.output y.output }
