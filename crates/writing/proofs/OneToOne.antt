-- The promise of the write call determines the answer and the output. Assumes nothing.
use Prim.Native.Nat.{ℕ}
use mathlib.Core.List.{List}
use Rattle.laws.proofs.One.{answer_one, Same}
use Rattle.lines.specs.declared.End.{End}
use Rattle.std.specs.Prelude.{Result}
use Rattle.refusal.specs.declared.Refusal.{Refusal}
use Rattle.refusal.proofs.OneToOne.{result_one}
use Rattle.writing.specs.Write.{WritesEnded}

pub writes_block_one : (end : End) (out m n places : List ℕ) (minute : ℕ) (r q : Result ℕ Refusal)
    → WritesEnded end out m places minute r → WritesEnded end out n places minute q → Same r q m n
writes_block_one end out m n places minute r q x y = record { answers = result_one r q x.answer y.answer; bytes = answer_one m n x.output y.output }
