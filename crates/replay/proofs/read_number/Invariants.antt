use Rattle.replay.proofs.Digits.{ReadsSome}
use Rattle.replay.proofs.read_number.Given as goal

abbrev pub invariant-loop-k : goal.invariant-loop-k
invariant-loop-k l = ReadsSome l.line l.from l.value l.k
