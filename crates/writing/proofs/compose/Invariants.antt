use Prim.Native.Nat.{◌+◌}
use Rattle.writing.proofs.Composing.{Begun}
use Rattle.writing.proofs.compose.Given as goal

abbrev pub invariant-loop-place : goal.invariant-loop-place
invariant-loop-place l = Begun l.end l.initial.out l.out l.s (l.place-index + 1) l.places
