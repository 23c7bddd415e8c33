use Prim.Native.Nat.{◌-◌}
use mathlib.Core.Path.{◌≡◌}
use Rattle.moves.proofs.DraftsStale.{marks}
use Rattle.moves.proofs.mark_drafts.Given as goal

abbrev pub invariant-loop-d : goal.invariant-loop-d
invariant-loop-d l = l.book ≡ marks (l.d - 1) l.initial.book l.s
