use Rattle.std.proofs.Common.{◌≤◌, ◌≡◌, length}
use Rattle.replay.proofs.say_hex.Given as goal

abbrev pub invariant-loop-b : goal.invariant-loop-b
invariant-loop-b g l = (l.filled ≤ 1022) × (length l.text ≡ 1024)
