use Rattle.replay.proofs.Starts.{case_high, case_less}
use Rattle.std.proofs.Common.{rules}
use Rattle.replay.proofs.run_all.Goals as goal

pub run-requires : goal.run-requires
run-requires g c = search (case_high, rules)

pub loop-source-smaller : goal.loop-source-smaller
loop-source-smaller g c = search (case_less, rules)
