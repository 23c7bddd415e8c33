use Rattle.codes.proofs.Climbs.{climbs_on}
use Rattle.writing.proofs.Sets.{set_short, set_long, set_done}
use Rattle.std.proofs.Common.{rules, arith}
use Rattle.writing.proofs.is_set.Goals as goal

pub returns-then-n-lt1 : goal.returns-then-n-lt1
returns-then-n-lt1 c = grind (arith, set_short, set_long)

pub loop-i-preserved : goal.loop-i-preserved
loop-i-preserved c = search (climbs_on, rules)

pub returns : goal.returns
returns c = search (set_done, rules)
