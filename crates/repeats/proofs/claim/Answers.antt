use Rattle.repeats.proofs.Marking.{claiming_hit, claiming_on, claiming_done}
use Rattle.std.proofs.Common.{rules}
use Rattle.repeats.proofs.claim.Goals as goal

pub returns-then-claim_word : goal.returns-then-claim_word
returns-then-claim_word c = search (claiming_hit, rules)

pub loop-k-preserved : goal.loop-k-preserved
loop-k-preserved c = search (claiming_on, rules)

pub returns : goal.returns
returns c = search (claiming_done, rules)
