use Rattle.moves.proofs.DraftsStale.{marks, marks_more, drafts_marked}
use Rattle.std.proofs.Common.{rules, refl, arith}
use Rattle.moves.proofs.mark_drafts.Goals as goal

pub loop-d-init : goal.loop-d-init
unfolding marks
loop-d-init c = refl

pub loop-d-preserved : goal.loop-d-preserved
loop-d-preserved c = search (marks_more, rules)

pub returns : goal.returns
returns c = drafts_marked _ _ _ _ c.requires c.loop-d.invariant (omega arith) (omega arith)
