use Rattle.std.proofs.Common.{rules, arith}
use Rattle.moves.proofs.Drafts.{closed_done}
use Rattle.moves.proofs.close_draft.Goals as goal

pub returns : goal.returns
returns c = closed_done _ _ _ _ _ _ (search rules) (omega arith) (omega arith) (omega arith) (c.fill.ensures.after (λ y e. e)) c.clear_block.ensures c.clear_block-2.ensures
