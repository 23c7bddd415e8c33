use Rattle.history.proofs.CommitStore.{finish_done}
use Rattle.history.proofs.finish.Goals as goal

pub returns : goal.returns
returns c = let s = c.args in
    finish_done s.book.now _ _ s.d c.close_draft.ensures c.seal_index.ensures
