use Rattle.history.proofs.Stores.{placed_among, placed_wider}
use Rattle.history.proofs.CommitStore.{commit_found_done}
use Rattle.std.proofs.Common.{rules}
use Rattle.history.proofs.commit_found.Goals as goal

pub push_step-requires : goal.push_step-requires
push_step-requires c = (search rules, placed_among _ _ _ c.segments-changed.ensures c.requires.3)

pub replace-requires : goal.replace-requires
replace-requires c = placed_wider _ c.requires.3

pub returns : goal.returns
returns c = commit_found_done c.args.book.now _ _ _ c.args.d c.args.found _ c.segments-changed.ensures c.requires.3
    c.push_step.ensures c.replace.ensures c.finish.ensures
