use Rattle.history.proofs.Stores.{placed_among, replace_done}
use Rattle.history.proofs.replace.Goals as goal

pub mark_stale-requires : goal.mark_stale-requires
mark_stale-requires c = placed_among _ _ _ c.segments-changed.ensures c.requires

pub returns : goal.returns
returns c = replace_done _ _ _ c.args.found _ c.segments-changed.ensures c.put_blocks.ensures c.mark_stale.ensures
