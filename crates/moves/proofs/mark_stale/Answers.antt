use Rattle.moves.proofs.DraftsStale.{marked_none, marked_one, marked_two}
use Rattle.std.proofs.Common.{rules}
use Rattle.moves.proofs.mark_stale.Goals as goal

pub returns-in-Nothing : goal.returns-in-Nothing
returns-in-Nothing c = search (marked_none, rules)

pub returns-in-One : goal.returns-in-One
returns-in-One c = search (marked_one, rules)

pub returns-in-Two : goal.returns-in-Two
returns-in-Two c = marked_two _ _ _ _ _ _ c.in-Two.is c.mark_drafts-in-Two.ensures c.mark_drafts-in-Two-2.ensures
