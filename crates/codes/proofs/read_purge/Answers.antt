use mathlib.Core.Path.{sym, ◌∙◌}
use Rattle.codes.proofs.Forms.{purge_none}
use Rattle.std.proofs.Common.{rules}
use Rattle.codes.proofs.read_purge.Goals as goal

pub purge-requires-clause-stands : goal.purge-requires-clause-stands
purge-requires-clause-stands c = sym c.is_purge.ensures ∙ c.if-is_purge.true

pub returns : goal.returns
returns c = search (purge_none, rules)
