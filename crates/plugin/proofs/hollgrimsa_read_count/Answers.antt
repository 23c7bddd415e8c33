use Rattle.plugin.proofs.Ways.{says_packed}
use Rattle.std.proofs.Common.{rules}
use Rattle.plugin.proofs.hollgrimsa_read_count.Goals as goal

pub returns : goal.returns
returns c = search (says_packed, rules)
