use Rattle.codes.proofs.Forms.{single_room, numbers_single}
use Rattle.std.proofs.Common.{rules}
use Rattle.codes.proofs.single.Goals as goal

pub three-n-requires : goal.three-n-requires
three-n-requires c = search (single_room, rules)

pub returns : goal.returns
returns c = search (numbers_single, rules)
