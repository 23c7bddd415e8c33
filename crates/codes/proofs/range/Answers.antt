use Rattle.codes.proofs.Forms.{first_room, last_room, range_covers, range_order}
use Rattle.std.proofs.Common.{rules}
use Rattle.codes.proofs.range.Goals as goal

pub three-first-requires : goal.three-first-requires
three-first-requires c = search (first_room, rules)

pub three-last-requires : goal.three-last-requires
three-last-requires c = search (last_room, rules)

pub returns-then-first-last : goal.returns-then-first-last
returns-then-first-last c = search (range_covers, rules)

pub returns : goal.returns
returns c = search (range_order, rules)
