use Rattle.writing.proofs.Inking.{room_here, room_new}
use Rattle.std.proofs.Common.{rules}
use Rattle.writing.proofs.Pen.make_room.Goals as goal

pub returns-then-self-n-le-WRITTEN_MOST : goal.returns-then-self-n-le-WRITTEN_MOST
returns-then-self-n-le-WRITTEN_MOST c = search (room_here, rules)

pub returns : goal.returns
returns c = search (room_new, rules)
