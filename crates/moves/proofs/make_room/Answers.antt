use Rattle.moves.proofs.StepsForgot.{room_forgotten, room_there}
use Rattle.std.proofs.Common.{rules}
use Rattle.moves.proofs.make_room.Goals as goal

pub returns-then-n-eq16-clause-lies : goal.returns-then-n-eq16-clause-lies
returns-then-n-eq16-clause-lies c = search (room_forgotten, rules)

pub returns-else-n-eq16-clause-lies : goal.returns-else-n-eq16-clause-lies
returns-else-n-eq16-clause-lies c = search (room_there, rules)
