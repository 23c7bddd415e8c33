use Rattle.sending.proofs.Ways.{room_few, room_all}
use Rattle.std.proofs.Common.{rules}
use Rattle.sending.proofs.write_read.Goals as goal

pub write_with-requires-clause-room_for : goal.write_with-requires-clause-room_for
write_with-requires-clause-room_for c = search (room_few, rules)

pub write_with-requires-2-clause-room_for : goal.write_with-requires-2-clause-room_for
write_with-requires-2-clause-room_for c = search (room_all, rules)
