use Rattle.writing.proofs.Spelling.{stored_purge, two_days, two_hours, two_minutes}
use Rattle.std.proofs.Common.{rules}
use Rattle.writing.proofs.put_purge.Goals as goal

pub put_two-hour-requires : goal.put_two-hour-requires
put_two-hour-requires c = (search rules, search (two_days, rules))

pub put_two-minute-requires : goal.put_two-minute-requires
put_two-minute-requires c = (search rules, search (two_hours, rules))

pub put_two-end-requires : goal.put_two-end-requires
put_two-end-requires c = (search rules, search (two_minutes, rules))

pub returns : goal.returns
returns c = search (stored_purge, rules)
