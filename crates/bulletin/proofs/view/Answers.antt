use Rattle.bulletin.proofs.Views.{part_one, part_no}
use Rattle.std.proofs.Common.{rules}
use Rattle.bulletin.proofs.view.Goals as goal

pub returns-in-Ok : goal.returns-in-Ok
returns-in-Ok c = search (part_one, rules)

pub returns-in-Err : goal.returns-in-Err
returns-in-Err c = search (part_no, rules)
