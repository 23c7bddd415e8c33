use Rattle.printing.proofs.Asking.{asked_month, asked_wrong}
use Rattle.std.proofs.Common.{rules}
use Rattle.printing.proofs.read_asked.Goals as goal

pub returns-then-a-b : goal.returns-then-a-b
returns-then-a-b c = search (asked_month, rules)

pub returns : goal.returns
returns c = search (asked_wrong, rules)
