use Rattle.lines.proofs.Scans.{end_fits}
use Rattle.std.proofs.Common.{rules}
use Rattle.codes.proofs.past_end.Goals as goal

pub overflow_add-result : goal.overflow_add-result
overflow_add-result c = search (end_fits, rules)
