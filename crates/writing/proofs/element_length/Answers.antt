use Rattle.writing.proofs.Spelling.{long_single, long_range}
use Rattle.std.proofs.Common.{rules}
use Rattle.writing.proofs.element_length.Goals as goal

pub returns-then-run-eq0-clause-value : goal.returns-then-run-eq0-clause-value
returns-then-run-eq0-clause-value c = search (long_single, rules)

pub returns-clause-value : goal.returns-clause-value
returns-clause-value c = search (long_range, rules)
