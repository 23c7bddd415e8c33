use Rattle.writing.proofs.Ink.{open_within}
use Rattle.writing.proofs.Inking.{flush_one, flush_two}
use Rattle.std.proofs.Common.{rules}
use Rattle.writing.proofs.Pen.flush.Goals as goal

pub returns-then-run-eq1-clause-inked : goal.returns-then-run-eq1-clause-inked
returns-then-run-eq1-clause-inked c = search (flush_two, rules)

pub add-requires-2-clause-run : goal.add-requires-2-clause-run
add-requires-2-clause-run c = search (open_within, rules)

pub returns-clause-inked : goal.returns-clause-inked
returns-clause-inked c = search (flush_one, rules)
