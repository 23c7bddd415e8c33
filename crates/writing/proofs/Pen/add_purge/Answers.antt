use Rattle.writing.proofs.Inking.{inked_one}
use Rattle.writing.proofs.Spelling.{long_purge}
use Rattle.std.proofs.Common.{rules}
use Rattle.writing.proofs.Pen.add_purge.Goals as goal

pub returns : goal.returns
returns c = search (inked_one, long_purge, rules)
