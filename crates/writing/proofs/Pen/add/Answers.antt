use Rattle.writing.proofs.Inking.{inked_one}
use Rattle.std.proofs.Common.{rules}
use Rattle.writing.proofs.Pen.add.Goals as goal

pub returns : goal.returns
returns c = search (inked_one, rules)
