use Rattle.codes.proofs.Forms.{three_by}
use Rattle.std.proofs.Common.{rules}
use Rattle.codes.proofs.three.Goals as goal

pub returns : goal.returns
returns c = search (three_by, rules)
