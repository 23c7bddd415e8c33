use Rattle.codes.proofs.Forms.{digits_by}
use Rattle.std.proofs.Common.{rules}
use Rattle.codes.proofs.digits.Goals as goal

pub returns : goal.returns
returns c = search (digits_by, rules)
