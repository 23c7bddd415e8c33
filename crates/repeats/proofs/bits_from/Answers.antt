use Rattle.repeats.proofs.Bits.{mask_from}
use Rattle.std.proofs.Common.{rules}
use Rattle.repeats.proofs.bits_from.Goals as goal

pub returns : goal.returns
returns c = search (mask_from, rules)
