use Rattle.repeats.proofs.Bits.{mask_to}
use Rattle.std.proofs.Common.{rules}
use Rattle.repeats.proofs.bits_to.Goals as goal

pub returns : goal.returns
returns c = search (mask_to, rules)
