use Rattle.layout.specs.Rule.{value_said}
use Rattle.packing.specs.Packing.{value_bits}
use Rattle.packing.proofs.Ways.{packs}
use Rattle.std.proofs.Common.{rules}
use Rattle.packing.proofs.pack_reply.Goals as goal

pub returns : goal.returns
returns c = packs value_bits value_said _ c.args.reply c.pack.result c.pack.ensures (λ x n q b. search rules)
