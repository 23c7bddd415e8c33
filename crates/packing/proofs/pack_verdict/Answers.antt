use Rattle.packing.specs.Packing.{nothing}
use Rattle.packing.proofs.Ways.{packs_it}
use Rattle.std.proofs.Common.{rules}
use Rattle.packing.proofs.pack_verdict.Goals as goal

pub returns : goal.returns
returns c = packs_it nothing _ c.args.verdict c.pack.result c.pack.ensures (λ x n q b. search rules)
