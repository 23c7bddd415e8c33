use Rattle.packing.specs.Packing.{plain}
use Rattle.packing.proofs.Ways.{packs_it}
use Rattle.std.proofs.Common.{rules}
use Rattle.packing.proofs.pack_written.Goals as goal

pub returns : goal.returns
returns c = packs_it plain _ c.args.written c.pack.result c.pack.ensures (λ x n q b. search rules)
