use mathlib.Core.Path.{ap, ◌∙◌}
use Rattle.std.proofs.Common.{rules}
use Rattle.packing.specs.Packing.{pack}
use Rattle.packing.proofs.Ways.{packs_it}
use Rattle.plugin.specs.Rules.{view_bits_of}
use Rattle.plugin.proofs.hollgrimsa_view.Goals as goal

pub returns : goal.returns
returns c = packs_it view_bits_of _ c.find_segment-segment.result c.pack.result c.pack.ensures (λ x n q b. search rules) ∙ ap (pack view_bits_of) c.find_segment-segment.ensures
