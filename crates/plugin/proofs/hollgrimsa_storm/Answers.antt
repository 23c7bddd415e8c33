use mathlib.Core.Path.{ap, ◌∙◌}
use Rattle.std.proofs.Common.{rules}
use Rattle.bulletin.specs.Report.{report_said}
use Rattle.packing.specs.Packing.{pack}
use Rattle.packing.proofs.Ways.{packs}
use Rattle.plugin.specs.Rules.{storm_bits_in}
use Rattle.plugin.proofs.hollgrimsa_storm.Goals as goal

pub returns : goal.returns
returns c = packs storm_bits_in report_said _ c.read-bulletin.result c.pack.result c.pack.ensures (λ x n q b. search rules) ∙ ap (pack storm_bits_in) c.read-bulletin.ensures.is.says
