use mathlib.Core.Path.{ap, ◌∙◌}
use Rattle.std.proofs.Common.{rules}
use Rattle.bulletin.specs.Report.{report_said}
use Rattle.packing.specs.Packing.{pack}
use Rattle.packing.proofs.Ways.{packs}
use Rattle.plugin.specs.Rules.{count_in}
use Rattle.plugin.proofs.Readings.{count_told}
use Rattle.plugin.proofs.hollgrimsa_segments.Goals as goal

pub returns : goal.returns
returns c = packs count_in report_said _ c.read-bulletin.result c.pack.result c.pack.ensures (λ x n q b. count_told c.read-bulletin.result c.read-bulletin.ensures.sized x q n (search rules)) ∙ ap (pack count_in) c.read-bulletin.ensures.is.says
