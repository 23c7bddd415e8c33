use mathlib.Core.Path.{ap, ◌∙◌}
use Rattle.std.proofs.Common.{rules}
use Rattle.bulletin.specs.Report.{report_said}
use Rattle.packing.specs.Packing.{pack}
use Rattle.packing.proofs.Ways.{packs}
use Rattle.plugin.specs.Rules.{identifier_in}
use Rattle.plugin.proofs.hollgrimsa_identifier.Goals as goal

pub returns : goal.returns
returns c = packs identifier_in report_said _ c.read-bulletin.result c.pack.result c.pack.ensures (λ x n q b. search rules) ∙ ap (pack identifier_in) c.read-bulletin.ensures.is.says
