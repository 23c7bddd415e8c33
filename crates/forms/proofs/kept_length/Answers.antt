use Rattle.forms.proofs.Keeping.{counting_on, counting_done}
use Rattle.std.proofs.Common.{rules}
use Rattle.forms.proofs.kept_length.Goals as goal

pub loop-segment-preserved : goal.loop-segment-preserved
loop-segment-preserved c = search (counting_on, rules)

pub returns-clause-is : goal.returns-clause-is
returns-clause-is c = search (counting_done, rules)
