use Rattle.std.proofs.Common.{rules, ◌∙◌, refl, arith}
use Rattle.std.proofs.lemmas.Iterator.{YieldsList-from_range}
use Rattle.std.proofs.lemmas.Iterator.Search.{all_from_yields_List}
use Rattle.layout.specs.Tests.{is_step_at}
use Rattle.layout.proofs.Tests.{all_upward}
use Rattle.layout.proofs.are_steps.Goals as goal

pub returns : goal.returns
returns c =
    all_from_yields_List (is_step_at c.args.b.now) _ _ _ c.all.ensures.ran (YieldsList-from_range 0 c.args.n c.args.n refl (omega arith)) (λ x r q k. search rules)
    ∙ all_upward (is_step_at c.args.b.now) 0 c.args.n
