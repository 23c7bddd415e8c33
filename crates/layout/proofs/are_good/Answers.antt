use Rattle.std.proofs.Common.{rules, ◌∙◌, refl}
use Rattle.calendar.specs.Window.{WindowOf}
use Rattle.blocks.specs.Block.{number_at}
use Rattle.std.proofs.lemmas.Iterator.{YieldsList-from_range, serves_from_Range}
use Rattle.std.proofs.lemmas.Iterator.Search.{all_from_yields_List}
use Rattle.layout.specs.Tests.{is_good}
use Rattle.layout.proofs.Issues.{window_there, window_told}
use Rattle.layout.proofs.Tests.{all_upward}
use Rattle.layout.proofs.are_good.Goals as goal

pub returns-in_default : goal.returns-in_default
returns-in_default c = search (window_there, rules)

pub all-requires-clause-callable : goal.all-requires-clause-callable
all-requires-clause-callable c =
    let told : WindowOf (number_at c.args.book.now 0) c.in-Some.w = search (window_told, rules) in
    serves_from_Range (λ x q r. search rules) (λ x g h. search rules)

pub returns : goal.returns
returns c =
    all_from_yields_List (is_good c.args.book.now) _ _ _ c.all.ensures.ran (YieldsList-from_range 1 49 48 refl refl) (λ x r q k. search rules)
    ∙ all_upward (is_good c.args.book.now) 1 48
