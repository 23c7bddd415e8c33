use Rattle.std.proofs.Common.{rules, tests, ◌∙◌}
use Rattle.std.proofs.lemmas.Iterator.{YieldsList-from_slice}
use Rattle.std.proofs.lemmas.Iterator.Search.{all_from_yields_List}
use Rattle.lines.specs.Bytes.{between}
use Rattle.heading.proofs.Forms.{run_in, run_short}
use Rattle.heading.proofs.run.Goals as goal

pub returns-in_default : goal.returns-in_default
returns-in_default c = search (run_short, rules)

pub returns : goal.returns
returns c =
    let k = between c.args.low c.args.high in
    let part = c.in-Some.part.now in
    let e = c.in-Some.ensures.lookup in
    all_from_yields_List k _ _ _ c.all.ensures.ran (YieldsList-from_slice part cc) (λ x b q k. search (rules, tests)) ∙ run_in c.args.line.now c.args.from c.args.to k part e.0.2 e.0.1
