use Rattle.std.proofs.Common.{◌≡◌, refl, ◌∙◌, List, [], ◌∷◌, ◌&&◌, eqb, ap, rules, tests}
use Rattle.std.specs.List.{list_all}
use Rattle.std.proofs.lemmas.Iterator.{YieldsList-from_slice}
use Rattle.std.proofs.lemmas.Iterator.Search.{all_from_yields_List}
use Rattle.lines.specs.Lines.{blank}
use Rattle.lines.proofs.is_blank.Goals as goal

blank_is : (s : List _) → list_all (λ b. eqb b 32) s ≡ blank s
unfolding blank
blank_is [] = refl
blank_is (b ∷ s) = ap (λ t. eqb b 32 && t) (blank_is s)

pub returns : goal.returns
returns c =
    let line = c.args.line.now in
    all_from_yields_List (λ b. eqb b 32) _ _ _ c.all.ensures.ran (YieldsList-from_slice line cc) (λ x b q k. search (rules, tests)) ∙ blank_is line
