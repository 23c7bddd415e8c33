use Rattle.lines.specs.Bytes.{word}
use Rattle.codes.proofs.Forms.{form_short, all_by, all_not}
use Rattle.std.proofs.Common.{rules}
use Rattle.codes.proofs.is_all.Goals as goal

pub returns-then-text-i-lt4 : goal.returns-then-text-i-lt4
returns-then-text-i-lt4 c = search (form_short (word "ALL-"), rules)

pub returns-then-text-i-eq65 : goal.returns-then-text-i-eq65
returns-then-text-i-eq65 c = search (all_by, rules)

pub returns : goal.returns
returns c = search (all_not, rules)
