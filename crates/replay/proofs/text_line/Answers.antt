use Rattle.replay.proofs.Texts.{text_over, text_short, text_taken}
use Rattle.std.proofs.Common.{rules}
use Rattle.replay.proofs.text_line.Goals as goal

pub returns-then-n-gt-TEXT-clause-is : goal.returns-then-n-gt-TEXT-clause-is
returns-then-n-gt-TEXT-clause-is g c = search (text_over, rules)

pub returns-then-input-start-clause-is : goal.returns-then-input-start-clause-is
returns-then-input-start-clause-is g c = search (text_short, rules)

pub returns-clause-is : goal.returns-clause-is
returns-clause-is g c = search (text_taken, rules)
