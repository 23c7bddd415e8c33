use Rattle.std.proofs.Common.{rules}
use Rattle.replay.proofs.Texts.{text_named, text_unnamed}
use Rattle.replay.proofs.asked_text.Goals as goal

pub returns-then-line : goal.returns-then-line
returns-then-line c = search (text_named, rules)

pub returns-else-line : goal.returns-else-line
returns-else-line c = search (text_unnamed, rules)
