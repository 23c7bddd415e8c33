use Rattle.bulletin.proofs.Tops.{check_length, check_month, check_text_lem}
use Rattle.std.proofs.Common.{rules}
use Rattle.bulletin.proofs.check.Goals as goal

pub returns-then-not-n : goal.returns-then-not-n
returns-then-not-n c = search (check_length, rules)

pub returns-then-not-is_issue_month : goal.returns-then-not-is_issue_month
returns-then-not-is_issue_month c = search (check_month, rules)

pub returns : goal.returns
returns c = search (check_text_lem, rules)
