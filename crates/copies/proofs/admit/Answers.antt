use Rattle.copies.proofs.Finds.{admit_short, admit_bad, admit_shut, admit_far, admit_none, admit_all}
use Rattle.std.proofs.Common.{rules}
use Rattle.copies.proofs.admit.Goals as goal

pub returns-then-book-ne25088 : goal.returns-then-book-ne25088
returns-then-book-ne25088 c = search (admit_short, rules)

pub returns-then-not-is_sound : goal.returns-then-not-is_sound
returns-then-not-is_sound c = search (admit_bad, rules)

pub returns-then-not-is_open : goal.returns-then-not-is_open
returns-then-not-is_open c = search (admit_shut, rules)

pub returns-then-not-in_range : goal.returns-then-not-in_range
returns-then-not-in_range c = search (admit_far, rules)

pub returns-then-not-is_there : goal.returns-then-not-is_there
returns-then-not-is_there c = search (admit_none, rules)

pub returns : goal.returns
returns c = search (admit_all, rules)
