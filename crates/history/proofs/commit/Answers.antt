use mathlib.Core.Path.{sym, ◌∙◌}
use Rattle.history.proofs.CommitRule.{commit_short, commit_unsound}
use Rattle.history.proofs.commit.Goals as goal

pub returns-in_default : goal.returns-in_default
returns-in_default c = commit_short _ _ _ c.in_default.ensures.cases c.into.ensures

pub returns-then-not-is_sound : goal.returns-then-not-is_sound
returns-then-not-is_sound c = let whole = c.in-Some.ensures.cases in
    rw whole.same
    (commit_unsound c.args.book.now c.args.d _ whole.long (sym (rw whole.same at c.is_sound.ensures) ∙ c.if-not-is_sound.true) c.into-then-not-is_sound.ensures)
