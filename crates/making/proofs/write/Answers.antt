use Rattle.making.proofs.Writing.{write_short, write_broken}
use Rattle.std.proofs.Common.{rules}
use Rattle.making.proofs.write.Goals as goal

pub returns-in_default : goal.returns-in_default
returns-in_default c = let short = c.in_default.ensures.cases in search (write_short, short, rules)

pub returns-then-not-is_sound : goal.returns-then-not-is_sound
returns-then-not-is_sound c = let whole = c.in-Some.ensures.cases in
    let long = whole.long in
    let told = rw whole.same at c.is_sound.ensures in
    search (write_broken, long, told, rules)
