use Rattle.bulletin.proofs.Fronts.{office_or_close, storm_none, storm_closed, storm_room, storm_right, storm_wrong}
use Rattle.std.proofs.Common.{rules}
use Rattle.bulletin.proofs.read_storm.Goals as goal

pub returns-in_default : goal.returns-in_default
returns-in_default c =
    let f = c.first.ensures.is office_or_close (λ line t k. search rules) in
    search (storm_none, rules)

pub returns-then-closes : goal.returns-then-closes
returns-then-closes c =
    let f = c.first.ensures.is office_or_close (λ line t k. search rules) in
    search (storm_closed, rules)

pub overflow_sub-l : goal.overflow_sub-l
overflow_sub-l c =
    let f = c.first.ensures.is office_or_close (λ line t k. search rules) in
    search (storm_room, rules)

pub returns-in-Ok : goal.returns-in-Ok
returns-in-Ok c =
    let f = c.first.ensures.is office_or_close (λ line t k. search rules) in
    search (storm_right, rules)

pub returns-in-Err : goal.returns-in-Err
returns-in-Err c =
    let f = c.first.ensures.is office_or_close (λ line t k. search rules) in
    search (storm_wrong, rules)
