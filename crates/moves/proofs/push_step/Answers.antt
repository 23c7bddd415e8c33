use Rattle.moves.proofs.StepsForgot.{pushed_none, pushed_one, pushed_two}
use Rattle.std.proofs.Common.{rules}
use Rattle.moves.proofs.push_step.Goals as goal

pub returns-in-Nothing : goal.returns-in-Nothing
returns-in-Nothing c = search (pushed_none, rules)

pub returns-in-One : goal.returns-in-One
returns-in-One c = pushed_one _ _ _ _ _ c.in-One.is c.make_room.ensures.lies c.append_one.ensures

pub returns-in-Two : goal.returns-in-Two
returns-in-Two c = pushed_two _ _ _ _ _ _ c.in-Two.is c.make_room-in-Two.ensures.lies c.append_two.ensures
