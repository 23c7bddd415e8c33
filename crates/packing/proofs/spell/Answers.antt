use Rattle.packing.proofs.Ways.{spell_none, spell_one, spell_two}
use Rattle.std.proofs.Common.{rules}
use Rattle.packing.proofs.spell.Goals as goal

pub returns-in-Nothing : goal.returns-in-Nothing
returns-in-Nothing c = search (spell_none, rules)

pub returns-in-One : goal.returns-in-One
returns-in-One c = search (spell_one, rules)

pub returns-in-Two : goal.returns-in-Two
returns-in-Two c = search (spell_two, rules)
