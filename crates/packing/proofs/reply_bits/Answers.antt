use Rattle.packing.specs.Packing.{value_bits}
use Rattle.packing.proofs.reply_bits.Goals as goal

pub returns-in-Draft : goal.returns-in-Draft
unfolding value_bits
returns-in-Draft c = rw c.in-Draft.is

pub returns-in-Done : goal.returns-in-Done
unfolding value_bits
returns-in-Done c = rw c.in-Done.is

pub returns-in-Number : goal.returns-in-Number
unfolding value_bits
returns-in-Number c = rw c.in-Number.is

pub returns-in-Was : goal.returns-in-Was
unfolding value_bits
returns-in-Was c = rw c.in-Was.is c.from.ensures

pub returns-in-Segments : goal.returns-in-Segments
unfolding value_bits
returns-in-Segments c = rw c.in-Segments.is c.spell.ensures
