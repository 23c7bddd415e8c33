use Rattle.sending.proofs.Ways.{text_most_lem, held_count, cuttable, edited_room, edited_short, edited_whole}
use Rattle.std.proofs.Common.{rules}
use Rattle.sending.proofs.write_with.Goals as goal

pub write_forms-sizes-requires-clause-count_value : goal.write_forms-sizes-requires-clause-count_value
write_forms-sizes-requires-clause-count_value c = (search (held_count, rules), search rules)

pub kept_length-kept-requires : goal.kept_length-kept-requires
kept_length-kept-requires c = (search (text_most_lem, rules), search rules)

pub returns-then-out-n : goal.returns-then-out-n
returns-then-out-n c = search (edited_short, rules)

pub put_edited-requires-clause-cuttable : goal.put_edited-requires-clause-cuttable
put_edited-requires-clause-cuttable c = search (cuttable, rules)

pub put_edited-requires-clause-each_in_bounds : goal.put_edited-requires-clause-each_in_bounds
put_edited-requires-clause-each_in_bounds c = search (edited_room, rules)

pub returns : goal.returns
returns c = search (edited_whole, rules)
