use native.Mathlib.Omega.{arith}
use Rattle.blocks.specs.Block.{Bytes}
use Rattle.sending.proofs.Ways.{edited_empty, edited_long, edited_book, is_length_lem, edited_broken}
use Rattle.std.proofs.Common.{rules}
use Rattle.sending.proofs.write_edited.Goals as goal

pub returns-then-n-lt1 : goal.returns-then-n-lt1
returns-then-n-lt1 c = search (edited_empty, rules)

pub returns-then-n-gt16384 : goal.returns-then-n-gt16384
returns-then-n-gt16384 c = search (edited_long, rules)

pub returns-then-book-ne25088 : goal.returns-then-book-ne25088
returns-then-book-ne25088 c = search (edited_book, rules)

pub write_sound-requires-clause-text_value : goal.write_sound-requires-clause-text_value
unfolding Bytes
write_sound-requires-clause-text_value c = search (is_length_lem, rules)

pub write_sound-requires-clause-sound_book : goal.write_sound-requires-clause-sound_book
unfolding Bytes
write_sound-requires-clause-sound_book c = record { long = search rules; sound = cc; bytes = λ i. omega (arith, c.shared_slice_known-2-1.given i) }

pub returns-then-not-is_sound : goal.returns-then-not-is_sound
returns-then-not-is_sound c = search (edited_broken, is_length_lem, rules)
