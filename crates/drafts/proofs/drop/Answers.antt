use mathlib.Core.Path.{ap}
use mathlib.Core.Bool.{not}
use native.Mathlib.Omega.{arith}
use Rattle.blocks.specs.Block.{Bytes}
use Rattle.drafts.proofs.Opens.{ends_short, ends_unsound}
use Rattle.drafts.proofs.Drops.{drop_shut, drop_from, drop_to, drop_does}
use Rattle.std.proofs.Common.{rules}
use Rattle.drafts.proofs.drop.Goals as goal

pub returns-then-book-ne25088 : goal.returns-then-book-ne25088
returns-then-book-ne25088 c = search (ends_short, rules)

pub returns-then-not-is_sound : goal.returns-then-not-is_sound
returns-then-not-is_sound c = search (ends_unsound, rules)

pub returns-then-not-is_open : goal.returns-then-not-is_open
unfolding Bytes
returns-then-not-is_open c = let l = c.args.book.now in
    let y : Bytes l = λ i. omega (arith, c.slice_known-1.given i) in
    search (drop_shut, y, rules)

pub close_draft-requires : goal.close_draft-requires
close_draft-requires c = (search (drop_from, rules), search (drop_to, rules))

pub returns : goal.returns
unfolding Bytes
returns c = let l = c.args.book.now in
    let y : Bytes l = λ i. omega (arith, c.slice_known-1.given i) in
    drop_does l _ _ c.is_open.ensures y c.if-book-ne25088.false _ c.is_sound.ensures (ap not c.if-not-is_sound.false) _
    (ap not c.if-not-is_open.false) (rw c.as_book_mut-book.ensures.value at c.close_draft.ensures) _ c.seal_index.ensures
