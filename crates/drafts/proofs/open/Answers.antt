use mathlib.Core.Path.{◌≡◌, ap}
use Rattle.std.specs.Prelude.{None, Some}
use Rattle.refusal.specs.Answer.{refusal_for}
use Rattle.refusal.specs.declared.Reason.TheVariants.{AllOpen}
use Rattle.refusal.proofs.Exits.{Refuses, none_refused}
use mathlib.Core.Bool.{not}
use native.Mathlib.Omega.{arith}
use Rattle.blocks.specs.Block.{Bytes}
use Rattle.drafts.proofs.Opens.{ends_short, ends_unsound, open_none, open_from, open_to, open_does}
use Rattle.std.proofs.Common.{rules}
use Rattle.drafts.proofs.open.Goals as goal

pub returns-then-book-ne25088 : goal.returns-then-book-ne25088
returns-then-book-ne25088 c = search (ends_short, rules)

pub returns-then-not-is_sound : goal.returns-then-not-is_sound
returns-then-not-is_sound c = search (ends_unsound, rules)

pub returns-in_err-d : goal.returns-in_err-d
unfolding Bytes
returns-in_err-d c = let l = c.args.book.now in
    let y : Bytes l = λ i. omega (arith, c.slice_known-1.given i) in
    let p : Refuses c.lowest_closed.result (refusal_for AllOpen 0) c.from_residual.result = search (none_refused, rules) in
    let n : c.lowest_closed.result ≡ None = p.nothing in
    rw p.is (search (open_none, y, rules))

pub open_draft-requires : goal.open_draft-requires
open_draft-requires c =
    let q : c.lowest_closed.result ≡ Some c.in_ok-d.d = grind arith in
    (search (open_from, rules), search (open_to, rules))

pub returns : goal.returns
unfolding Bytes
returns c = let l = c.args.book.now in
    let y : Bytes l = λ i. omega (arith, c.slice_known-1.given i) in
    let q : c.lowest_closed.result ≡ Some c.in_ok-d.d = grind arith in
    open_does l c.if-book-ne25088.false _ c.is_sound.ensures (ap not c.if-not-is_sound.false) _
    c.lowest_closed.ensures _
    q y _ (rw c.as_book_mut-book.ensures.value at c.open_draft.ensures) _ c.seal_index.ensures
