use mathlib.Core.Path.{◌≡◌}
use native.Mathlib.Omega.{arith}
use Rattle.blocks.specs.Block.{Bytes}
use Rattle.copies.proofs.Ways.{refused_does}
use Rattle.drafts.proofs.Takes.{take_admitted, take_long, take_sound, take_from, take_to, take_segment_from, take_segment_to, take_again, take_full, take_does}
use Rattle.std.specs.Prelude.{Ok, Err}
use Rattle.refusal.proofs.Exits.{handed}
use Rattle.std.proofs.Common.{rules}
use Rattle.drafts.proofs.take.Goals as goal

pub returns-in_err-admit : goal.returns-in_err-admit
unfolding Bytes
returns-in_err-admit c = let l = c.args.book.now in
    let y : Bytes l = λ i. omega (arith, c.slice_known-1.given i) in
    let z : c.admit.result ≡ Err c.in_err-admit.field-0.0 = c.in_err-admit.was in
    rw (handed c.from_residual.result _ c.from_residual.ensures.1) (search (refused_does, y, rules))

pub find_copy-requires : goal.find_copy-requires
find_copy-requires c =
    let is : c.admit.result ≡ Ok tt = c.in_ok-admit.was in
    search (take_admitted, rules)

pub returns-in_default : goal.returns-in_default
unfolding Bytes
returns-in_default c = let l = c.args.book.now in
    let y : Bytes l = λ i. omega (arith, c.slice_known-1.given i) in
    let is : c.admit.result ≡ Ok tt = c.in_ok-admit.was in
    search (take_again, y, rules)

pub count_taken-n-requires-clause-book_len : goal.count_taken-n-requires-clause-book_len
count_taken-n-requires-clause-book_len c =
    let is : c.admit.result ≡ Ok tt = c.in_ok-admit.was in
    (search (take_long, rules), search (take_from, rules), search (take_to, rules))

pub count_taken-n-requires-clause-book_value : goal.count_taken-n-requires-clause-book_value
count_taken-n-requires-clause-book_value c =
    let is : c.admit.result ≡ Ok tt = c.in_ok-admit.was in
    search (take_sound, rules)

pub returns-then-n-ge2 : goal.returns-then-n-ge2
unfolding Bytes
returns-then-n-ge2 c = let l = c.args.book.now in
    let y : Bytes l = λ i. omega (arith, c.slice_known-1.given i) in
    let is : c.admit.result ≡ Ok tt = c.in_ok-admit.was in
    search (take_full, y, rules)

pub as_book_mut-book-requires : goal.as_book_mut-book-requires
as_book_mut-book-requires c =
    let is : c.admit.result ≡ Ok tt = c.in_ok-admit.was in
    search (take_long, rules)

pub take_copy-requires : goal.take_copy-requires
take_copy-requires c =
    let is : c.admit.result ≡ Ok tt = c.in_ok-admit.was in (
      search (take_from, rules),
      search (take_to, rules),
      search rules,
      search (take_segment_from, rules),
      search (take_segment_to, rules),
    )

pub returns : goal.returns
unfolding Bytes
returns c = let l = c.args.book.now in
    let y : Bytes l = λ i. omega (arith, c.slice_known-1.given i) in
    let is : c.admit.result ≡ Ok tt = c.in_ok-admit.was in
    take_does l y _ _ _ is c.admit.ensures _ c.find_copy.ensures
    c.in-NotTaken.is _ c.count_taken-n.ensures c.if-n-ge2.false _
    (rw c.as_book_mut-book.ensures.value at c.take_copy.ensures) _ c.seal_index.ensures
