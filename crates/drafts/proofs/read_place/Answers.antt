use mathlib.Core.Path.{◌≡◌}
use native.Mathlib.Omega.{arith}
use Rattle.blocks.specs.Block.{Bytes}
use Rattle.copies.proofs.Ways.{admitting, working, load_long, load_block, load_few}
use Rattle.drafts.proofs.CopyReads.{refused_read, absent_read, reads_past, reads_place}
use Rattle.std.specs.Prelude.{Ok, Err}
use Rattle.refusal.proofs.Exits.{handed}
use Rattle.std.proofs.Common.{rules}
use Rattle.drafts.proofs.read_place.Goals as goal

pub returns-in_err-admit : goal.returns-in_err-admit
unfolding Bytes
returns-in_err-admit c = let l = c.args.book.now in
    let y : Bytes l = λ i. omega (arith, c.shared_slice_known-1.given i) in
    let z : c.admit.result ≡ Err c.in_err-admit.field-0.0 = c.in_err-admit.was in
    rw (handed c.from_residual.result _ c.from_residual.ensures.1) (search (refused_read, y, rules))

pub find_copy-requires : goal.find_copy-requires
find_copy-requires c =
    let is : c.admit.result ≡ Ok tt = c.in_ok-admit.was in
    search (admitting, rules)

pub returns-in_default : goal.returns-in_default
unfolding Bytes
returns-in_default c = let l = c.args.book.now in
    let y : Bytes l = λ i. omega (arith, c.shared_slice_known-1.given i) in
    let is : c.admit.result ≡ Ok tt = c.in_ok-admit.was in
    search (absent_read, y, rules)

pub as_book-requires : goal.as_book-requires
unfolding Bytes
as_book-requires c = let l = c.args.book.now in
    let y : Bytes l = λ i. omega (arith, c.shared_slice_known-1.given i) in
    let is : c.admit.result ≡ Ok tt = c.in_ok-admit.was in
    search (load_long, y, rules)

pub load-h-requires : goal.load-h-requires
unfolding Bytes
load-h-requires c = let l = c.args.book.now in
    let y : Bytes l = λ i. omega (arith, c.shared_slice_known-1.given i) in
    let is : c.admit.result ≡ Ok tt = c.in_ok-admit.was in
    (search (load_block, y, rules), rw c.as_book.ensures (search (load_few, y, rules)))

pub returns-then-h-i : goal.returns-then-h-i
unfolding Bytes
returns-then-h-i c = let l = c.args.book.now in
    let y : Bytes l = λ i. omega (arith, c.shared_slice_known-1.given i) in
    let is : c.admit.result ≡ Ok tt = c.in_ok-admit.was in
    let holds = rw c.as_book.ensures at c.load-h.ensures.is in
    search (reads_past, working, y, holds, rules)

pub returns : goal.returns
unfolding Bytes
returns c = let l = c.args.book.now in
    let y : Bytes l = λ i. omega (arith, c.shared_slice_known-1.given i) in
    let is : c.admit.result ≡ Ok tt = c.in_ok-admit.was in
    let holds = rw c.as_book.ensures at c.load-h.ensures.is in
    search (reads_place, working, y, holds, rules)
