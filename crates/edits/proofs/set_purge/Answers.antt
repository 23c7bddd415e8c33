use lib.ListN.{length}
use Rattle.blocks.specs.Block.{book_length, Bytes}
use native.Mathlib.Omega.{arith}
use mathlib.Core.Path.{◌≡◌, refl}
use Rattle.copies.proofs.Ways.{admitting, ranging, working, load_long, load_block, load_few}
use Rattle.edits.proofs.Ways.{tested_does, tested_absent, minute_low, purge_none, purge_some}
use Rattle.std.specs.Prelude.{Some, Ok, Err}
use Rattle.refusal.specs.Answer.{refusal_for}
use Rattle.refusal.specs.declared.Reason.TheVariants.{WrongTime}
use Rattle.refusal.proofs.Exits.{handed, Refuses, none_refused}
use Rattle.std.proofs.Common.{rules}
use Rattle.edits.proofs.set_purge.Goals as goal

pub returns-in_err-admit : goal.returns-in_err-admit
unfolding Bytes
returns-in_err-admit c = let l = c.args.book.now in
    let y : Bytes l = λ i. omega (arith, c.slice_known-1.given i) in
    let z : c.admit.result ≡ Err c.in_err-admit.field-0.0 = c.in_err-admit.was in
    rw (handed c.from_residual.result _ c.from_residual.ensures.1) (search (tested_does, y, rules))

pub find_copy-requires : goal.find_copy-requires
find_copy-requires c =
    let is : c.admit.result ≡ Ok tt = c.in_ok-admit.was in
    search (admitting, rules)

pub returns-in_default : goal.returns-in_default
unfolding Bytes
returns-in_default c = let l = c.args.book.now in
    let y : Bytes l = λ i. omega (arith, c.slice_known-1.given i) in
    let is : c.admit.result ≡ Ok tt = c.in_ok-admit.was in
    search (tested_absent, y, rules)

pub as_book-requires : goal.as_book-requires
unfolding Bytes
as_book-requires c = let l = c.args.book.now in
    let y : Bytes l = λ i. omega (arith, c.slice_known-1.given i) in
    let is : c.admit.result ≡ Ok tt = c.in_ok-admit.was in
    search (load_long, y, rules)

pub load-h-requires : goal.load-h-requires
unfolding Bytes
load-h-requires c = let l = c.args.book.now in
    let y : Bytes l = λ i. omega (arith, c.slice_known-1.given i) in
    let is : c.admit.result ≡ Ok tt = c.in_ok-admit.was in
    (search (load_block, y, rules), rw c.as_book.ensures (search (load_few, y, rules)))

pub returns-in_err-minute : goal.returns-in_err-minute
unfolding Bytes
returns-in_err-minute c = let l = c.args.book.now in
    let y : Bytes l = λ i. omega (arith, c.slice_known-1.given i) in
    let is : c.admit.result ≡ Ok tt = c.in_ok-admit.was in
    let w = working l y _ _ _ _ is c.admit.ensures _ c.find_copy.ensures _ c.in-Copy.is in
    let r = ranging l _ _ _ _ is c.admit.ensures in
    let p : Refuses c.purge_of.result (refusal_for WrongTime 0) c.from_residual-in_err-minute.result = search (none_refused, rules) in
    rw p.is (purge_none l _ _ _ w _ c.load-h.ensures.fits (rw c.as_book.ensures at c.load-h.ensures.is) _ _ r c.is_time.ensures _ c.number_at-issue.ensures _ c.purge_of.ensures p.nothing _ refl)

pub number_at-issue-requires : goal.number_at-issue-requires
unfolding Bytes
number_at-issue-requires c = let l = c.args.book.now in
    let y : Bytes l = λ i. omega (arith, c.slice_known-1.given i) in
    let is : c.admit.result ≡ Ok tt = c.in_ok-admit.was in
    let w = working l y _ _ _ _ is c.admit.ensures _ c.find_copy.ensures _ c.in-Copy.is in
    let h : length l ≡ book_length = w.long in omega arith

pub overflow_cast-new : goal.overflow_cast-new
overflow_cast-new c =
    let is : c.admit.result ≡ Ok tt = c.in_ok-admit.was in
    let given : c.purge_of.result ≡ Some c.in_ok-minute.minute = grind arith in
    search (minute_low, rules)

pub store_held-requires : goal.store_held-requires
unfolding Bytes
store_held-requires c = let l = c.args.book.now in
    let y : Bytes l = λ i. omega (arith, c.slice_known-1.given i) in
    let is : c.admit.result ≡ Ok tt = c.in_ok-admit.was in
    let w = working l y _ _ _ _ is c.admit.ensures _ c.find_copy.ensures _ c.in-Copy.is in
    record { book_len = (w.long, w.block); fits = record { long = c.load-h.ensures.fits.long; few = c.load-h.ensures.fits.few } }

pub returns : goal.returns
unfolding Bytes
returns c = let l = c.args.book.now in
    let y : Bytes l = λ i. omega (arith, c.slice_known-1.given i) in
    let is : c.admit.result ≡ Ok tt = c.in_ok-admit.was in
    let given : c.purge_of.result ≡ Some c.in_ok-minute.minute = grind arith in
    let w = working l y _ _ _ _ is c.admit.ensures _ c.find_copy.ensures _ c.in-Copy.is in
    let r = ranging l _ _ _ _ is c.admit.ensures in
    purge_some l _ _ _ w _ c.load-h.ensures.fits (rw c.as_book.ensures at c.load-h.ensures.is) _ _ r c.is_time.ensures _ c.number_at-issue.ensures _ c.purge_of.ensures _ given _ refl _ c.store_held.ensures
