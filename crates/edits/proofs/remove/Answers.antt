use mathlib.Core.Path.{◌≡◌, ap, refl}
use mathlib.Core.Bool.{not}
use native.Mathlib.Omega.{arith}
use Rattle.blocks.specs.Block.{Bytes}
use Rattle.copies.proofs.Ways.{refused_does, admitting, ranging, working, load_long, load_block, load_few, absent_does}
use Rattle.edits.proofs.Ways.{place_low, remove_none, remove_only, remove_old}
use Rattle.std.specs.Prelude.{Ok, Err}
use Rattle.refusal.proofs.Exits.{handed}
use Rattle.std.proofs.Common.{rules}
use Rattle.edits.proofs.remove.Goals as goal

pub returns-in_err-admit : goal.returns-in_err-admit
unfolding Bytes
returns-in_err-admit c = let l = c.args.book.now in
    let y : Bytes l = λ i. omega (arith, c.slice_known-1.given i) in
    let z : c.admit.result ≡ Err c.in_err-admit.field-0.0 = c.in_err-admit.was in
    rw (handed c.from_residual.result _ c.from_residual.ensures.1) (search (refused_does, y, rules))

pub find_copy-requires : goal.find_copy-requires
find_copy-requires c =
    let is : c.admit.result ≡ Ok tt = c.in_ok-admit.was in
    search (admitting, rules)

pub returns-in_default : goal.returns-in_default
unfolding Bytes
returns-in_default c = let l = c.args.book.now in
    let y : Bytes l = λ i. omega (arith, c.slice_known-1.given i) in
    let is : c.admit.result ≡ Ok tt = c.in_ok-admit.was in
    search (absent_does, ranging, y, rules)

pub as_book-requires : goal.as_book-requires
unfolding Bytes
as_book-requires c = let l = c.args.book.now in
    let y : Bytes l = λ i. omega (arith, c.slice_known-1.given i) in
    let is : c.admit.result ≡ Ok tt = c.in_ok-admit.was in
    search (load_long, y, rules)

pub load-h-requires : goal.load-h-requires
unfolding Bytes
load-h-requires c = let l = c.args.book.now in
    let y : Bytes l = λ i. omega (arith, c.slice_known-1.given i) in
    let is : c.admit.result ≡ Ok tt = c.in_ok-admit.was in
    (search (load_block, y, rules), rw c.as_book.ensures (search (load_few, y, rules)))

pub overflow_cast-place : goal.overflow_cast-place
overflow_cast-place c =
    let is : c.admit.result ≡ Ok tt = c.in_ok-admit.was in
    search (place_low, rules)

pub returns-then-not-has_place : goal.returns-then-not-has_place
unfolding Bytes
returns-then-not-has_place c = let l = c.args.book.now in
    let y : Bytes l = λ i. omega (arith, c.slice_known-1.given i) in
    let is : c.admit.result ≡ Ok tt = c.in_ok-admit.was in
    let w = working l y _ _ _ _ is c.admit.ensures _ c.find_copy.ensures _ c.in-Copy.is in
    let r = ranging l _ _ _ _ is c.admit.ensures in
    remove_none l _ _ _ w _ c.load-h.ensures.fits (rw c.as_book.ensures at c.load-h.ensures.is) _ _ refl r _ c.has_place.ensures (ap not c.if-not-has_place.true)

pub returns-then-h-eq1 : goal.returns-then-h-eq1
unfolding Bytes
returns-then-h-eq1 c = let l = c.args.book.now in
    let y : Bytes l = λ i. omega (arith, c.slice_known-1.given i) in
    let is : c.admit.result ≡ Ok tt = c.in_ok-admit.was in
    let w = working l y _ _ _ _ is c.admit.ensures _ c.find_copy.ensures _ c.in-Copy.is in
    let r = ranging l _ _ _ _ is c.admit.ensures in
    remove_only l _ _ _ w _ c.load-h.ensures.fits (rw c.as_book.ensures at c.load-h.ensures.is) _ _ refl r _ c.has_place.ensures (ap not c.if-not-has_place.false) c.if-h-eq1.true _ c.into-then-h-eq1.ensures

pub store_held-requires : goal.store_held-requires
unfolding Bytes
store_held-requires c = let l = c.args.book.now in
    let y : Bytes l = λ i. omega (arith, c.slice_known-1.given i) in
    let is : c.admit.result ≡ Ok tt = c.in_ok-admit.was in
    let w = working l y _ _ _ _ is c.admit.ensures _ c.find_copy.ensures _ c.in-Copy.is in
    record { book_len = (w.long, w.block); fits = search rules }

pub returns : goal.returns
unfolding Bytes
returns c = let l = c.args.book.now in
    let y : Bytes l = λ i. omega (arith, c.slice_known-1.given i) in
    let is : c.admit.result ≡ Ok tt = c.in_ok-admit.was in
    let w = working l y _ _ _ _ is c.admit.ensures _ c.find_copy.ensures _ c.in-Copy.is in
    let r = ranging l _ _ _ _ is c.admit.ensures in
    remove_old l _ _ _ w _ c.load-h.ensures.fits (rw c.as_book.ensures at c.load-h.ensures.is) _ _ refl r _ c.has_place.ensures (ap not c.if-not-has_place.false) c.if-h-eq1.false _ c.without_place-new.ensures.is c.without_place-new.ensures.fits _ c.store_held.ensures
