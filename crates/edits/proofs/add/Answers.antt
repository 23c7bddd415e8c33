use native.Mathlib.Omega.{arith}
use mathlib.Core.Path.{◌≡◌, sym, ◌∙◌, refl}
use Rattle.blocks.specs.Block.{Bytes}
use Rattle.copies.proofs.Ways.{refused_does, admitting, ranging, working, load_long, load_block, load_few, absent_does}
use Rattle.edits.proofs.Ways.{place_low, held_up, add_old, add_full, add_new}
use Rattle.std.specs.Prelude.{Ok, Err}
use Rattle.refusal.proofs.Exits.{handed}
use Rattle.std.proofs.Common.{rules}
use Rattle.edits.proofs.add.Goals as goal

pub returns-in_err-admit : goal.returns-in_err-admit
unfolding Bytes
returns-in_err-admit c = let l = c.args.book.now in
    let y : Bytes l = λ i. omega (arith, c.slice_known-1.given i) in
    let z : c.admit.result ≡ Err c.in_err-admit.field-0.0 = c.in_err-admit.was in
    rw (handed c.from_residual.result _ c.from_residual.ensures.1) (search (refused_does, y, rules))

pub find_copy-requires : goal.find_copy-requires
find_copy-requires c =
    let is : c.admit.result ≡ Ok tt = c.in_ok-admit.was in
    search (admitting, rules)

pub returns-in_default : goal.returns-in_default
unfolding Bytes
returns-in_default c = let l = c.args.book.now in
    let y : Bytes l = λ i. omega (arith, c.slice_known-1.given i) in
    let is : c.admit.result ≡ Ok tt = c.in_ok-admit.was in
    search (absent_does, ranging, y, rules)

pub as_book-requires : goal.as_book-requires
unfolding Bytes
as_book-requires c = let l = c.args.book.now in
    let y : Bytes l = λ i. omega (arith, c.slice_known-1.given i) in
    let is : c.admit.result ≡ Ok tt = c.in_ok-admit.was in
    search (load_long, y, rules)

pub load-h-requires : goal.load-h-requires
unfolding Bytes
load-h-requires c = let l = c.args.book.now in
    let y : Bytes l = λ i. omega (arith, c.slice_known-1.given i) in
    let is : c.admit.result ≡ Ok tt = c.in_ok-admit.was in
    (search (load_block, y, rules), rw c.as_book.ensures (search (load_few, y, rules)))

pub overflow_cast-place : goal.overflow_cast-place
overflow_cast-place c =
    let is : c.admit.result ≡ Ok tt = c.in_ok-admit.was in
    search (place_low, rules)

pub returns-then-has_place : goal.returns-then-has_place
unfolding Bytes
returns-then-has_place c = let l = c.args.book.now in
    let y : Bytes l = λ i. omega (arith, c.slice_known-1.given i) in
    let is : c.admit.result ≡ Ok tt = c.in_ok-admit.was in
    let w = working l y _ _ _ _ is c.admit.ensures _ c.find_copy.ensures _ c.in-Copy.is in
    let r = ranging l _ _ _ _ is c.admit.ensures in
    add_old l _ _ _ w _ c.load-h.ensures.fits (rw c.as_book.ensures at c.load-h.ensures.is) _ _ refl r _ c.has_place.ensures c.if-has_place.true

pub returns-then-h-ge120 : goal.returns-then-h-ge120
unfolding Bytes
returns-then-h-ge120 c = let l = c.args.book.now in
    let y : Bytes l = λ i. omega (arith, c.slice_known-1.given i) in
    let is : c.admit.result ≡ Ok tt = c.in_ok-admit.was in
    let w = working l y _ _ _ _ is c.admit.ensures _ c.find_copy.ensures _ c.in-Copy.is in
    let r = ranging l _ _ _ _ is c.admit.ensures in
    add_full l _ _ _ w _ c.load-h.ensures.fits (rw c.as_book.ensures at c.load-h.ensures.is) _ _ refl r _ c.has_place.ensures c.if-has_place.false c.if-h-ge120.true _ c.into-then-h-ge120.ensures

pub with_place-new-requires : goal.with_place-new-requires
unfolding Bytes
with_place-new-requires c = let l = c.args.book.now in
    let y : Bytes l = λ i. omega (arith, c.slice_known-1.given i) in
    let is : c.admit.result ≡ Ok tt = c.in_ok-admit.was in
    let w = working l y _ _ _ _ is c.admit.ensures _ c.find_copy.ensures _ c.in-Copy.is in
    record { sound = search rules; room = search rules; ascending = held_up l _ _ _ w _ c.load-h.ensures.fits (rw c.as_book.ensures at c.load-h.ensures.is); absent = sym c.has_place.ensures ∙ c.if-has_place.false }

pub store_held-requires : goal.store_held-requires
unfolding Bytes
store_held-requires c = let l = c.args.book.now in
    let y : Bytes l = λ i. omega (arith, c.slice_known-1.given i) in
    let is : c.admit.result ≡ Ok tt = c.in_ok-admit.was in
    let w = working l y _ _ _ _ is c.admit.ensures _ c.find_copy.ensures _ c.in-Copy.is in
    record { book_len = (w.long, w.block); fits = search rules }

pub returns : goal.returns
unfolding Bytes
returns c = let l = c.args.book.now in
    let y : Bytes l = λ i. omega (arith, c.slice_known-1.given i) in
    let is : c.admit.result ≡ Ok tt = c.in_ok-admit.was in
    let w = working l y _ _ _ _ is c.admit.ensures _ c.find_copy.ensures _ c.in-Copy.is in
    let r = ranging l _ _ _ _ is c.admit.ensures in
    add_new l _ _ _ w _ c.load-h.ensures.fits (rw c.as_book.ensures at c.load-h.ensures.is) _ _ refl r _ c.has_place.ensures c.if-has_place.false c.if-h-ge120.false _ c.with_place-new.ensures.is c.with_place-new.ensures.fits _ c.store_held.ensures
