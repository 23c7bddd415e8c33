use native.Mathlib.Omega.{arith}
use Rattle.blocks.specs.Block.{Bytes}
use Rattle.history.proofs.CommitRule.{first_low, second_low, steps_low, found_placed, commit_low, commit_high, commit_shut, commit_stale, commit_done}
use Rattle.history.proofs.commit_sound.Goals as goal

pub returns-then-d-lt1 : goal.returns-then-d-lt1
unfolding Bytes
returns-then-d-lt1 c = let l = c.args.book.now in
    let y : Bytes l = c.fits-book in
    commit_low l c.args.d c.into.result y c.told-book c.requires (omega arith) c.into.ensures

pub returns-then-d-gt4 : goal.returns-then-d-gt4
unfolding Bytes
returns-then-d-gt4 c = let l = c.args.book.now in
    let y : Bytes l = c.fits-book in
    commit_high l c.args.d c.into-then-d-gt4.result y c.told-book c.requires (omega arith) c.into-then-d-gt4.ensures

pub returns-then-open-eq0 : goal.returns-then-open-eq0
unfolding Bytes
returns-then-open-eq0 c = let l = c.args.book.now in
    let y : Bytes l = c.fits-book in
    commit_shut l c.args.d c.into-then-open-eq0.result y c.told-book c.requires (omega arith) (omega arith)
    c.from-open.result c.from-open.ensures c.if-open-eq0.true c.into-then-open-eq0.ensures

pub returns-then-stale-eq1 : goal.returns-then-stale-eq1
unfolding Bytes
returns-then-stale-eq1 c = let l = c.args.book.now in
    let y : Bytes l = c.fits-book in
    commit_stale l c.args.d c.into-then-stale-eq1.result y c.told-book c.requires (omega arith) (omega arith)
    c.from-open.result c.from-stale.result c.from-open.ensures c.if-open-eq0.false c.from-stale.ensures c.if-stale-eq1.true
    c.into-then-stale-eq1.ensures

pub changes_in-found-requires : goal.changes_in-found-requires
changes_in-found-requires c = let l = c.args.book.now in
    let d = c.args.d in
    let first = first_low l d c.requires (omega arith) (omega arith) in
    let second = second_low l d c.requires (omega arith) (omega arith) in
    (omega arith, omega arith, first, second)

pub commit_found-changed-requires : goal.commit_found-changed-requires
commit_found-changed-requires c = let l = c.args.book.now in
    let placed = found_placed l c.args.d _ c.requires (omega arith) (omega arith) c.changes_in-found.ensures in
    (omega arith, omega arith, steps_low l c.requires, placed)

pub returns : goal.returns
unfolding Bytes
returns c = let l = c.args.book.now in
    let y : Bytes l = c.fits-book in
    commit_done l _ c.args.d c.changes_in-found.result c.commit_found-changed.result y c.told-book c.requires
    (omega arith) (omega arith)
    c.from-open.result c.from-stale.result c.from-open.ensures c.if-open-eq0.false c.from-stale.ensures c.if-stale-eq1.false
    c.changes_in-found.ensures c.commit_found-changed.ensures
