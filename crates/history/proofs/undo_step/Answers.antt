use native.Mathlib.Omega.{arith}
use mathlib.Core.Path.{sym, subst}
use Rattle.blocks.specs.Block.{block_count, Bytes}
use Rattle.history.specs.Changing.{AllPlaced}
use Rattle.history.proofs.UndoSteps.{step_placed}
use Rattle.history.proofs.UndoBooks.{back_count, step_gone}
use Rattle.history.proofs.undo_step.Goals as goal

pub replace-requires : goal.replace-requires
replace-requires c = subst (AllPlaced block_count) (sym c.step_at-found.ensures) (step_placed c.args.book.now c.args.r c.requires)

pub pop_step-requires : goal.pop_step-requires
unfolding Bytes
pop_step-requires c = let l = c.args.book.now in
    let y : Bytes l = c.fits-book in
    let e = back_count l c.args.r y c.requires _ c.step_at-found.ensures _ c.replace.ensures in
    (omega (arith, e), omega (arith, e, c.requires.sixteen))

pub returns : goal.returns
unfolding Bytes
returns c = let l = c.args.book.now in
    let y : Bytes l = c.fits-book in
    step_gone l c.args.r y c.requires _ c.step_at-found.ensures _ _ _ _ c.replace.ensures c.pop_step.ensures
    c.seal_index.ensures
    c.segments.ensures
