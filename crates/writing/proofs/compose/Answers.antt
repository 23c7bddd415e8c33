use Prim.Native.Nat.{◌+◌}
use native.Mathlib.Omega.{arith}
use Rattle.codes.proofs.Sets.{set_true, ascending_below}
use Rattle.writing.proofs.Sets.{behind_long, behind_at}
use Rattle.writing.proofs.Composing.{begun_start, begun_turn, begun_room, begun_end}
use Rattle.std.proofs.Common.{rules}
use Rattle.writing.proofs.compose.Goals as goal

pub bounds-places-0 : goal.bounds-places-0
bounds-places-0 c = let p = set_true _ c.requires.places_value in
    omega arith

pub slice_bounds-place-items-count : goal.slice_bounds-place-items-count
slice_bounds-place-items-count c = let p = set_true _ c.requires.places_value in
    omega arith

pub slice_bounds-place-items-start : goal.slice_bounds-place-items-start
slice_bounds-place-items-start c = let p = set_true _ c.requires.places_value in
    omega arith

pub loop-place-init : goal.loop-place-init
loop-place-init c = search (begun_start, set_true, rules)

pub turn-s-requires : goal.turn-s-requires
turn-s-requires c = let v = c.loop-place in
    let set = set_true _ c.requires.places_value in
    let h = behind_long c.args.places.now in (
      v.invariant.fine,
      rw (behind_at c.args.places.now v.place-index c.loop-place-test.true) (ascending_below set.up (v.place-index + 1) (omega (arith, c.loop-place-test.true))),
      omega (arith, begun_room _ _ _ set _ _ _ v.invariant c.requires.block_most_in_bounds),
    )

pub loop-place-preserved : goal.loop-place-preserved
loop-place-preserved c = let v = c.loop-place in
    let h = behind_long c.args.places.now in
    begun_turn _ _ _ (set_true _ c.requires.places_value) _ _ _ v.invariant (omega (arith, c.loop-place-test.true)) _ _
    (rw (behind_at c.args.places.now v.place-index c.loop-place-test.true) at c.turn-s.ensures)

pub close-requires : goal.close-requires
close-requires c = let v = c.loop-place in
    (v.invariant.fine, c.requires.stamp_value, begun_room _ _ _ (set_true _ c.requires.places_value) _ _ _ v.invariant c.requires.block_most_in_bounds)

pub returns : goal.returns
returns c = let v = c.loop-place in
    let h = behind_long c.args.places.now in
    begun_end _ _ _ (set_true _ c.requires.places_value) _ _ _ v.invariant _ (omega (arith, c.loop-place-test.false)) c.requires.block_most_in_bounds _ _ c.close.ensures
