use Rattle.std.proofs.Common.{arith, refl}
use Rattle.lines.proofs.Scans.{in_block, in_rest}
use Rattle.lines.proofs.printables.Goals as goal

pub returns-then-k-lt64-clause-is : goal.returns-then-k-lt64-clause-is
returns-then-k-lt64-clause-is c =
    let v = c.loop-block.invariant in
    let b = c.as_chunks.ensures in
    omega (arith, in_block c.args.bytes.now _ _ v.0 v.1 _ refl _ _ b.front b.front_len c.loop-block-test.true)

pub loop-block-preserved : goal.loop-block-preserved
loop-block-preserved c =
    let v = c.loop-block.invariant in
    let b = c.as_chunks.ensures in
    (omega arith, omega (arith, in_block c.args.bytes.now _ _ v.0 v.1 _ refl _ _ b.front b.front_len c.loop-block-test.true))

pub returns-clause-is : goal.returns-clause-is
returns-clause-is c =
    let v = c.loop-block.invariant in
    let b = c.as_chunks.ensures in
    omega (arith, in_rest c.args.bytes.now _ _ v.0 v.1 _ refl _ _ b.back (omega (arith, b.front_len)))
