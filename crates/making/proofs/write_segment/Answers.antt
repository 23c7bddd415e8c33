use Rattle.making.proofs.Writing.{write_low, write_far, write_block, write_few, write_one}
use Rattle.blocks.specs.Block.{Bytes}
use Rattle.std.proofs.Common.{rules}
use Rattle.making.proofs.write_segment.Goals as goal

pub returns-then-s-lt1 : goal.returns-then-s-lt1
returns-then-s-lt1 c = search (write_low, rules)

pub returns-then-n-s : goal.returns-then-n-s
returns-then-n-s c = search (write_far, rules)

pub load-held-requires : goal.load-held-requires
load-held-requires c = (search (write_block, rules), search (write_few, rules))

pub returns : goal.returns
unfolding Bytes
returns c = let y : Bytes c.args.book.now = c.fits-book in
    search (write_one, y, rules)
