use Rattle.lines.proofs.Scans.{min_is, looked_start, looked_yes, looked_no, looked_done}
use Rattle.std.proofs.Common.{rules}
use Rattle.lines.proofs.printables_in_block.Goals as goal
use Rattle.lines.proofs.printables_in_block.Goals.{then-printable, else-printable}

pub loop-k-init : goal.loop-k-init
loop-k-init c = search (looked_start, rules)

pub loop-k-preserved : goal.loop-k-preserved
loop-k-preserved c =
    let e = min_is c.loop-k.first c.if-printable.end in
    elim c.if-printable.branch [
      | then-printable w ↦ rw (c.min-first.ensures, e, w.end-is) (search (looked_yes, rules))
      | else-printable w ↦ rw (c.min-first.ensures, e, w.end-is) (search (looked_no, rules))
    ]

pub returns : goal.returns
returns c = search (looked_done, rules)
