use Prim.Native.Nat.{◌≤◌, ◌<◌}
use lib.ListN.{get_or}
use Rattle.sets.proofs.Sets.{insert_twice, insert_over, insert_total}
use Rattle.std.proofs.Common.{arith, rules}
use Rattle.sets.proofs.Places.insert.Goals as goal
use Rattle.sets.proofs.Places.insert.Goals.{else-i-self-via-then-i-self+else-self-i, else-i-self-via-else-i-self}

pub returns-then-self-i : goal.returns-then-self-i
returns-then-self-i c = search (insert_twice, rules)

pub returns-then-total-gt120 : goal.returns-then-total-gt120
returns-then-total-gt120 c =
    let high : c.first_from-i.result < c.args.self.now.count → c.args.q ≤ get_or c.args.self.now.held c.first_from-i.result 0 =
    elim c.else-i-self.branch [
      | else-i-self-via-then-i-self+else-self-i w ↦ λ h. w.if-self-i.false
      | else-i-self-via-else-i-self w ↦ λ h. omega (arith, w.if-i-self.false)
    ] in
    search (insert_over, rules)

pub returns : goal.returns
returns c =
    let high : c.first_from-i.result < c.args.self.now.count → c.args.q ≤ get_or c.args.self.now.held c.first_from-i.result 0 =
    elim c.else-i-self.branch [
      | else-i-self-via-then-i-self+else-self-i w ↦ λ h. w.if-self-i.false
      | else-i-self-via-else-i-self w ↦ λ h. omega (arith, w.if-i-self.false)
    ] in
    search (insert_total, rules)
