use Rattle.codes.proofs.Forms.{prefix_room, behind_prefix, meets_full, meets_short, any_none, any_numbers}
use Rattle.std.proofs.Common.{rules, ◌≡◌, ◌≤◌, length}
use Rattle.codes.specs.Elements.{short, said}
use Rattle.codes.specs.Cursor.{element_at, covered_at}
use Rattle.codes.proofs.read_any.Goals as goal
use Rattle.codes.proofs.read_any.Goals.{Joined-is_full, then-is_full, else-is_full}

-- what the full and the short form have in common where they meet
meets : (c : Joined-is_full)
    → covered_at c.args.text.now c.args.at (said c.args.last (element_at c.args.text.now c.args.at))
    ≡ covered_at c.args.text.now c.if-is_full.i (short c.if-is_full.under (element_at c.args.text.now c.if-is_full.i))
meets c = elim c.if-is_full.branch [ then-is_full w ↦ search (meets_full, rules) | else-is_full w ↦ search (meets_short, rules) ]

room : (c : Joined-is_full) → c.if-is_full.i ≤ length c.args.text.now
room c = elim c.if-is_full.branch [ then-is_full w ↦ search (behind_prefix, rules) | else-is_full w ↦ search rules ]

pub prefix-requires : goal.prefix-requires
prefix-requires c = search (prefix_room, rules)

pub returns-in_err-p : goal.returns-in_err-p
returns-in_err-p c =
    let m = meets (goal.at.returns-in_err-p c).Joined-is_full in
    let gone = c.in_err-p.was in
    search (any_none, rules)

pub numbers-requires : goal.numbers-requires
numbers-requires c = room (goal.at.numbers-requires c).Joined-is_full

pub returns : goal.returns
returns c =
    let m = meets (goal.at.returns c).Joined-is_full in
    let under = c.in_ok-p.was in
    search (any_numbers, rules)
