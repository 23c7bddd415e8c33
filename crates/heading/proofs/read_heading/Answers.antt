use Rattle.std.proofs.Common.{rules}
use Rattle.heading.proofs.Forms.{heading_bare, heading_untimed, heading_plain, heading_wrong, heading_amended}
use Rattle.heading.proofs.read_heading.Goals as goal
use Rattle.heading.proofs.read_heading.Goals.{then-not-is_headed-via-then-not-is_headed, then-not-is_headed-via-else-not-is_headed+then-not-is_time}

pub returns-then-not-is_headed : goal.returns-then-not-is_headed
returns-then-not-is_headed c =
    elim c.then-not-is_headed.branch [ then-not-is_headed-via-then-not-is_headed w ↦ search (heading_bare, rules) | then-not-is_headed-via-else-not-is_headed+then-not-is_time w ↦ search (heading_untimed, rules) ]

pub returns-in_err-amendment-in_default : goal.returns-in_err-amendment-in_default
returns-in_err-amendment-in_default c = search (heading_wrong, rules)

pub returns-in-empty : goal.returns-in-empty
returns-in-empty c = search (heading_plain, rules)

pub returns-in_ok-amendment-in_default : goal.returns-in_ok-amendment-in_default
returns-in_ok-amendment-in_default c = search (heading_amended, rules)
