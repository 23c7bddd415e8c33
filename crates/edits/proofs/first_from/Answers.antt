use lib.Dec.{ltb}
use Rattle.std.proofs.lemmas.List.Sorted.{IsPartitionPoint-from_clause}
use Rattle.edits.proofs.Places.{rise_parted, first_is}
use Rattle.std.proofs.Common.{rules}
use Rattle.edits.proofs.first_from.Goals as goal

pub returns : goal.returns
returns c =
    first_is _ _ _ c.partition_point.ensures.bound
    (IsPartitionPoint-from_clause (λ y. ltb y c.args.p) _ _ c.partition_point.ensures.partitioned (rise_parted c.args.p 0 _ c.requires) (λ a r f h. search rules))
