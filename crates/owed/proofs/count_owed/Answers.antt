use Rattle.std.proofs.Common.{rules}
use Rattle.owed.specs.Parts.{is_owed}
use Rattle.owed.proofs.Front.{IsPartitionedBy-ranks, PartSays-Front, laws_from_says}
use Rattle.owed.proofs.count_owed.Goals as goal
use Rattle.std.proofs.lemmas.List.Sorted.{IsPartitionPoint-from_clause}

pub returns : goal.returns
returns c =
    let os = c.args.owed.now in
    let by = c.args.by.now in
    let point = IsPartitionPoint-from_clause (is_owed os) by c.partition_point.result c.partition_point.ensures.partitioned (IsPartitionedBy-ranks os by c.requires) (λ a r f' k. search rules) in
    let says = PartSays-Front os by c.requires c.partition_point.result c.partition_point.ensures.bound point in
    record { within = c.partition_point.ensures.bound; says = says; keeps = laws_from_says os by _ says }
