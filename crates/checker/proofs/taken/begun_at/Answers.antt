use Rattle.std.proofs.Common.{rules}
use Rattle.std.specs.Prelude.{nat_le}
use Rattle.std.proofs.lemmas.List.Sorted.{IsPartitionPoint-from_clause}
use Rattle.checker.proofs.taken.begun_at.Goals as goal

pub returns-clause-begun : goal.returns-clause-begun
returns-clause-begun c = λ parted.
    IsPartitionPoint-from_clause (λ e. nat_le e.0 c.args.page) _ _ c.partition_point.ensures.partitioned parted (λ a r q k. search rules)
