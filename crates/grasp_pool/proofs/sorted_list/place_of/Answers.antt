use Rattle.std.proofs.Common.{rules, of_calls, nat_lt, ◌≡◌, true, false, slice_index_or, ltb-true}
use Rattle.std.proofs.lemmas.Bool.{ltb-false}
use Rattle.std.proofs.lemmas.Fn.{always_returns_same}
use Rattle.std.specs.List.Sorted.{IsPartitionPoint}
use Rattle.grasp_types.specs.Prefix.{AddressBlock as Prefix}
use Rattle.grasp_pool.proofs.Lists.{rising_parted}
use Rattle.grasp_pool.proofs.sorted_list.place_of.Goals as goal

point : (c : goal.After-partition_point) → IsPartitionPoint (λ (q : Prefix). nat_lt q.address c.args.address ≡ true) (λ (q : Prefix). nat_lt q.address c.args.address ≡ false) c.args.list.now c.partition_point.result
point c = c.partition_point.ensures.partitioned (λ q. nat_lt q.address c.args.address) (always_returns_same _ _ _ (λ a r f k. search (rules, of_calls)))
    (rising_parted c.args.list.now c.args.address c.requires)

pub returns-clause-below : goal.returns-clause-below
returns-clause-below c k d lt = ltb-true (slice_index_or c.args.list.now k d).address c.args.address ((point c).0 k d (search rules) lt)

pub returns-clause-above : goal.returns-clause-above
returns-clause-above c k d le within = ltb-false (slice_index_or c.args.list.now k d).address c.args.address ((point c).1 k d le within)
