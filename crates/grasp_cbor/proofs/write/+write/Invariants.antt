use Rattle.std.proofs.Common.{◌+◌, ◌*◌}
use Rattle.grasp_cbor.specs.DataItem.{data_items, data_pairs, depth_of, items_depth, pairs_depth}
use Rattle.grasp_cbor.specs.Item.{data_item_of, items_of, pairs_of}
use Rattle.grasp_cbor.proofs.Written.{IsListStep, IsMapStep}
use Rattle.grasp_cbor.proofs.write.+write.Given as goal

abbrev pub decreases-write_parts : goal.decreases-write_parts
decreases-write_parts l = 2 * depth_of (data_item_of l.item.now)

abbrev pub decreases-write_list : goal.decreases-write_list
decreases-write_list l = 2 * items_depth (data_items (items_of l.items.now)) + 1

abbrev pub decreases-write_map : goal.decreases-write_map
decreases-write_map l = 2 * pairs_depth (data_pairs (pairs_of l.pairs.now)) + 1

abbrev pub invariant-write_list-loop-item : goal.invariant-write_list-loop-item
invariant-write_list-loop-item l = IsListStep (items_of l.items) l.item-index l.fn.out.items l.out.items

abbrev pub invariant-write_map-loop-key : goal.invariant-write_map-loop-key
invariant-write_map-loop-key l = IsMapStep (pairs_of l.pairs) l.key-index l.fn.out.items l.out.items
