use Rattle.std.proofs.Common.{◌≡◌, ◌+◌, ◌*◌}
use Rattle.grasp_cbor.specs.Behind.{behind}
use Rattle.grasp_cbor.specs.DataItem.{data_items, data_pairs, depth_of, items_depth, pairs_depth}
use Rattle.grasp_cbor.specs.Item.{data_item_of, items_of, pairs_of}
use Rattle.grasp_cbor.specs.Shortest.{shortest_items, shortest_pairs}
use Rattle.grasp_cbor.proofs.Behind.{items_from, pairs_from}
use Rattle.grasp_cbor.proofs.compare.+compare.Given as goal

abbrev pub decreases-behind_item : goal.decreases-behind_item
decreases-behind_item l = 2 * depth_of (data_item_of l.item.now)

abbrev pub decreases-behind_items : goal.decreases-behind_items
decreases-behind_items l = 2 * items_depth (data_items (items_of l.items.now)) + 1

abbrev pub decreases-behind_pairs : goal.decreases-behind_pairs
decreases-behind_pairs l = 2 * pairs_depth (data_pairs (pairs_of l.pairs.now)) + 1

abbrev pub invariant-behind_items-loop-item : goal.invariant-behind_items-loop-item
invariant-behind_items-loop-item l = behind (shortest_items (data_items (items_of l.items))) l.fn.bytes ≡ behind (items_from l.item-index (items_of l.items)) l.rest

abbrev pub invariant-behind_pairs-loop-key : goal.invariant-behind_pairs-loop-key
invariant-behind_pairs-loop-key l = behind (shortest_pairs (data_pairs (pairs_of l.pairs))) l.fn.bytes ≡ behind (pairs_from l.key-index (pairs_of l.pairs)) l.rest
