use Rattle.std.proofs.Common.{◌≡◌, ◌+◌, ◌*◌, length, take}
use Rattle.grasp_cbor.specs.DataItem.{data_items, data_pairs, depth_of, items_depth, pairs_depth}
use Rattle.grasp_cbor.specs.Item.{data_item_of, items_of, pairs_of}
use Rattle.grasp_cbor.specs.Shortest.{shortest_items, shortest_pairs}
use Rattle.grasp_cbor.proofs.room.+room.Given as goal

abbrev pub decreases-room_after : goal.decreases-room_after
decreases-room_after l = 2 * depth_of (data_item_of l.item.now)

abbrev pub decreases-room_after_items : goal.decreases-room_after_items
decreases-room_after_items l = 2 * items_depth (data_items (items_of l.items.now)) + 1

abbrev pub decreases-room_after_pairs : goal.decreases-room_after_pairs
decreases-room_after_pairs l = 2 * pairs_depth (data_pairs (pairs_of l.pairs.now)) + 1

abbrev pub invariant-room_after_items-loop-item : goal.invariant-room_after_items-loop-item
invariant-room_after_items-loop-item l = l.left + length (shortest_items (data_items (take l.item-index (items_of l.items)))) ≡ l.fn.room

abbrev pub invariant-room_after_pairs-loop-key : goal.invariant-room_after_pairs-loop-key
invariant-room_after_pairs-loop-key l = l.left + length (shortest_pairs (data_pairs (take l.key-index (pairs_of l.pairs)))) ≡ l.fn.room
