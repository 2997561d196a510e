use Rattle.std.proofs.Common.{◌≡◌, ◌^◌, ◌-◌, min, take, map}
use Rattle.grasp_cbor.specs.DataItem.{items_depth, pairs_depth, data_items, data_pairs}
use Rattle.grasp_cbor.specs.Item.{data_item_of, pair_of}
use Rattle.grasp_cbor.proofs.tree.+depth.Given as goal

abbrev pub invariant-Items::deepest-loop-item : goal.invariant-Items::deepest-loop-item
invariant-Items::deepest-loop-item l = l.most ≡ min (items_depth (data_items (map data_item_of (take l.item-index l.item-items)))) (2 ^ 64 - 1)

abbrev pub invariant-Pairs::deepest-loop-key : goal.invariant-Pairs::deepest-loop-key
invariant-Pairs::deepest-loop-key l = l.most ≡ min (pairs_depth (data_pairs (map pair_of (take l.key-index l.key-items)))) (2 ^ 64 - 1)
