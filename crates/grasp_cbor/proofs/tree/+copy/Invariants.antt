use Rattle.std.proofs.Common.{◌≡◌, take, map}
use Rattle.grasp_cbor.specs.Item.{data_item_of, pair_of}
use Rattle.grasp_cbor.proofs.tree.+copy.Given as goal

abbrev pub invariant-Items::copy-loop-item : goal.invariant-Items::copy-loop-item
invariant-Items::copy-loop-item l = map data_item_of l.held.items ≡ map data_item_of (take l.item-index l.item-items)

abbrev pub invariant-Pairs::copy-loop-key : goal.invariant-Pairs::copy-loop-key
invariant-Pairs::copy-loop-key l = map pair_of l.held.items ≡ map pair_of (take l.key-index l.key-items)
