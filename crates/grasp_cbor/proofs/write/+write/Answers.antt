use Rattle.std.proofs.Common.{sym, arith}
use Rattle.grasp_cbor.specs.Item.{data_item_of, pair_of, items_of, pairs_of}
use Rattle.grasp_cbor.proofs.Places.{items_depth_got, pairs_depth_got, turn_got}
use Rattle.grasp_cbor.proofs.Written.{list_step, map_step}
use Rattle.grasp_cbor.proofs.write.+write.Goals as goal

pub write_list-write_parts-requires : goal.write_list-write_parts-requires
write_list-write_parts-requires t c =
    let got = turn_got data_item_of c.slice-item-items.result.now (items_of c.args.items.now) c.loop-item.item-index c.item-item.result c.slice-item-items.ensures c.loop-item-test.true c.item-item.is in
    (omega (arith, items_depth_got (items_of c.args.items.now) c.loop-item.item-index (data_item_of c.item-item.result) got), tt)

pub write_list-loop-item-preserved : goal.write_list-loop-item-preserved
write_list-loop-item-preserved t c =
    let got = turn_got data_item_of c.slice-item-items.result.now (items_of c.args.items.now) c.loop-item.item-index c.item-item.result c.slice-item-items.ensures c.loop-item-test.true c.item-item.is in
    list_step (items_of c.args.items.now) c.loop-item.item-index (data_item_of c.item-item.result) c.args.out.now.items c.loop-item.out.items _ (sym got) c.loop-item.invariant c.in_ok-write_parts.ensures.ok c.in_ok-write_parts.ensures.encodable

pub write_map-write_parts-requires : goal.write_map-write_parts-requires
write_map-write_parts-requires t c =
    let got = turn_got pair_of c.slice-key-items.result.now (pairs_of c.args.pairs.now) c.loop-key.key-index c.loop-key-item.result c.slice-key-items.ensures c.loop-key-test.true c.loop-key-item.is in
    let below = pairs_depth_got (pairs_of c.args.pairs.now) c.loop-key.key-index (pair_of c.loop-key-item.result) got in
    (omega arith, tt)

pub write_map-write_parts-requires-in-loop-key : goal.write_map-write_parts-requires-in-loop-key
write_map-write_parts-requires-in-loop-key t c =
    let got = turn_got pair_of c.slice-key-items.result.now (pairs_of c.args.pairs.now) c.loop-key.key-index c.loop-key-item.result c.slice-key-items.ensures c.loop-key-test.true c.loop-key-item.is in
    let below = pairs_depth_got (pairs_of c.args.pairs.now) c.loop-key.key-index (pair_of c.loop-key-item.result) got in
    (omega arith, tt)

pub write_map-loop-key-preserved : goal.write_map-loop-key-preserved
write_map-loop-key-preserved t c =
    let got = turn_got pair_of c.slice-key-items.result.now (pairs_of c.args.pairs.now) c.loop-key.key-index c.loop-key-item.result c.slice-key-items.ensures c.loop-key-test.true c.loop-key-item.is in
    map_step (pairs_of c.args.pairs.now) c.loop-key.key-index (data_item_of c.loop-key-item.result.0) (data_item_of c.loop-key-item.result.1) c.args.out.now.items c.loop-key.out.items _ _ (sym got) c.loop-key.invariant c.in_ok-write_parts.ensures.ok c.in_ok-write_parts-2.ensures.ok c.in_ok-write_parts.ensures.encodable c.in_ok-write_parts-2.ensures.encodable
