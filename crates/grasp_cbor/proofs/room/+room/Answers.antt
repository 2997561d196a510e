use Rattle.std.proofs.Common.{◌<◌, length, arith}
use Rattle.grasp_cbor.specs.DataItem.{data_items, data_pairs}
use Rattle.grasp_cbor.specs.Shortest.{shortest_items, shortest_pairs}
use Rattle.grasp_cbor.specs.Item.{data_item_of, pair_of, items_of, pairs_of}
use Rattle.grasp_cbor.proofs.Places.{items_depth_got, pairs_depth_got, turn_got}
use Rattle.grasp_cbor.proofs.Lengths.{items_length, pairs_length, items_at_least, pairs_at_least, if_none}
use Rattle.grasp_cbor.proofs.room.+room.Goals as goal

pub room_after_pairs-room_after-requires : goal.room_after_pairs-room_after-requires
room_after_pairs-room_after-requires t c =
    let got = turn_got pair_of c.slice-key-items.result.now (pairs_of c.args.pairs.now) c.loop-key.key-index c.loop-key-item.result c.slice-key-items.ensures c.loop-key-test.true c.loop-key-item.is in
    let below = pairs_depth_got (pairs_of c.args.pairs.now) c.loop-key.key-index (data_item_of c.loop-key-item.result.0, data_item_of c.loop-key-item.result.1) got in
    omega arith

pub room_after_pairs-room_after-requires-in-loop-key : goal.room_after_pairs-room_after-requires-in-loop-key
room_after_pairs-room_after-requires-in-loop-key t c =
    let got = turn_got pair_of c.slice-key-items.result.now (pairs_of c.args.pairs.now) c.loop-key.key-index c.loop-key-item.result c.slice-key-items.ensures c.loop-key-test.true c.loop-key-item.is in
    let below = pairs_depth_got (pairs_of c.args.pairs.now) c.loop-key.key-index (data_item_of c.loop-key-item.result.0, data_item_of c.loop-key-item.result.1) got in
    omega arith

pub room_after_items-returns-in_err-left-clause-none : goal.room_after_items-returns-in_err-left-clause-none
room_after_items-returns-in_err-left-clause-none t c =
    let got = turn_got data_item_of c.slice-item-items.result.now (items_of c.args.items.now) c.loop-item.item-index c.item-item.result c.slice-item-items.ensures c.loop-item-test.true c.item-item.is in
    let all = items_at_least (items_of c.args.items.now) c.loop-item.item-index (data_item_of c.item-item.result) got in
    let more : c.args.room < length (shortest_items (data_items (items_of c.args.items.now))) = omega (arith, all, c.in_err-left.ensures.none, c.loop-item.invariant) in
    if_none _ _ more

pub room_after_items-loop-item-preserved : goal.room_after_items-loop-item-preserved
room_after_items-loop-item-preserved t c =
    let got = turn_got data_item_of c.slice-item-items.result.now (items_of c.args.items.now) c.loop-item.item-index c.item-item.result c.slice-item-items.ensures c.loop-item-test.true c.item-item.is in
    omega (arith, items_length (items_of c.args.items.now) c.loop-item.item-index (data_item_of c.item-item.result) got, c.in_ok-left.ensures.some, c.loop-item.invariant)

pub room_after_pairs-returns-in_err-middle-clause-none : goal.room_after_pairs-returns-in_err-middle-clause-none
room_after_pairs-returns-in_err-middle-clause-none t c =
    let got = turn_got pair_of c.slice-key-items.result.now (pairs_of c.args.pairs.now) c.loop-key.key-index c.loop-key-item.result c.slice-key-items.ensures c.loop-key-test.true c.loop-key-item.is in
    let all = pairs_at_least (pairs_of c.args.pairs.now) c.loop-key.key-index (data_item_of c.loop-key-item.result.0, data_item_of c.loop-key-item.result.1) got in
    let more : c.args.room < length (shortest_pairs (data_pairs (pairs_of c.args.pairs.now))) = omega (arith, all, c.in_err-middle.ensures.none, c.loop-key.invariant) in
    if_none _ _ more

pub room_after_pairs-returns-in_err-left-clause-none : goal.room_after_pairs-returns-in_err-left-clause-none
room_after_pairs-returns-in_err-left-clause-none t c =
    let got = turn_got pair_of c.slice-key-items.result.now (pairs_of c.args.pairs.now) c.loop-key.key-index c.loop-key-item.result c.slice-key-items.ensures c.loop-key-test.true c.loop-key-item.is in
    let all = pairs_at_least (pairs_of c.args.pairs.now) c.loop-key.key-index (data_item_of c.loop-key-item.result.0, data_item_of c.loop-key-item.result.1) got in
    let more : c.args.room < length (shortest_pairs (data_pairs (pairs_of c.args.pairs.now))) = omega (arith, all, c.in_ok-middle.ensures.some, c.in_err-left.ensures.none, c.loop-key.invariant) in
    if_none _ _ more

pub room_after_pairs-loop-key-preserved : goal.room_after_pairs-loop-key-preserved
room_after_pairs-loop-key-preserved t c =
    let got = turn_got pair_of c.slice-key-items.result.now (pairs_of c.args.pairs.now) c.loop-key.key-index c.loop-key-item.result c.slice-key-items.ensures c.loop-key-test.true c.loop-key-item.is in
    let more = pairs_length (pairs_of c.args.pairs.now) c.loop-key.key-index (data_item_of c.loop-key-item.result.0, data_item_of c.loop-key-item.result.1) got in
    omega (arith, more, c.in_ok-middle.ensures.some, c.in_ok-left.ensures.some, c.loop-key.invariant)

pub room_after_items-room_after-requires : goal.room_after_items-room_after-requires
room_after_items-room_after-requires t c =
    let got = turn_got data_item_of c.slice-item-items.result.now (items_of c.args.items.now) c.loop-item.item-index c.item-item.result c.slice-item-items.ensures c.loop-item-test.true c.item-item.is in
    omega (arith, items_depth_got (items_of c.args.items.now) c.loop-item.item-index (data_item_of c.item-item.result) got)
