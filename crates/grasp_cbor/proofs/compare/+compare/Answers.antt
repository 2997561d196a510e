use Rattle.std.proofs.Common.{sym, arith}
use Rattle.grasp_cbor.specs.Item.{data_item_of, pair_of, items_of, pairs_of}
use Rattle.grasp_cbor.proofs.Behind.{none_is, items_step, items_stop, pairs_step, pairs_stop_key, pairs_stop_value}
use Rattle.grasp_cbor.proofs.Places.{items_depth_got, pairs_depth_got, turn_got}
use Rattle.grasp_cbor.proofs.compare.+compare.Goals as goal

pub behind_pairs-behind_item-requires : goal.behind_pairs-behind_item-requires
behind_pairs-behind_item-requires t c =
    let got = turn_got pair_of c.slice-key-items.result.now (pairs_of c.args.pairs.now) c.loop-key.key-index c.loop-key-item.result c.slice-key-items.ensures c.loop-key-test.true c.loop-key-item.is in
    let below = pairs_depth_got (pairs_of c.args.pairs.now) c.loop-key.key-index (data_item_of c.loop-key-item.result.0, data_item_of c.loop-key-item.result.1) got in
    omega arith

pub behind_pairs-behind_item-requires-in-loop-key : goal.behind_pairs-behind_item-requires-in-loop-key
behind_pairs-behind_item-requires-in-loop-key t c =
    let got = turn_got pair_of c.slice-key-items.result.now (pairs_of c.args.pairs.now) c.loop-key.key-index c.loop-key-item.result c.slice-key-items.ensures c.loop-key-test.true c.loop-key-item.is in
    let below = pairs_depth_got (pairs_of c.args.pairs.now) c.loop-key.key-index (data_item_of c.loop-key-item.result.0, data_item_of c.loop-key-item.result.1) got in
    omega arith

pub behind_items-returns-in_err-rest : goal.behind_items-returns-in_err-rest
behind_items-returns-in_err-rest t c =
    let got = turn_got data_item_of c.slice-item-items.result.now (items_of c.args.items.now) c.loop-item.item-index c.item-item.result c.slice-item-items.ensures c.loop-item-test.true c.item-item.is in
    let stop = items_stop (items_of c.args.items.now) c.loop-item.item-index (data_item_of c.item-item.result) _ c.loop-item.rest.now got c.loop-item.invariant (sym c.in_err-rest.ensures) in
    none_is c.from_residual.result _ c.from_residual.ensures stop

pub behind_items-loop-item-preserved : goal.behind_items-loop-item-preserved
behind_items-loop-item-preserved t c =
    let got = turn_got data_item_of c.slice-item-items.result.now (items_of c.args.items.now) c.loop-item.item-index c.item-item.result c.slice-item-items.ensures c.loop-item-test.true c.item-item.is in
    items_step (items_of c.args.items.now) c.loop-item.item-index (data_item_of c.item-item.result) _ c.loop-item.rest.now c.in_ok-rest.rest.now got c.loop-item.invariant (sym c.in_ok-rest.ensures)

pub behind_pairs-returns-in_err-middle : goal.behind_pairs-returns-in_err-middle
behind_pairs-returns-in_err-middle t c =
    let got = turn_got pair_of c.slice-key-items.result.now (pairs_of c.args.pairs.now) c.loop-key.key-index c.loop-key-item.result c.slice-key-items.ensures c.loop-key-test.true c.loop-key-item.is in
    let stop = pairs_stop_key (pairs_of c.args.pairs.now) c.loop-key.key-index (data_item_of c.loop-key-item.result.0) (data_item_of c.loop-key-item.result.1) _ c.loop-key.rest.now got c.loop-key.invariant (sym c.in_err-middle.ensures) in
    none_is c.from_residual.result _ c.from_residual.ensures stop

pub behind_pairs-returns-in_err-rest : goal.behind_pairs-returns-in_err-rest
behind_pairs-returns-in_err-rest t c =
    let got = turn_got pair_of c.slice-key-items.result.now (pairs_of c.args.pairs.now) c.loop-key.key-index c.loop-key-item.result c.slice-key-items.ensures c.loop-key-test.true c.loop-key-item.is in
    let stop = pairs_stop_value (pairs_of c.args.pairs.now) c.loop-key.key-index (data_item_of c.loop-key-item.result.0) (data_item_of c.loop-key-item.result.1) _ c.loop-key.rest.now c.in_ok-middle.middle.now got c.loop-key.invariant (sym c.in_ok-middle.ensures) (sym c.in_err-rest.ensures) in
    none_is c.from_residual-in_err-rest.result _ c.from_residual-in_err-rest.ensures stop

pub behind_pairs-loop-key-preserved : goal.behind_pairs-loop-key-preserved
behind_pairs-loop-key-preserved t c =
    let got = turn_got pair_of c.slice-key-items.result.now (pairs_of c.args.pairs.now) c.loop-key.key-index c.loop-key-item.result c.slice-key-items.ensures c.loop-key-test.true c.loop-key-item.is in
    pairs_step (pairs_of c.args.pairs.now) c.loop-key.key-index (data_item_of c.loop-key-item.result.0) (data_item_of c.loop-key-item.result.1) _ c.loop-key.rest.now c.in_ok-middle.middle.now c.in_ok-rest.rest.now got c.loop-key.invariant (sym c.in_ok-middle.ensures) (sym c.in_ok-rest.ensures)

pub behind_items-behind_item-requires : goal.behind_items-behind_item-requires
behind_items-behind_item-requires t c =
    let got = turn_got data_item_of c.slice-item-items.result.now (items_of c.args.items.now) c.loop-item.item-index c.item-item.result c.slice-item-items.ensures c.loop-item-test.true c.item-item.is in
    omega (arith, items_depth_got (items_of c.args.items.now) c.loop-item.item-index (data_item_of c.item-item.result) got)
