use Rattle.std.proofs.Common.{◌≡◌, ◌++◌, ◌∷◌, [], arith}
use Rattle.std.proofs.lemmas.Result.{err_from_is_err_and}
use Rattle.grasp_cbor.specs.DataItem.{DataItem}
use Rattle.grasp_cbor.specs.Item.{data_item_of, items_of, pairs_of}
use Rattle.grasp_cbor.specs.Build.{item_at, pair_with, many_with, open_with, alone}
use Rattle.grasp_cbor.proofs.Loop.{goes_on, ends, is_done, before_all, open_goes_on, open_fails, open_ends, alone_is, alone_fails}
use Rattle.grasp_cbor.proofs.Shrinks.{item_shrinks, pair_shrinks, alone_shrinks}
use Rattle.grasp_cbor.proofs.build.+read.Goals as goal

pub read_items-returns-in_err-item : goal.read_items-returns-in_err-item
read_items-returns-in_err-item t c =
    let p = err_from_is_err_and c.from_residual.result c.from_residual.ensures.1 in
    rw (p.1, p.2) (ends (item_at c.args.depth) c.in_err-item.field-0.0 (items_of c.loop.items) c.args.count c.loop.counter c.loop.rest.now (many_with (item_at c.args.depth) c.args.count c.args.bytes.now) c.loop-test.true c.in_err-item.ensures c.loop.invariant)

pub read_items-returns : goal.read_items-returns
read_items-returns t c = is_done (item_at c.args.depth) (items_of c.loop.items) c.args.count c.loop.counter c.loop.rest.now (many_with (item_at c.args.depth) c.args.count c.args.bytes.now) c.loop-test.false c.loop.invariant

pub read_pairs-returns-in_err-key : goal.read_pairs-returns-in_err-key
read_pairs-returns-in_err-key t c =
    let p = err_from_is_err_and c.from_residual.result c.from_residual.ensures.1 in
    rw (p.1, p.2) (ends (pair_with (item_at c.args.depth)) c.in_err-key.field-0.0 (pairs_of c.loop.pairs) c.args.count c.loop.counter c.loop.rest.now (many_with (pair_with (item_at c.args.depth)) c.args.count c.args.bytes.now) c.loop-test.true c.in_err-key.ensures c.loop.invariant)

pub read_pairs-returns : goal.read_pairs-returns
read_pairs-returns t c = is_done (pair_with (item_at c.args.depth)) (pairs_of c.loop.pairs) c.args.count c.loop.counter c.loop.rest.now (many_with (pair_with (item_at c.args.depth)) c.args.count c.args.bytes.now) c.loop-test.false c.loop.invariant

pub read_items-loop-preserved : goal.read_items-loop-preserved
read_items-loop-preserved t c =
    let x = data_item_of c.in_ok-item.item in
    let e : items_of c.push.new.self ≡ items_of c.loop.items ++ x ∷ [] = c.in_ok-push.ensures.ok in
    rw e (goes_on (item_at c.args.depth) (items_of c.loop.items) c.args.count c.loop.counter c.loop.rest.now x c.in_ok-item.after.now (many_with (item_at c.args.depth) c.args.count c.args.bytes.now) c.loop-test.true c.in_ok-item.ensures c.loop.invariant)

pub read_pairs-loop-preserved : goal.read_pairs-loop-preserved
read_pairs-loop-preserved t c =
    let x : DataItem × DataItem = (data_item_of c.in_ok-key.key, data_item_of c.in_ok-key.value) in
    let e : pairs_of c.push.new.self ≡ pairs_of c.loop.pairs ++ x ∷ [] = c.in_ok-push.ensures.ok in
    rw e (goes_on (pair_with (item_at c.args.depth)) (pairs_of c.loop.pairs) c.args.count c.loop.counter c.loop.rest.now x c.in_ok-key.after.now (many_with (pair_with (item_at c.args.depth)) c.args.count c.args.bytes.now) c.loop-test.true c.in_ok-key.ensures c.loop.invariant)

pub read_open_items-loop-after-init : goal.read_open_items-loop-after-init
read_open_items-loop-after-init t c = (
  before_all (items_of c.new-items.result) (open_with (alone (item_at c.args.depth)) c.args.bytes.now)
      c.new-items.ensures,
  λ i. omega (arith, c.type_inv.bytes i),
)

pub read_open_items-returns-in-Some : goal.read_open_items-returns-in-Some
read_open_items-returns-in-Some t c = open_ends (alone (item_at c.args.depth)) (alone_shrinks (item_at c.args.depth) (item_shrinks c.args.depth))
    (items_of c.loop-after.items) c.loop-after.rest.now c.in-Some.after.now (open_with (alone (item_at c.args.depth)) c.args.bytes.now) c.in-Some.ensures
    c.loop-after.invariant.0

pub read_open_items-returns-in_err-item : goal.read_open_items-returns-in_err-item
read_open_items-returns-in_err-item t c =
    let p = err_from_is_err_and c.from_residual.result c.from_residual.ensures.1 in
    rw (p.1, p.2) (open_fails (alone (item_at c.args.depth)) (alone_shrinks (item_at c.args.depth) (item_shrinks c.args.depth)) c.in_err-item.field-0.0
    (items_of c.loop-after.items) c.loop-after.rest.now (open_with (alone (item_at c.args.depth)) c.args.bytes.now) c.in_default.ensures
    (alone_fails (item_at c.args.depth) c.in_err-item.field-0.0 c.loop-after.rest.now c.in_err-item.ensures) c.loop-after.invariant.0)

pub read_open_items-loop-after-preserved : goal.read_open_items-loop-after-preserved
read_open_items-loop-after-preserved t c =
    let x = data_item_of c.in_ok-item.item in
    let i = c.loop-after.invariant in
    let e : items_of c.push.new.self ≡ items_of c.loop-after.items ++ x ∷ [] = c.in_ok-push.ensures.ok in
    let on = open_goes_on (alone (item_at c.args.depth)) (alone_shrinks (item_at c.args.depth) (item_shrinks c.args.depth)) (items_of c.loop-after.items)
    c.loop-after.rest.now (x ∷ []) c.in_ok-item.after.now (open_with (alone (item_at c.args.depth)) c.args.bytes.now) i.1 c.in_default.ensures
    (alone_is (item_at c.args.depth) c.loop-after.rest.now x c.in_ok-item.after.now c.in_ok-item.ensures) i.0 in
    (rw e on, ((item_shrinks c.args.depth) c.loop-after.rest.now (x, c.in_ok-item.after.now) i.1 c.in_ok-item.ensures).0)

pub read_open_items-loop-after-smaller : goal.read_open_items-loop-after-smaller
read_open_items-loop-after-smaller t c =
    let x = data_item_of c.in_ok-item.item in
    ((item_shrinks c.args.depth) c.loop-after.rest.now (x, c.in_ok-item.after.now) c.loop-after.invariant.1 c.in_ok-item.ensures).1

pub read_open_pairs-loop-after-init : goal.read_open_pairs-loop-after-init
read_open_pairs-loop-after-init t c = (
  before_all (pairs_of c.new-pairs.result) (open_with (alone (pair_with (item_at c.args.depth))) c.args.bytes.now)
      c.new-pairs.ensures,
  λ i. omega (arith, c.type_inv.bytes i),
)

pub read_open_pairs-returns-in-Some : goal.read_open_pairs-returns-in-Some
read_open_pairs-returns-in-Some t c = open_ends (alone (pair_with (item_at c.args.depth)))
    (alone_shrinks (pair_with (item_at c.args.depth)) (pair_shrinks c.args.depth)) (pairs_of c.loop-after.pairs) c.loop-after.rest.now c.in-Some.after.now
    (open_with (alone (pair_with (item_at c.args.depth))) c.args.bytes.now) c.in-Some.ensures c.loop-after.invariant.0

pub read_open_pairs-returns-in_err-key : goal.read_open_pairs-returns-in_err-key
read_open_pairs-returns-in_err-key t c =
    let p = err_from_is_err_and c.from_residual.result c.from_residual.ensures.1 in
    rw (p.1, p.2) (open_fails (alone (pair_with (item_at c.args.depth))) (alone_shrinks (pair_with (item_at c.args.depth)) (pair_shrinks c.args.depth))
    c.in_err-key.field-0.0 (pairs_of c.loop-after.pairs) c.loop-after.rest.now (open_with (alone (pair_with (item_at c.args.depth))) c.args.bytes.now)
    c.in_default.ensures (alone_fails (pair_with (item_at c.args.depth)) c.in_err-key.field-0.0 c.loop-after.rest.now c.in_err-key.ensures)
    c.loop-after.invariant.0)

pub read_open_pairs-loop-after-preserved : goal.read_open_pairs-loop-after-preserved
read_open_pairs-loop-after-preserved t c =
    let x : DataItem × DataItem = (data_item_of c.in_ok-key.key, data_item_of c.in_ok-key.value) in
    let i = c.loop-after.invariant in
    let e : pairs_of c.push.new.self ≡ pairs_of c.loop-after.pairs ++ x ∷ [] = c.in_ok-push.ensures.ok in
    let on = open_goes_on (alone (pair_with (item_at c.args.depth))) (alone_shrinks (pair_with (item_at c.args.depth)) (pair_shrinks c.args.depth))
    (pairs_of c.loop-after.pairs) c.loop-after.rest.now (x ∷ []) c.in_ok-key.after.now
    (open_with (alone (pair_with (item_at c.args.depth))) c.args.bytes.now) i.1 c.in_default.ensures
    (alone_is (pair_with (item_at c.args.depth)) c.loop-after.rest.now x c.in_ok-key.after.now c.in_ok-key.ensures) i.0 in
    (rw e on, ((pair_shrinks c.args.depth) c.loop-after.rest.now (x, c.in_ok-key.after.now) i.1 c.in_ok-key.ensures).0)

pub read_open_pairs-loop-after-smaller : goal.read_open_pairs-loop-after-smaller
read_open_pairs-loop-after-smaller t c =
    let x : DataItem × DataItem = (data_item_of c.in_ok-key.key, data_item_of c.in_ok-key.value) in
    ((pair_shrinks c.args.depth) c.loop-after.rest.now (x, c.in_ok-key.after.now) c.loop-after.invariant.1 c.in_ok-key.ensures).1
