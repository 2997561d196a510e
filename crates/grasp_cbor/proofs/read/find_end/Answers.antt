use Rattle.std.proofs.Common.{◌<◌, ◌++◌, ◌∷◌, [], take, get_or, length, arith}
use Rattle.grasp_cbor.specs.CanGoOn.{IsItem, CanGoOnWithin}
use Rattle.grasp_cbor.specs.Walking.{Took}
use Rattle.grasp_cbor.proofs.Ending.{took_open, item_more, open_more, took_on, taken_is, faulted}
use Rattle.grasp_cbor.proofs.read.find_end.Goals as goal

pub loop-i-init : goal.loop-i-init
loop-i-init c = (c.new-walk.ensures.fresh, c.new-walk.ensures.limit, took_open c.new-walk.result [] c.new-walk.ensures.fresh)

pub returns-in-Ok-Whole : goal.returns-in-Ok-Whole
returns-in-Ok-Whole c =
    let i = c.loop-i.invariant in
    let lt : c.loop-i.i < length c.args.bytes.now = c.loop-i-test.true in
    let below = taken_is c.loop-i.walk c.args.bytes.now c.loop-i.i (omega arith) i.0 in
    let limit = i.1 in
    let a : IsItem 16 (take c.loop-i.i c.args.bytes.now ++ get_or c.args.bytes.now c.loop-i.i 0 ∷ []) × Took c.take.new.self [] = rw c.in-Ok-Whole.field-0-is at (c.in-Ok-Whole.ensures.exact _ i.0) in
    (omega arith, omega arith, item_more c.args.bytes.now c.loop-i.i lt a.0)

pub returns-in-Err : goal.returns-in-Err
returns-in-Err c =
    let i = c.loop-i.invariant in
    let lt : c.loop-i.i < length c.args.bytes.now = c.loop-i-test.true in
    let below = taken_is c.loop-i.walk c.args.bytes.now c.loop-i.i (omega arith) i.0 in
    let limit = i.1 in
    faulted c.loop-i.walk c.take.new.self c.args.bytes.now c.loop-i.i c.args.limit c.in-Err.fault lt (omega arith) limit (c.in-Err.ensures.exact _ i.0)

pub loop-i-preserved : goal.loop-i-preserved
loop-i-preserved c =
    let i = c.loop-i.invariant in
    let lt : c.loop-i.i < length c.args.bytes.now = c.loop-i-test.true in
    let limit = i.1 in
    let new = c.take.ensures.limit in
    let a : CanGoOnWithin 16 (take c.loop-i.i c.args.bytes.now ++ get_or c.args.bytes.now c.loop-i.i 0 ∷ []) × Took c.take.new.self (take c.loop-i.i c.args.bytes.now ++ get_or c.args.bytes.now c.loop-i.i 0 ∷ []) = rw c.in-Ok-More.field-0-is at (c.in-Ok-More.ensures.exact _ i.0) in
    (took_on c.take.new.self c.args.bytes.now c.loop-i.i lt a.1, omega arith, open_more c.args.bytes.now c.loop-i.i lt a.0)
