use Rattle.std.proofs.Common.{◌≤◌, ◌<◌, ◌^◌, length, sym, subst, rules, arith}
use Rattle.grasp_cbor.specs.DataItem.{depth_of}
use Rattle.grasp_cbor.specs.Item.{data_item_of}
use Rattle.grasp_types.specs.Objective.{IsValue}
use Rattle.grasp_cbor.specs.Leading.{Leads}
use Rattle.grasp_cbor.proofs.HeadBytes.{AllBytes-from}
use Rattle.grasp_wire.proofs.Straight.{value_leads}
use Rattle.grasp_wire.proofs.direct.objective.read_value.Goals as goal

pub returns-in-Ok-clause-range : goal.returns-in-Ok-clause-range
returns-in-Ok-clause-range c =
    let item = data_item_of c.in-Ok-Some.item in
    let found : Leads item c.args.bytes.now c.in-Ok-Some.rest.now × (depth_of item ≤ 13) = rw c.in-Ok-Some.field-0-is at c.in-Ok-Some.ensures.some in
    let few : length c.args.bytes.now < 2 ^ 64 = search rules in
    subst IsValue (sym c.in-Ok.ensures.value)
    (value_leads item c.args.bytes.now c.in-Ok-Some.rest.now (AllBytes-from c.args.bytes.now (λ i. omega (arith, c.type_inv.bytes i))) few found.1 found.0)
