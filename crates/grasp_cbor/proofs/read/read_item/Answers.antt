use Rattle.std.proofs.Common.{◌≡◌, rules, Some, arith}
use Rattle.grasp_cbor.specs.Item.{data_item_of}
use Rattle.grasp_cbor.specs.Bytes.{AllBytes}
use Rattle.grasp_cbor.specs.Ending.{partial, too_long, faulty, whole, IsWhole, IsPartial, IsTooLong, IsFaulty}
use Rattle.grasp_cbor.specs.ReadItem.{fault_ending}
use Rattle.grasp_cbor.proofs.HeadBytes.{AllBytes-from}
use Rattle.grasp_cbor.proofs.Cases.{one_ending}
use Rattle.grasp_cbor.proofs.read.read_item.Goals as goal

pub returns-in-Ok-clause-only : goal.returns-in-Ok-clause-only
returns-in-Ok-clause-only c =
    let bytes : AllBytes c.args.bytes.now = AllBytes-from c.args.bytes.now (λ i. omega (arith, c.type_inv.bytes i)) in
    let w : IsWhole c.args.bytes.now c.args.limit (data_item_of c.in-Ok.item) c.in-Ok-Some.used = search rules in
    λ ending h. one_ending c.args.bytes.now c.args.limit (whole (data_item_of c.in-Ok.item) c.in-Ok-Some.used) ending bytes w h

pub returns-in-Ok-None-clause-only : goal.returns-in-Ok-None-clause-only
returns-in-Ok-None-clause-only c =
    let bytes : AllBytes c.args.bytes.now = AllBytes-from c.args.bytes.now (λ i. omega (arith, c.type_inv.bytes i)) in
    let p : IsPartial c.args.bytes.now c.args.limit = rw c.in-Ok-None.field-0-is at c.in-Ok-None.ensures in
    λ ending h. one_ending c.args.bytes.now c.args.limit partial ending bytes p h

pub returns-in-Err-Bad-clause-only : goal.returns-in-Err-Bad-clause-only
returns-in-Err-Bad-clause-only c =
    let bytes : AllBytes c.args.bytes.now = AllBytes-from c.args.bytes.now (λ i. omega (arith, c.type_inv.bytes i)) in
    let f : IsFaulty c.args.bytes.now c.args.limit c.in-Err-Bad.name c.in-Err-Bad.at = search rules in
    let q : fault_ending c.item_fault.result ≡ Some (faulty c.in-Err-Bad.name c.in-Err-Bad.at) = search rules in
    λ ending h. rw q (one_ending c.args.bytes.now c.args.limit (faulty c.in-Err-Bad.name c.in-Err-Bad.at) ending bytes f h)

pub returns-in-Err-TooLong-clause-only : goal.returns-in-Err-TooLong-clause-only
returns-in-Err-TooLong-clause-only c =
    let bytes : AllBytes c.args.bytes.now = AllBytes-from c.args.bytes.now (λ i. omega (arith, c.type_inv.bytes i)) in
    let p : IsTooLong c.args.bytes.now c.args.limit = rw c.in-Err-TooLong.field-0-is at c.in-Err-TooLong.ensures in
    λ ending h. one_ending c.args.bytes.now c.args.limit too_long ending bytes p h
