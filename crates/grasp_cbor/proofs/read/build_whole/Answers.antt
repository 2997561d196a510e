use Rattle.std.proofs.Common.{[], sym, append-nil}
use Rattle.grasp_cbor.specs.Item.{data_item_of}
use Rattle.grasp_cbor.proofs.BuildWhole.{is_found, not_none}
use Rattle.grasp_cbor.proofs.read.build_whole.Goals as goal

pub unreachable-requires : goal.unreachable-requires
unreachable-requires c =
    let r = c.requires in
    not_none r.item [] (rw c.in-Err-NotItem.field-0-is at (c.in-Err-NotItem.ensures.only r.item c.args.bytes.now [] r.encoding r.within (sym (append-nil c.args.bytes.now))))

pub returns-in-Ok : goal.returns-in-Ok
returns-in-Ok c =
    let r = c.requires in
    is_found c.args.bytes.now (data_item_of c.in-Ok.item) c.in-Ok.field-0-1.now r (c.in-Ok.ensures.only r.item c.args.bytes.now [] r.encoding r.within (sym (append-nil c.args.bytes.now)))
