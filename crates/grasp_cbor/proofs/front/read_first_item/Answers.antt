use Rattle.grasp_cbor.specs.Item.{data_item_of}
use Rattle.grasp_cbor.proofs.BuildWhole.{not_none}
use Rattle.grasp_cbor.proofs.Leading.{built_leads}
use Rattle.grasp_cbor.proofs.front.read_first_item.Goals as goal

pub returns-in-Ok-clause-some : goal.returns-in-Ok-clause-some
returns-in-Ok-clause-some c = built_leads c.args.depth (data_item_of c.in-Ok.found.0) c.args.bytes.now c.in-Ok.found.1.now c.in-Ok.ensures.found

pub returns-in-Err-NotItem-clause-none : goal.returns-in-Err-NotItem-clause-none
returns-in-Err-NotItem-clause-none c =
    λ item rest le l. not_none item rest (rw c.in-Err-NotItem.field-0-is at (c.in-Err-NotItem.ensures.only item l.front rest l.encoding le l.parts))
