use Rattle.std.proofs.Common.{arith}
use Rattle.std.specs.Prelude.{string_bytes}
use Rattle.grasp_cbor.proofs.HeadBytes.{AllBytes-from}
use Rattle.grasp_trace.proofs.Telling.{told_datagram}
use Rattle.grasp_trace.proofs.page.Page.datagram.Goals as goal

pub returns : goal.returns
returns g c =
    told_datagram _ _ _ _ (λ t. string_bytes t) c.datagram.result _ _ (AllBytes-from c.args.bytes.now (λ i. omega (arith, c.type_inv.bytes i))) c.datagram.ensures c.write.ensures.told c.write.ensures.left
