use Rattle.std.proofs.Common.{arith}
use Rattle.grasp_cbor.proofs.HeadBytes.{AllBytes-from}
use Rattle.grasp_record.proofs.inputs.are_bytes.Goals as goal

pub returns : goal.returns
returns c = AllBytes-from c.args.bytes.now (λ i. omega (arith, c.type_inv.bytes i))
