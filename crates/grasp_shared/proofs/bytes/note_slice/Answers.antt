use Rattle.std.proofs.Common.{arith}
use Rattle.grasp_cbor.proofs.HeadBytes.{AllBytes-from}
use Rattle.grasp_shared.proofs.bytes.note_slice.Goals as goal

pub returns : goal.returns
returns c = AllBytes-from c.args.bytes.now (λ i. omega (arith, c.type_inv.bytes i))
