use Rattle.std.proofs.Common.{arith}
use Rattle.grasp_cbor.proofs.HeadBytes.{AllBytes-from}
use Rattle.grasp_cbor.proofs.write.append.Goals as goal

pub returns-clause-bytes : goal.returns-clause-bytes
returns-clause-bytes c = AllBytes-from c.args.bytes.now (λ i. omega (arith, c.type_inv.bytes i))

pub returns-in_err-extend_from_slice-clause-bytes : goal.returns-in_err-extend_from_slice-clause-bytes
returns-in_err-extend_from_slice-clause-bytes c = AllBytes-from c.args.bytes.now (λ i. omega (arith, c.type_inv.bytes i))
