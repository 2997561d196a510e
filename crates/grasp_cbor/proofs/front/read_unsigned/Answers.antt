use Rattle.std.proofs.Common.{arith}
use Rattle.grasp_cbor.proofs.Leading.{unsigned_some, unsigned_none}
use Rattle.grasp_cbor.proofs.front.read_unsigned.Goals as goal

pub returns-clause-some : goal.returns-clause-some
returns-clause-some c = unsigned_some (λ x. x.0) (λ x. x.1.now) c.args.bytes.now c.read_head_of.result (λ i. omega (arith, c.type_inv.bytes i)) c.read_head_of.ensures

pub returns-clause-none : goal.returns-clause-none
returns-clause-none c = unsigned_none (λ x. x.0) (λ x. x.1.now) c.args.bytes.now c.read_head_of.result c.read_head_of.ensures
