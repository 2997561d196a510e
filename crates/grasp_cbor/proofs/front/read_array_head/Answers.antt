use Rattle.std.proofs.Common.{arith}
use Rattle.grasp_cbor.proofs.Leading.{array_some, array_none}
use Rattle.grasp_cbor.proofs.front.read_array_head.Goals as goal

pub returns-clause-some : goal.returns-clause-some
returns-clause-some c = array_some (λ x. x.0) (λ x. x.1.now) c.args.bytes.now c.read_head_of.result (λ i. omega (arith, c.type_inv.bytes i)) c.read_head_of.ensures

pub returns-clause-none : goal.returns-clause-none
returns-clause-none c = array_none (λ x. x.0) (λ x. x.1.now) c.args.bytes.now c.read_head_of.result c.read_head_of.ensures
