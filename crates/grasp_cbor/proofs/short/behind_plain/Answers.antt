use Rattle.std.proofs.Common.{arith}
use Rattle.grasp_cbor.proofs.Minimals.{plain_head_leads}
use Rattle.grasp_cbor.proofs.short.behind_plain.Goals as goal

pub returns-in-Direct : goal.returns-in-Direct
returns-in-Direct c = plain_head_leads 0 c.args.bytes.now c.in-Ok.rest.now c.in-Ok.head.major c.in-Ok.head.argument (λ i. omega (arith, c.type_inv.bytes i)) c.in-Ok.ensures c.in-Simple.is (rw c.in-Direct.is tt)

pub returns-else-n-lt32 : goal.returns-else-n-lt32
returns-else-n-lt32 c = plain_head_leads 0 c.args.bytes.now c.in-Ok.rest.now c.in-Ok.head.major c.in-Ok.head.argument (λ i. omega (arith, c.type_inv.bytes i)) c.in-Ok.ensures c.in-Simple.is (rw c.in-One.is (omega (arith, c.if-n-lt32.false)))

pub returns-in-Two : goal.returns-in-Two
returns-in-Two c = plain_head_leads 0 c.args.bytes.now c.in-Ok.rest.now c.in-Ok.head.major c.in-Ok.head.argument (λ i. omega (arith, c.type_inv.bytes i)) c.in-Ok.ensures c.in-Simple.is (rw c.in-Two.is tt)

pub returns-in-Four : goal.returns-in-Four
returns-in-Four c = plain_head_leads 0 c.args.bytes.now c.in-Ok.rest.now c.in-Ok.head.major c.in-Ok.head.argument (λ i. omega (arith, c.type_inv.bytes i)) c.in-Ok.ensures c.in-Simple.is (rw c.in-Four.is tt)

pub returns-in-Eight : goal.returns-in-Eight
returns-in-Eight c = plain_head_leads 0 c.args.bytes.now c.in-Ok.rest.now c.in-Ok.head.major c.in-Ok.head.argument (λ i. omega (arith, c.type_inv.bytes i)) c.in-Ok.ensures c.in-Simple.is (rw c.in-Eight.is tt)
