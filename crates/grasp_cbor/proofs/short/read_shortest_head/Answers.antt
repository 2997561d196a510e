use Rattle.std.proofs.Common.{sym, arith}
use Rattle.grasp_cbor.proofs.Minimals.{head_is_least, head_no_longer}
use Rattle.grasp_cbor.proofs.short.read_shortest_head.Goals as goal

pub overflow_sub-bytes : goal.overflow_sub-bytes
overflow_sub-bytes c = head_no_longer c.args.major c.in_ok-n.n c.args.bytes.now c.in_ok-n.rest.now (λ i. omega (arith, c.type_inv.bytes i)) (sym c.in_ok-n.ensures)

pub returns-then-bytes-rest : goal.returns-then-bytes-rest
returns-then-bytes-rest c =
    let no_longer = head_no_longer c.args.major c.in_ok-n.n c.args.bytes.now c.in_ok-n.rest.now (λ i. omega (arith, c.type_inv.bytes i)) (sym c.in_ok-n.ensures) in
    head_is_least c.args.major c.in_ok-n.n c.args.bytes.now c.in_ok-n.rest.now (λ i. omega (arith, c.type_inv.bytes i)) (sym c.in_ok-n.ensures) (omega (arith, no_longer, c.if-bytes-rest.true, c.shortest_len.ensures))
