use Rattle.std.proofs.Common.{ℕ, Ok, Err, ◌∙◌, subst, arith}
use Rattle.grasp_cbor.proofs.HeadBytes.{AllBytes-from}
use Rattle.grasp_wire.specs.One.{AnswersOne}
use Rattle.grasp_core.proofs.Came.{carries_it, carries_none}
use Rattle.grasp_core.proofs.node_core.NodeCore.decoded.Goals as goal

pub returns-in-Ok : goal.returns-in-Ok
returns-in-Ok c = λ x m.
    carries_it x.node.plan.limit c.args.bytes.now x.coming.carried c.in-Ok.message (AllBytes-from c.args.bytes.now (λ i. omega (arith, c.type_inv.bytes i))) m.carries (subst (λ (k : ℕ). AnswersOne c.args.bytes.now k (Ok c.in-Ok.message)) (c.limit.ensures.is ∙ m.stands.limit) c.in-Ok.ensures)

pub returns-else-wants_memory : goal.returns-else-wants_memory
returns-else-wants_memory c = λ x m.
    carries_none x.node.plan.limit c.args.bytes.now x.coming.carried c.in-Err.fault (AllBytes-from c.args.bytes.now (λ i. omega (arith, c.type_inv.bytes i))) m.carries (subst (λ (k : ℕ). AnswersOne c.args.bytes.now k (Err c.in-Err.fault)) (c.limit.ensures.is ∙ m.stands.limit) c.in-Err.ensures) (c.wants_memory.ensures c.if-wants_memory.false)
