use Rattle.std.proofs.Common.{sym, ◌∙◌, arith}
use Rattle.grasp_model_node.specs.Begin.{expired}
use Rattle.grasp_core.proofs.Expiring.{expired_none, expired_more, expired_all}
use Rattle.grasp_core.proofs.node_core.NodeCore.expire_sessions.Goals as goal

pub loop-turn-init : goal.loop-turn-init
loop-turn-init c = λ n h. expired_none c.args.self.now n h

pub loop-turn-preserved : goal.loop-turn-preserved
loop-turn-preserved c = λ n h. expired_more _ c.loop-turn.turn n (c.expire_next.ensures.stands (expired c.loop-turn.turn n) (c.loop-turn.invariant n h))

pub returns-then-not-expire_next : goal.returns-then-not-expire_next
returns-then-not-expire_next c = λ n h.
    expired_all _ c.loop-turn.turn n (omega arith) (sym c.if-not-expire_next.true ∙ c.expire_next.ensures.told (expired c.loop-turn.turn n) (c.loop-turn.invariant n h)) (c.expire_next.ensures.stands (expired c.loop-turn.turn n) (c.loop-turn.invariant n h))
