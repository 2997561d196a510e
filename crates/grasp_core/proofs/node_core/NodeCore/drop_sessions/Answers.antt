use Rattle.grasp_model_node.specs.RegistryCalls.{without_sessions}
use Rattle.grasp_core.proofs.Dropping.{left_none, left_more}
use Rattle.grasp_core.proofs.node_core.NodeCore.drop_sessions.Goals as goal

pub loop-turn-init : goal.loop-turn-init
loop-turn-init c = λ n h. left_none c.args.self.now n c.args.asa h

pub loop-turn-preserved : goal.loop-turn-preserved
loop-turn-preserved c = λ n h. left_more _ c.loop-turn._turn n c.args.asa (c.drop_session.ensures (without_sessions c.loop-turn._turn n c.args.asa) (c.loop-turn.invariant n h))
