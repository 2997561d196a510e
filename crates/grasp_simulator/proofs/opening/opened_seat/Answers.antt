use Rattle.std.proofs.Common.{◌∙◌}
use Rattle.grasp_model_network.specs.Setting.{script_node}
use Rattle.grasp_simulator.proofs.SeatCalls.{opens}
use Rattle.grasp_simulator.proofs.opening.opened_seat.Goals as goal

pub returns : goal.returns
returns c = (
  c.agent_step-3.ensures.life ∙ (c.agent_step-2.ensures.life ∙ (c.agent_step.ensures.life ∙ c.in_ok-seat.ensures.0)),
  λ h is. opens (script_node c.args.plan.now c.args.node) h c.in_ok-seat.seat c.agent_step.new.self c.agent_step-2.new.self c.agent_step-3.new.self _ _ _ _ _ _
      (c.in_ok-seat.ensures.1 h is) c.in_ok-_registered.ensures.steps c.in_ok-_declared.ensures.steps c.in_ok-_listening.ensures.steps,
)
