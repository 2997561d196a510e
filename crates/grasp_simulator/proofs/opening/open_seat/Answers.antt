use Rattle.std.proofs.Common.{◌∙◌}
use Rattle.std.proofs.lemmas.Result.{IfOk-weaker}
use Rattle.grasp_pool.specs.Functions.{pool_of}
use Rattle.grasp_model_network.specs.Setting.{script_roots}
use Rattle.grasp_simulator.proofs.opening.open_seat.Goals as goal

pub returns : goal.returns
returns c =
    IfOk-weaker c.opened_seat.result _ _
    (λ seat h. (h.0 ∙ c.from.ensures, h.1 (pool_of (script_roots c.args.plan.now.roots c.args.node)) c.in_ok-agent.ensures)) c.opened_seat.ensures
