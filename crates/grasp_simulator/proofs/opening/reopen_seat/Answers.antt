use Rattle.std.proofs.lemmas.Result.{IfOk-weaker}
use Rattle.grasp_pool.specs.Functions.{pool_of_image}
use Rattle.grasp_simulator.proofs.opening.reopen_seat.Goals as goal

pub returns : goal.returns
returns c = IfOk-weaker c.opened_seat.result _ _ (λ seat h. (h.0, h.1 (pool_of_image c.args.image.now) c.in_ok-agent.ensures)) c.opened_seat.ensures
