use Rattle.std.proofs.Common.{Some}
use Rattle.std.proofs.lemmas.Result.{on_ok_weaker}
use Rattle.grasp_wire.proofs.writing.parts.put_offer.Goals as goal

pub returns-clause-range : goal.returns-clause-range
returns-clause-range g c = on_ok_weaker c.value.result (λ h k. c.in_ok-put_objective_start.ensures.range (Some c.args.value.now) (h k)) c.value.ensures.range
