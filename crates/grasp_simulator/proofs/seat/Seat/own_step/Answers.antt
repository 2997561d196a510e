use Rattle.std.proofs.Common.{ap, ◌∙◌}
use Rattle.grasp_simulator.specs.Remembering.{begun_in, offering_of}
use Rattle.grasp_simulator.specs.Seats.{accepted_if}
use Rattle.grasp_simulator.specs.declared.notes.Offering.{Offering}
use Rattle.grasp_simulator.proofs.OwnSteps.{own_steps}
use Rattle.grasp_simulator.proofs.seat.Seat.own_step.Goals as goal

pub returns-clause-steps : goal.returns-clause-steps
returns-clause-steps c =
    let old = c.args.self.now in
    let new = c.make.new.self in
    let call = c.in_ok-call.call in
    let r = c.in_ok-reply.reply in
    λ x stands. own_steps old new call r c.begun.result c.begun_on-begun.result c.accepts_on-accepts.result c.accepted_if-accepted.result c.pool-pool.ensures.kept c.in_ok-call.ensures
    (c.begun.ensures ∙ (ap (λ (o : Offering). begun_in o c.of-after.result call r) c.of-before.ensures ∙ ap (λ (o : Offering). begun_in (offering_of old.agent) o call r) c.of-after.ensures))
    c.in_ok-reply.ensures.agent c.begun_on-begun.ensures c.accepts_on-accepts.ensures (c.accepted_if-accepted.ensures ∙ ap (λ b. accepted_if b c.accepts_on-accepts.result) c.was_done.ensures)
    x stands (c.in_ok-reply.ensures.steps x stands)
