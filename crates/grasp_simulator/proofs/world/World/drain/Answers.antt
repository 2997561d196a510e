use Rattle.std.proofs.Common.{sym, ap, ◌∙◌, subst, length, Err}
use Rattle.grasp_model_network.specs.declared.event.Event.{Event}
use Rattle.grasp_model_network.specs.declared.event.Event.TheVariants as event
use Rattle.grasp_model_network.specs.declared.report.Report.TheVariants as report
use Rattle.grasp_model_network.specs.declared.report.WorldStop.{WorldStop}
use Rattle.grasp_simulator.proofs.DrainGoes.{drain_runs}
use Rattle.grasp_simulator.proofs.LentOutputs.{lent_so}
use Rattle.grasp_simulator.proofs.Starving.{drain_starves}
use Rattle.grasp_simulator.proofs.Stops.{asked_node, ends_so, stays_stopped, stops}
use Rattle.grasp_simulator.specs.Lending.{sent_of}
use Rattle.grasp_simulator.specs.WorldSteps.{Stepped}
use Rattle.grasp_simulator.specs.declared.world.World.{World}
use Rattle.grasp_simulator.proofs.world.World.drain.Goals as goal

-- the network was stopped before
pub returns-in-Some-clause-steps : goal.returns-in-Some-clause-steps
returns-in-Some-clause-steps c = stays_stopped c.args.self.now c.in-Some.stop (event.Drain c.args.node c.args.max) c.in-Some.is

pub give-requires : goal.give-requires
give-requires c = asked_node c.args.self.now (event.Drain c.args.node c.args.max) c.args.node c.requires c.in_default.is (λ s w fit. fit)

-- outputs were sent
pub returns-in-Ok-clause-steps : goal.returns-in-Ok-clause-steps
returns-in-Ok-clause-steps c =
    let e : Event = event.Drain c.args.node c.args.max in
    ends_so c.grounds_hold.ensures c.acceptances_are_calls.ensures c.args.self.now c.give.new.self c.end_given.new.self e (report.Sent (length c.in-Ok.outputs)) (sent_of c.end_given.result) c.in_default.is c.give.ensures.count
    (drain_runs c.args.self.now c.give.new.self c.args.node c.args.max (length c.in-Ok.outputs) c.give.ensures.notes c.in-Ok.ensures.sends) c.end_given.ensures.ends

pub returns-in-Ok-clause-outputs : goal.returns-in-Ok-clause-outputs
returns-in-Ok-clause-outputs c = lent_so c.args.self.now c.args.node c.args.max c.in-Ok.outputs c.end_given.result c.in-Ok.ensures.gives c.end_given.ensures.same

-- memory was wanted
pub returns-in-Err-clause-steps : goal.returns-in-Err-clause-steps
returns-in-Err-clause-steps c =
    let e : Event = event.Drain c.args.node c.args.max in
    subst (λ (y : WorldStop). Stepped c.args.self.now c.stop.new.self e (Err y)) (sym c.stop.ensures.result)
    (stops c.args.self.now c.stop.new.self e c.in_default.is (ap (λ (w : World). length w.seats.items) c.stop.ensures.stopped ∙ c.give.ensures.count) (drain_starves c.args.self.now c.args.node c.args.max) (ap (λ (w : World). w.stopped) c.stop.ensures.stopped))
