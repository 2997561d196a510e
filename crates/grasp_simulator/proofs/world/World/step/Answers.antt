use Rattle.std.proofs.Common.{sym, ap, ◌∙◌, subst, length, Err}
use Rattle.grasp_model_network.specs.declared.report.WorldStop.{WorldStop}
use Rattle.grasp_simulator.proofs.Stops.{stays_stopped, stops, ends_so}
use Rattle.grasp_simulator.specs.WorldSteps.{Stepped}
use Rattle.grasp_simulator.specs.declared.world.World.{World}
use Rattle.grasp_simulator.proofs.world.World.step.Goals as goal

-- the network was stopped before the event
pub returns-in-Some : goal.returns-in-Some
returns-in-Some c = stays_stopped c.args.self.now c.in-Some.stop c.args.event c.in-Some.is

-- the event was run
pub returns-in-Ok : goal.returns-in-Ok
returns-in-Ok c = ends_so c.grounds_hold.ensures c.acceptances_are_calls.ensures c.args.self.now c.run.new.self c.end.new.self c.args.event c.in-Ok.report c.end.result c.in_default.is c.run.ensures.count c.in-Ok.ensures.runs c.end.ensures

-- memory was wanted
pub returns-in-Err : goal.returns-in-Err
returns-in-Err c =
    subst (λ (y : WorldStop). Stepped c.args.self.now c.stop.new.self c.args.event (Err y)) (sym c.stop.ensures.result)
    (stops c.args.self.now c.stop.new.self c.args.event c.in_default.is (ap (λ (w : World). length w.seats.items) c.stop.ensures.stopped ∙ c.run.ensures.count) c.in-Err.ensures.wanted (ap (λ (w : World). w.stopped) c.stop.ensures.stopped))
