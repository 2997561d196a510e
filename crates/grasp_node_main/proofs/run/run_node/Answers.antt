use Rattle.std.proofs.Common.{◌≡◌, ◌∙◌, refl, ap, inl, subst, ℕ, [], List}
use Rattle.grasp_core.specs.declared.node_core.NodeCore.{NodeCore}
use Rattle.grasp_model_node.specs.Node.{NodeState, first_node}
use Rattle.grasp_shared.specs.History.{History, Reaches}
use Rattle.grasp_node_main.specs.Openings.{openings}
use Rattle.grasp_node_main.specs.Crew.{crew_of, crew_with}
use Rattle.grasp_node_main.specs.Seats.{SeatsStand}
use Rattle.grasp_node_main.specs.Tells.{LinksTold, links_told, told}
use Rattle.grasp_node_main.specs.declared.plan.BeaconPlan.{BeaconPlan}
use Rattle.grasp_node_main.specs.declared.plan.DaemonPlan.{DaemonPlan}
use Rattle.grasp_node_main.specs.declared.seated_agent.SeatedAgent.{SeatedAgent}
use Rattle.grasp_node_main.specs.declared.worker.Worker.{Worker}
use Rattle.grasp_pool.specs.declared.roots.RootPrefix.{RootPrefix}
use Rattle.grasp_node_main.proofs.Ending.{runs}
use Rattle.grasp_node_main.proofs.Begins.{few_seats}
use Rattle.grasp_node_main.proofs.run.run_node.Goals as goal

-- the agents that were opened are the plan's
of_plan : (plan : DaemonPlan) (held : List RootPrefix) (announced : List BeaconPlan) (read : List (List ℕ)) (seats : List SeatedAgent) → held ≡ plan.roots → announced ≡ plan.beacons → read ≡ plan.readers
    → SeatsStand (crew_with held plan.wants announced read) [] 0 seats → SeatsStand (crew_of plan) [] 0 seats
of_plan plan held announced read seats roots beacons readers stand =
    let crew : crew_with held plan.wants announced read ≡ crew_of plan =
    ap (λ x. crew_with x plan.wants announced read) roots
    ∙ ap (λ x. crew_with plan.roots plan.wants x read) beacons
    ∙ ap (λ x. crew_with plan.roots plan.wants plan.beacons x) readers in
    subst (λ (ws : List Worker). SeatsStand ws [] 0 seats) crew stand

-- nothing has happened since the node was opened
since : (from : NodeState) (h : History) (core : NodeCore) → (r : Reaches from h core) → Reaches r.to [] core
since from h core r = record { to = r.to; legal = refl; stands = r.stands; node = r.node; fed = r.fed; limit = r.limit }

pub run-requires-after_bounds : goal.run-requires-after_bounds
run-requires-after_bounds g c κs within =
    let plan = c.args.plan in
    few_seats plan.roots plan.wants plan.beacons plan.readers c.in-Ok.daemon.seats.items c.requires.beacons c.requires.readers
    (of_plan plan c.slice-held.result.now c.slice-announced.result.now c.slice-read.result.now c.in-Ok.daemon.seats.items c.slice-held.ensures c.slice-announced.ensures c.slice-read.ensures c.in-Ok.ensures.seats)

pub returns-in-Ok-run : goal.returns-in-Ok-run
returns-in-Ok-run g c =
    let tell : _ → LinksTold = λ links. links_told g.L.Links links in
    let plan = c.args.plan in
    let seats = of_plan plan c.slice-held.result.now c.slice-announced.result.now c.slice-read.result.now c.in-Ok.daemon.seats.items c.slice-held.ensures c.slice-announced.ensures c.slice-read.ensures c.in-Ok.ensures.seats in
    let core = c.in-Ok.ensures.core in
    let ran = c.in-Ok-run.ensures core.to (crew_of plan) (since (first_node plan.node) openings c.in-Ok.daemon.core core) seats in
    runs ((c.run.new.links ≡ c.args.links.now) × (c.run.new.clock ≡ c.args.clock.now)) plan core.to (told (g.C.Clock.readings c.args.clock.now) (tell c.args.links.now)) (told (g.C.Clock.readings c.run.new.clock) (tell c.run.new.links)) c.in-Ok-run.daemon c.unless_stopped.result
    core.legal ran c.unless_stopped.ensures.same c.unless_stopped.ensures.going

pub returns-in-Ok : goal.returns-in-Ok
returns-in-Ok g c =
    let plan = c.args.plan in
    let seats = of_plan plan c.slice-held.result.now c.slice-announced.result.now c.slice-read.result.now c.in-Ok.daemon.seats.items c.slice-held.ensures c.slice-announced.ensures c.slice-read.ensures c.in-Ok.ensures.seats in
    let core = c.in-Ok.ensures.core in
    inl (c.in-Err-run.ensures core.to (crew_of plan) (since (first_node plan.node) openings c.in-Ok.daemon.core core) seats)

pub returns : goal.returns
returns g c = inl (refl, refl)
