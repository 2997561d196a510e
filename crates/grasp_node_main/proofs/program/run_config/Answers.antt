use Rattle.grasp_node_main.specs.Program.{NothingPassed, OpensLinks}
use Rattle.grasp_node_main.specs.Tells.{LinksTold, links_told}
use Rattle.grasp_node_main.proofs.MainRuns.{opens_links, stops_at_turns}
use Rattle.grasp_node_main.proofs.program.run_config.Goals as goal

pub returns-in-Ok-open-clause-memory : goal.returns-in-Ok-open-clause-memory
returns-in-Ok-open-clause-memory g c =
    let tell : _ → LinksTold = λ links. links_told g.L.Links links in
    let e = c.in-Ok-open.ensures in
    let passed : NothingPassed (tell c.args.links.now) (tell c.open.new.self) =
    record { asks = e.not_asked; waits = e.waited; given = e.gave; handed = e.took; opened = e.none_opened; faults = e.never_falls } in
    let opens : OpensLinks c.args.config (tell c.args.links.now) (tell c.open.new.self) =
    opens_links c.args.config c.in-Ok.joining (tell c.args.links.now) (tell c.open.new.self) c.in-Ok.ensures e.opens e.told passed in
    λ starved. stops_at_turns _ tell _ c.args.config c.args.seed _ _ c.args.links.now c.open.new.self c.run_plan.new.links c.in-Ok-daemon_plan.plan c.in-Ok-daemon_plan.ensures opens (c.run_plan.ensures.memory starved)
