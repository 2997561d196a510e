use Rattle.grasp_node_main.specs.Tells.{LinksTold, links_told}
use Rattle.grasp_own_agents.proofs.Exchanged.{exchanged}
use Rattle.grasp_own_agents.proofs.exchange.exchange.Goals as goal

pub returns : goal.returns
returns g c =
    let tell : _ → LinksTold = λ links. links_told g.L.Links links in
    exchanged c.args.wait c.now-now.result c.args.core.now c.take_in-away.new.core c.step_core-drained.new.core (g.C.Clock.readings c.args.clock.now) (g.C.Clock.readings c.now-now.new.self)
    (tell c.args.links.now) (tell c.ask_once-asked.new.links) (tell c.hand_over.new.links) (tell c.close_again.new.links) c.ask_once-asked.result c.take_in-away.result c.step_core-drained.result
    c.ask_once-asked.ensures c.now-now.ensures.told c.take_in-away.ensures c.step_core-drained.ensures c.hand_over.ensures c.close_again.ensures
