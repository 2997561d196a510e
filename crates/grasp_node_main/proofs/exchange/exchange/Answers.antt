use Rattle.grasp_node_main.specs.Tells.{LinksTold, links_told}
use Rattle.grasp_node_main.proofs.Exchanging.{exchanged}
use Rattle.grasp_node_main.proofs.exchange.exchange.Goals as goal

pub returns-clause-exchanges : goal.returns-clause-exchanges
returns-clause-exchanges g c =
    let told : _ → LinksTold = λ links. links_told g.L.Links links in
    exchanged c.args.shared.now c.args.wait c.now-now.result c.args.root.now c.take_in-away.new.root c.drain_out.new.root (g.C.Clock.readings c.args.clock.now) (g.C.Clock.readings c.now-now.new.self)
    (told c.args.links.now) (told c.take_in-away.new.links) (told c.drain_out.new.links) (told c.close_again.new.links) c.take_in-away.result
    c.now-now.ensures.told c.take_in-away.ensures c.drain_out.ensures c.close_again.ensures
