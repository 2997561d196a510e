use Rattle.std.proofs.Common.{◌≤◌, arith}
use Rattle.grasp_node_main.specs.Tells.{Told, told, links_told}
use Rattle.grasp_node_main.proofs.Exchanging.{looped_none, looped_more}
use Rattle.grasp_node_main.proofs.beside.run_loop.Goals as goal

pub loop-turn-init : goal.loop-turn-init
loop-turn-init g c = (looped_none c.args.shared.now c.args.wait c.args.root.now _ c.requires, omega arith)

pub loop-turn-preserved : goal.loop-turn-preserved
loop-turn-preserved g c =
    let tell : _ → _ → Told = λ clock links. told (g.C.Clock.readings clock) (links_told g.L.Links links) in
    let e = c.exchange-now in
    let later : c.loop-turn.now ≤ e.result = omega (arith, c.loop-turn.invariant.1, e.ensures.later) in
    let latest : e.result ≤ g.C.Clock.latest e.new.clock = omega (arith, e.ensures.latest) in (
      looped_more c.args.shared.now c.args.wait c.loop-turn._turn c.loop-turn.now e.result c.args.root.now c.loop-turn.root e.new.root
          (tell c.args.clock.now c.args.links.now) (tell c.loop-turn.clock c.loop-turn.links) (tell e.new.clock e.new.links) later c.loop-turn.invariant.0 e.ensures.exchanges,
      latest,
    )
