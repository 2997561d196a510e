use Rattle.grasp_types.specs.declared.traffic.Input.TheVariants as input
use Rattle.grasp_shared.specs.Calls.{answered}
use Rattle.grasp_node_main.proofs.RootMaking.{made_one}
use Rattle.grasp_node_main.proofs.exchange.drain_last.Goals as goal

pub returns : goal.returns
returns g c =
    let e = c.in-Ok.ensures in
    record {
      drained = c.in-Ok.reply;
      made = made_one c.args.shared.now c.args.root.now _ (answered c.args.now (input.Drain 320) c.in-Ok.reply) e.own.0 e.own.1 e.call;
      hands = c.hand_over.ensures;
    }
