use Rattle.grasp_types.specs.declared.traffic.Input.TheVariants as input
use Rattle.grasp_shared.specs.Calls.{answered}
use Rattle.grasp_node_main.proofs.RootMaking.{made_one}
use Rattle.grasp_node_main.proofs.exchange.drain_out.Goals as goal

pub returns : goal.returns
returns g c =
    let e = c.root_call-reply.ensures in
    record {
      drained = c.root_call-reply.result;
      made = made_one c.args.shared.now c.args.root.now c.root_call-reply.new.root (answered c.args.now (input.Drain 64) c.root_call-reply.result) e.own.0 e.own.1 e.call;
      hands = c.hand_over.ensures;
    }
