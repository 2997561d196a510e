use Rattle.std.proofs.Common.{ap, ◌∙◌, cond, []}
use Rattle.grasp_shared.specs.Calls.{answered}
use Rattle.grasp_node_main.specs.Turns.{closings, is_away}
use Rattle.grasp_node_main.proofs.RootMaking.{made_one}
use Rattle.grasp_node_main.proofs.exchange.give_in.Goals as goal

pub returns : goal.returns
returns g c =
    let e = c.root_call-reply.ensures in
    record {
      reply = c.root_call-reply.result;
      made = made_one c.args.shared.now c.args.root.now c.root_call-reply.new.root (answered c.args.now c.args.input c.root_call-reply.result) e.own.0 e.own.1 e.call;
      away_is = c.away_of.ensures ∙ ap (λ stream. cond (is_away c.root_call-reply.result) (closings stream) []) c.opened-stream.ensures;
    }
