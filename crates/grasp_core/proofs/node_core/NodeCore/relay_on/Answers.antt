use Rattle.std.proofs.Common.{arith}
use Rattle.std.proofs.lemmas.Bool.{le-leb}
use Rattle.grasp_core.proofs.Came.{relayed}
use Rattle.grasp_core.proofs.Heard.{on_ok}
use Rattle.grasp_core.proofs.node_core.NodeCore.relay_on.Goals as goal

pub returns-clause-ok : goal.returns-clause-ok
returns-clause-ok c =
    on_ok c.hear_and_relay.result (λ f n h. relayed _ n c.args.cause c.args.session c.args.initiator c.args.objective.now c.in_ok-discovery.discovery _ (le-leb 2 c.args.objective.now.loops (omega (arith, c.if-objective-lt2.false))) c.in_ok-discovery.ensures (f n h)) c.hear_and_relay.ensures.ok
