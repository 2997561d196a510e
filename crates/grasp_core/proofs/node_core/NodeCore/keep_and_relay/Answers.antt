use Rattle.std.proofs.lemmas.Bool.{le-leb}
use Rattle.grasp_model_node.specs.Datagrams.{loops_of}
use Rattle.grasp_core.proofs.Came.{sent_kept}
use Rattle.grasp_core.proofs.Heard.{on_ok}
use Rattle.grasp_core.proofs.node_core.NodeCore.keep_and_relay.Goals as goal

pub returns-clause-ok : goal.returns-clause-ok
returns-clause-ok c =
    on_ok c.keep_and_send.result (λ f n h. sent_kept _ n c.args.link c.args.session c.args.initiator c.args.ttl c.args.parts.now c.in_ok-flood.flood _ (le-leb 2 (loops_of c.args.parts.now) c.requires) c.in_ok-flood.ensures (f n h)) c.keep_and_send.ensures.ok
