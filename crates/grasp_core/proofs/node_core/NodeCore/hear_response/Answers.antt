use Rattle.grasp_core.proofs.Heard.{responds, on_ok}
use Rattle.grasp_core.proofs.node_core.NodeCore.hear_response.Goals as goal

pub returns-in-Relay-clause-ok : goal.returns-in-Relay-clause-ok
returns-in-Relay-clause-ok c =
    on_ok c.send_on.result (λ f n h. responds _ n c.args.session c.args.initiator c.args.ttl c.args.answer.now c.args.response.now _ (rw (h.plan, h.discoveries) at c.in-Relay.ensures) (f n h)) c.send_on.ensures.ok

pub returns-in-Mine-clause-ok : goal.returns-in-Mine-clause-ok
returns-in-Mine-clause-ok c =
    on_ok c.keep.result (λ f n h. responds _ n c.args.session c.args.initiator c.args.ttl c.args.answer.now c.args.response.now _ (rw (h.plan, h.discoveries) at c.in-Mine.ensures) (f n h)) c.keep.ensures.ok

pub returns-in-Stranger-clause-ok : goal.returns-in-Stranger-clause-ok
returns-in-Stranger-clause-ok c =
    on_ok c.keep-in-Stranger.result (λ f n h. responds _ n c.args.session c.args.initiator c.args.ttl c.args.answer.now c.args.response.now _ (rw (h.plan, h.discoveries) at c.in-Stranger.ensures) (f n h)) c.keep-in-Stranger.ensures.ok
