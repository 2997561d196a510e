use Rattle.std.proofs.Common.{◌∙◌, sym}
use Rattle.grasp_core.proofs.Came.{served, passed}
use Rattle.grasp_core.proofs.Heard.{on_ok}
use Rattle.grasp_core.proofs.node_core.NodeCore.discovery_heard.Goals as goal

pub returns-then-serves-clause-ok : goal.returns-then-serves-clause-ok
returns-then-serves-clause-ok c =
    on_ok c.serve.result (λ f n h. served _ n c.args.cause c.args.neighbour c.args.session c.args.initiator c.args.objective.now _ (rw h.registrations at (sym c.serves.ensures ∙ c.if-serves.true)) (f n h)) c.serve.ensures.ok

pub returns-clause-ok : goal.returns-clause-ok
returns-clause-ok c =
    on_ok c.pass_on.result (λ f n h. passed _ n c.args.cause c.args.neighbour c.args.session c.args.initiator c.args.objective.now _ (rw h.registrations at (sym c.serves.ensures ∙ c.if-serves.false)) (f n h)) c.pass_on.ensures.ok
