use Rattle.grasp_core.proofs.Heard.{on_ok}
use Rattle.grasp_core.proofs.node_core.NodeCore.serve.Goals as goal

pub returns-clause-ok : goal.returns-clause-ok
returns-clause-ok c = on_ok c.hear_and_dial.result (λ f n h. rw (c.in_ok-response.ensures n h) at (f n h)) c.hear_and_dial.ensures.ok
