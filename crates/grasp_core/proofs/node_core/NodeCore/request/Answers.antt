use Rattle.grasp_core.proofs.Heard.{unheard_request}
use Rattle.grasp_core.proofs.node_core.NodeCore.request.Goals as goal

pub returns-then-not-is_listened_for-clause-ok : goal.returns-then-not-is_listened_for-clause-ok
returns-then-not-is_listened_for-clause-ok c = λ n h.
    unheard_request c.decline.new.self n c.args.stream c.args.session c.args.objective c.is_listened_for.result c.args.self.now.registry c.is_listened_for.ensures h.registrations c.if-not-is_listened_for.true (c.in_ok-decline.ensures.ok n h)
