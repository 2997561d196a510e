use Rattle.std.proofs.Common.{◌≡◌, ap, subst, ◌∙◌}
use Rattle.grasp_types.specs.declared.message.Message.{Message}
use Rattle.grasp_model_node.specs.Answered.{if_answered}
use Rattle.grasp_model_node.specs.Draws.{next_session}
use Rattle.grasp_model_node.specs.Node.{NodeState}
use Rattle.grasp_core.specs.Outgoing.{dialled}
use Rattle.grasp_model_node.specs.SessionCalls.{request_of}
use Rattle.grasp_core.specs.Stands.{NodeStands}
use Rattle.grasp_core.proofs.Dialling.{requested_is}
use Rattle.grasp_core.proofs.node_core.NodeCore.begin_request.Goals as goal

pub returns-in-Ok-clause-after : goal.returns-in-Ok-clause-after
returns-in-Ok-clause-after c = λ n h.
    let message : c.in-Ok.ready.message ≡ request_of c.args.kind (next_session n) c.args.objective =
    c.in-Ok.ensures.same ∙ (c.request_of-message.ensures.is ∙ ap (λ s. request_of c.args.kind s c.args.objective) (c.next_session-session.ensures n h)) in
    subst (λ (after : NodeState). NodeStands c.dial_request.new.self (if_answered n after c.dial_request.result))
    (ap (λ (m : Message). dialled n c.args.asa c.args.timeout c.args.peer m) message ∙ requested_is n c.args.asa c.args.kind c.args.timeout c.args.objective c.args.peer)
    (c.dial_request.ensures.after n h)
