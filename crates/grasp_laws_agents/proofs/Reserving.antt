-- What an agent of prefixes has reserved is what it offers, in every network that turns lead to.
use Rattle.std.proofs.Common.{◌≡◌, refl, subst, List, [], ◌∷◌, All}
use Rattle.std.proofs.lemmas.List.Elements.{All-nil, All-cons}
use Rattle.grasp_laws_agent.proofs.LawKept as agents
use Rattle.grasp_laws_agent.proofs.LawKept.{kept_event, kept_reply}
use Rattle.grasp_laws_agent.proofs.Retiring.{agents_retire, settling_keeps}
use Rattle.grasp_agent.specs.Kept.{IsKept}
use Rattle.grasp_agent.specs.Laws.{IsPossible}
use Rattle.grasp_agent.specs.Replies.{AgentEvent, replied, agent_after}
use Rattle.grasp_agent.specs.States.{AgentState}
use Rattle.grasp_model_node.specs.Node.{NodeState}
use Rattle.grasp_model_node.specs.declared.plan.NodePlan.{NodePlan}
use Rattle.grasp_pool.specs.Holdings.{Holding}
use Rattle.grasp_pool.specs.Pools.{IsPool}
use Rattle.grasp_types.specs.declared.reply.ApiAnswer.TheVariants as answer
use Rattle.grasp_types.specs.declared.reply.Reply.TheVariants as reply
use Rattle.grasp_model_network.specs.Openings.{opened_seat, answered_seat}
use Rattle.grasp_laws_agents.proofs.EachSeat.{Keeps, reached_seats}
use Rattle.grasp_laws_agents.specs.Laws.{AgentsAreKept}

-- ---- the beginning of a life

opening : List AgentEvent
opening = replied (reply.Api (answer.Asa 1)) ∷ replied (reply.Api answer.Done) ∷ replied (reply.Api answer.NotYet) ∷ []

all_possible : All (λ e. IsPossible e) opening
unfolding opening
all_possible =
    All-cons (λ e. IsPossible e) (replied (reply.Api (answer.Asa 1))) (replied (reply.Api answer.Done) ∷ replied (reply.Api answer.NotYet) ∷ []) tt
    (All-cons (λ e. IsPossible e) (replied (reply.Api answer.Done)) (replied (reply.Api answer.NotYet) ∷ []) tt
    (All-cons (λ e. IsPossible e) (replied (reply.Api answer.NotYet)) [] tt (All-nil (λ e. IsPossible e))))

opened_agent_is : (plan : NodePlan) (h : Holding) → agent_after h opening ≡ (opened_seat plan h).agent
unfolding opening opened_seat answered_seat
opened_agent_is plan h = refl

pub opened_kept : (plan : NodePlan) (h : Holding) → IsPool h → h.reserved ≡ [] → IsKept (opened_seat plan h).agent
opened_kept plan h pool none = subst IsKept (opened_agent_is plan h) (agents.agents_are_kept h opening pool none all_possible)

-- ---- all of it

kept_keeps : Keeps (λ (n : NodeState) (a : AgentState). IsKept a)
kept_keeps = record {
  others = λ n after a now i x r k o step. k;
  own = λ n after a now x r k step. kept_reply a r k;
  told = λ n a e possible other k. kept_event a e possible k;
  settles = λ n a p has k. settling_keeps a p k has;
  retires = λ n a k. (agents_retire a).kept k;
  opens = opened_kept;
}

pub agents_are_kept : AgentsAreKept
agents_are_kept s w r = reached_seats (λ n a. IsKept a) kept_keeps s w r
