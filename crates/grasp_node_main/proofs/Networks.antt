-- A running node as one of a network.
use Rattle.std.proofs.Common.{◌≡◌, refl, sym, ap, ◌∙◌}
use Rattle.grasp_agent.specs.Calls.{next_call, agent_name, objective_name}
use Rattle.grasp_agent.specs.Replies.{after_reply}
use Rattle.grasp_agent.specs.States.{AgentState, first_agent}
use Rattle.grasp_model_network.specs.Openings.{fresh_seat, answered_seat, opened_seat}
use Rattle.grasp_model_network.specs.World.{Seat}
use Rattle.grasp_model_node.specs.Node.{NodeState, first_node}
use Rattle.grasp_model_node.specs.declared.plan.NodePlan.{NodePlan}
use Rattle.grasp_pool.specs.Holdings.{Holding}
use Rattle.grasp_shared.specs.History.{IsStep}
use Rattle.grasp_types.specs.declared.call.Call.TheVariants as call
use Rattle.grasp_types.specs.declared.reply.ApiAnswer.TheVariants as answer
use Rattle.grasp_node_main.specs.Networks.{NodesOpenAsSeats}
use Rattle.grasp_node_main.specs.Openings.{opening_entry, opened_agent}
use Rattle.grasp_node_main.proofs.Openings.{declaring, listening}

-- a node and the agent of prefixes
abbrev seat : NodeState → AgentState → Seat
seat n a = record { core = n; agent = a }

-- each of the calls leads on
registers : (n m : NodeState) (pool : Holding) → IsStep n (opening_entry 0 (call.RegisterAsa agent_name) (answer.Asa 1)) m → answered_seat (seat n (first_agent pool)) (answer.Asa 1) ≡ seat m (declaring pool)
unfolding answered_seat next_call after_reply
registers n m pool s = ap (λ (x : NodeState). seat x (declaring pool)) (sym s.step.acts.1)

declares : (n m : NodeState) (pool : Holding) → IsStep n (opening_entry 1 (call.RegisterObjective objective_name 3) answer.Done) m → answered_seat (seat n (declaring pool)) answer.Done ≡ seat m (listening pool)
unfolding answered_seat next_call after_reply
declares n m pool s = ap (λ (x : NodeState). seat x (listening pool)) (sym s.step.acts.1)

listens : (n m : NodeState) (pool : Holding) → IsStep n (opening_entry 1 (call.ListenNegotiate objective_name) answer.NotYet) m → answered_seat (seat n (listening pool)) answer.NotYet ≡ seat m (opened_agent pool)
unfolding answered_seat next_call after_reply
listens n m pool s = ap (λ (x : NodeState). seat x (opened_agent pool)) (sym s.step.acts.1)

one_by_one : (plan : NodePlan) (pool : Holding) → opened_seat plan pool ≡ answered_seat (answered_seat (answered_seat (fresh_seat plan pool) (answer.Asa 1)) answer.Done) answer.NotYet
unfolding opened_seat
one_by_one plan pool = refl

pub nodes_open_as_seats : NodesOpenAsSeats
nodes_open_as_seats plan pool opened h =
    one_by_one plan pool
    ∙ ap (λ (x : Seat). answered_seat (answered_seat x answer.Done) answer.NotYet) (registers (first_node plan) h.0 pool h.1)
    ∙ ap (λ (x : Seat). answered_seat x answer.NotYet) (declares h.0 h.2.0 pool h.2.1)
    ∙ listens h.2.0 h.2.2.0 pool h.2.2.1
    ∙ ap (λ (x : NodeState). seat x (opened_agent pool)) (sym h.2.2.2)
