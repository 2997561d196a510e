-- How the sessions of an agent of prefixes leave.
use Rattle.std.specs.Prelude.{◌≡◌, ◌⊎◌, ℕ, Some, Contains}
use Rattle.grasp_agent.specs.Calls.{next_call}
use Rattle.grasp_laws_owned.specs.Laws.{WasPolled}
use Rattle.grasp_model_network.specs.EventSteps.{agent_input}
use Rattle.grasp_model_network.specs.Runs.{IsReached}
use Rattle.grasp_model_network.specs.Setting.{Setting}
use Rattle.grasp_model_network.specs.World.{Seat, WorldState, seat_at}
use Rattle.grasp_model_node.specs.Begin.{begin}
use Rattle.grasp_model_node.specs.Node.{NodeState}
use Rattle.grasp_model_node.specs.Step.{Coming, NodeStep}
use Rattle.grasp_session.specs.Sessions.{SessionState}
use Rattle.grasp_types.specs.declared.reply.Reply.{Reply}

-- in every network that turns lead to, a session of agent 1 that is no longer live after the agent's next call was so before, or the call was its
-- poll, and told its outcome
abbrev pub AgentsLeaveByPolls : Type 0
AgentsLeaveByPolls = (s : Setting) (w : WorldState) → IsReached s w → (node : ℕ) (seat : Seat) → seat_at w node ≡ Some seat
    → (now : ℕ) (x : Coming) (r : Reply) (after : NodeState) → NodeStep seat.core now (agent_input seat.agent) x r after
    → (y : SessionState) → y.owner ≡ 1 → Contains after.sessions.gone y → Contains seat.core.sessions.gone y ⊎ WasPolled (begin seat.core now) (next_call seat.agent) r y
