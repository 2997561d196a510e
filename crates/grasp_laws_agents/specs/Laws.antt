-- What is so of the agent of prefixes at each node of every network that turns lead to.
use Rattle.std.specs.Prelude.{◌≡◌, ℕ, Some}
use Rattle.grasp_agent.specs.Kept.{IsKept}
use Rattle.grasp_model_node.specs.Node.{NodeState}
use Rattle.grasp_model_node.specs.Step.{Coming, NodeStep}
use Rattle.grasp_model_network.specs.Runs.{IsReached}
use Rattle.grasp_model_network.specs.Setting.{Setting}
use Rattle.grasp_model_network.specs.World.{Seat, WorldState, seat_at}
use Rattle.grasp_types.specs.declared.reply.Reply.{Reply}
use Rattle.grasp_types.specs.declared.traffic.Input.{Input}
use Rattle.grasp_model_node.specs.Begin.{begin}
use Rattle.grasp_laws_agents.specs.GoingOn.{OwnGoOn, GoneAreOwned}
use Rattle.grasp_laws_agents.specs.Owning.{OwnsItsSessions}
use Rattle.grasp_laws_agents.specs.Serving.{OfEachSeat, Serves}
use Rattle.grasp_laws_agents.specs.Staying.{IsOthers, OwnStay}

-- each agent serves, and its objective is its own
abbrev pub AgentsServe : Type 0
AgentsServe = (s : Setting) (w : WorldState) → IsReached s w → OfEachSeat Serves w

-- each live session is whose it may be
abbrev pub SessionsAreOwned : Type 0
SessionsAreOwned = (s : Setting) (w : WorldState) → IsReached s w → OfEachSeat OwnsItsSessions w

-- whatever comes to a node but a call of agent 1, this agent has the same live sessions after
abbrev pub OwnSessionsStay : Type 0
OwnSessionsStay = (s : Setting) (w : WorldState) → IsReached s w → (node : ℕ) (seat : Seat) → seat_at w node ≡ Some seat
    → (now : ℕ) (i : Input) (x : Coming) (r : Reply) (after : NodeState) → IsOthers i → NodeStep seat.core now i x r after → OwnStay seat.core.sessions after.sessions

-- what each agent has reserved is exactly what it returns and what its giving entries offer, each once; an offer that isn't made yet is that
-- of its entry
abbrev pub AgentsAreKept : Type 0
AgentsAreKept = (s : Setting) (w : WorldState) → IsReached s w → OfEachSeat (λ n a. IsKept a) w

-- whatever comes but a call of agent 1, its sessions go on and it says nothing in them; so it is when a step begins
pub record OwnSessionsGoOn : Type 0 where
  pub steps : (s : Setting) (w : WorldState) → IsReached s w → (node : ℕ) (seat : Seat) → seat_at w node ≡ Some seat
      → (now : ℕ) (i : Input) (x : Coming) (r : Reply) (after : NodeState) → IsOthers i → NodeStep seat.core now i x r after → OwnGoOn seat.core.sessions after.sessions
  pub begins : (n : NodeState) (now : ℕ) → OwnGoOn n.sessions (begin n now).sessions

-- each session that is no longer live was whose it might be
abbrev pub GoneSessionsAreOwned : Type 0
GoneSessionsAreOwned = (s : Setting) (w : WorldState) → IsReached s w → OfEachSeat (λ n a. GoneAreOwned n.sessions) w
