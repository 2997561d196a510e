-- To which sessions an agent of prefixes attends (RFC 8992, sections 4.1 and 4.2).
use Rattle.std.specs.Prelude.{◌≡◌, ◌⊎◌, ℕ, Some, slice_get}
use Rattle.grasp_agent.specs.States.{AgentState, back_session, want_session}
use Rattle.grasp_agent.specs.declared.giving.Giving.{Giving}
use Rattle.grasp_laws_agents.specs.Serving.{OfEachSeat}
use Rattle.grasp_model_network.specs.Runs.{IsReached}
use Rattle.grasp_model_network.specs.Setting.{Setting}
use Rattle.grasp_model_network.specs.World.{WorldState}
use Rattle.grasp_model_node.specs.Node.{NodeState}
use Rattle.grasp_session.specs.Sessions.{SessionState, session_at}
use Rattle.grasp_types.specs.declared.session.Handle.{Handle}

-- the agent has an entry for the session among those in which it gives
pub record IsEntrys (a : AgentState) (h : Handle) : Type 0 where
  pub place : ℕ
  pub entry : Giving
  pub at : slice_get a.giving place ≡ Some entry
  pub handle : entry.handle ≡ h

-- the session is that of the agent's want, that of its return, or one in which it gives
abbrev pub IsDuty : AgentState → Handle → Type 0
IsDuty a h = (want_session a.want ≡ Some h) ⊎ ((back_session a.back ≡ Some h) ⊎ IsEntrys a h)

-- so is each live session of agent 1
abbrev pub OwnAreDuties : NodeState → AgentState → Type 0
OwnAreDuties n a = (h : Handle) (x : SessionState) → session_at n.sessions h ≡ Some x → x.owner ≡ 1 → IsDuty a h

-- at each node of every network that turns lead to
abbrev pub OwnSessionsAreDuties : Type 0
OwnSessionsAreDuties = (s : Setting) (w : WorldState) → IsReached s w → OfEachSeat OwnAreDuties w
