-- Which sessions an agent of prefixes has requested (RFC 8992, section 4.1).
use Rattle.std.specs.Prelude.{◌≡◌, None, Some}
use Rattle.grasp_agent.specs.States.{AgentState, want_session}
use Rattle.grasp_agent.specs.Values.{returned_in}
use Rattle.grasp_laws_agents.specs.Giving.{IsOwnSession}
use Rattle.grasp_laws_agents.specs.Serving.{OfEachSeat}
use Rattle.grasp_model_network.specs.Runs.{IsReached}
use Rattle.grasp_model_network.specs.Setting.{Setting}
use Rattle.grasp_model_network.specs.World.{WorldState}
use Rattle.grasp_model_node.specs.Node.{NodeState}
use Rattle.grasp_session.specs.Messages.{Near}
use Rattle.grasp_session.specs.Sessions.{SessionState}
use Rattle.grasp_session.specs.Transcript.{request_of}
use Rattle.grasp_types.specs.declared.session.Handle.{Handle}

-- a live session of agent 1 that the node requested, and whose request gives nothing back, is that of its want
abbrev pub RequestedAreWants : NodeState → AgentState → Type 0
RequestedAreWants n a = (h : Handle) (x : SessionState) → IsOwnSession n.sessions h Near x → returned_in (request_of x.view).value ≡ None → want_session a.want ≡ Some h

-- so it is at each node of every network that turns lead to
abbrev pub RequestedSessionsAreWants : Type 0
RequestedSessionsAreWants = (s : Setting) (w : WorldState) → IsReached s w → OfEachSeat RequestedAreWants w
