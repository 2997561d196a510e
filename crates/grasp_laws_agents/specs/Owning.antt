-- Whose the live sessions of a node are (RFC 8992, section 5.1).
use Rattle.std.specs.Prelude.{◌≡◌, ◌≢◌, ℕ}
use Rattle.grasp_agent.specs.Calls.{objective_name}
use Rattle.grasp_agent.specs.States.{AgentState}
use Rattle.grasp_model_node.specs.Node.{NodeState}
use Rattle.grasp_session.specs.Says.{IsAt}
use Rattle.grasp_session.specs.Sessions.{SessionState, Sessions}
use Rattle.grasp_session.specs.Transcript.{request_of}
use Rattle.grasp_types.specs.declared.session.Kind.TheVariants.{Negotiation}

-- a session that agent 1 owns is a negotiation whose request names PrefixManager; one that another agent owns has a request with
-- another name; and one that no agent has taken is a negotiation
pub record IsOwned (x : SessionState) : Type 0 where
  pub own : x.owner ≡ 1 → (x.view.kind ≡ Negotiation) × ((request_of x.view).name ≡ objective_name)
  pub foreign : x.owner ≢ 0 → x.owner ≢ 1 → (request_of x.view).name ≢ objective_name
  pub untaken : x.owner ≡ 0 → x.view.kind ≡ Negotiation

-- each live session has the kind and the objective that its owner allows
abbrev pub AreOwned : Sessions → Type 0
AreOwned z = (place : ℕ) (x : SessionState) → IsAt z place x → IsOwned x

abbrev pub OwnsItsSessions : NodeState → AgentState → Type 0
OwnsItsSessions n a = AreOwned n.sessions
