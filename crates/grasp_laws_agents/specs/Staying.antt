-- What leaves the sessions of the agent of prefixes at a node.
use Rattle.std.specs.Prelude.{◌≡◌, ◌≢◌, ◌↔◌, Some}
use Rattle.grasp_session.specs.Messages.{Side}
use Rattle.grasp_session.specs.Sessions.{SessionState, Sessions, session_at}
use Rattle.grasp_types.specs.declared.session.Handle.{Handle}
use Rattle.grasp_types.specs.declared.traffic.Input.{Input}
use Rattle.grasp_types.specs.declared.traffic.Input.TheVariants as input

-- the input isn't a call of agent 1
abbrev pub IsOthers : Input → Type 0
IsOthers (input.Api asa call) = asa ≢ 1
IsOthers (input.Datagram link from bytes) = Unit {0}
IsOthers (input.Opened stream from) = Unit {0}
IsOthers (input.Bytes stream bytes) = Unit {0}
IsOthers (input.Closed stream) = Unit {0}
IsOthers (input.Drain max) = Unit {0}

-- a live session of agent 1 has this handle, and the node is this end of it
pub record IsOwn (z : Sessions) (h : Handle) (side : Side) : Type 0 where
  pub session : SessionState
  pub at : session_at z h ≡ Some session
  pub owner : session.owner ≡ 1
  pub role : session.view.role ≡ side

-- agent 1 has the same live sessions
abbrev pub OwnStay : Sessions → Sessions → Type 0
OwnStay z w = (h : Handle) (side : Side) → IsOwn z h side ↔ IsOwn w h side
