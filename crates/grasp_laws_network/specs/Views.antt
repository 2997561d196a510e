-- What the two ends of a stream saw: the view of a side is looked up at its node, live or gone (RFC 8990, section 2.5.5).
use Rattle.std.specs.Prelude.{ℕ, ◌==◌, ◌&&◌, Bool, List, ◌++◌, Option, None, Some, find, flat_map, option_to_list, if◌then◌else◌}
use Rattle.std.specs.List.{list_any}
use Rattle.grasp_model_node.specs.Node.{NodeState}
use Rattle.grasp_session.specs.Conversation.{Said}
use Rattle.grasp_session.specs.Messages.{Side, is_side, is_end}
use Rattle.grasp_session.specs.Sessions.{SessionState, Sessions}
use Rattle.grasp_session.specs.Talk.{Stage, Absent, Refused, Present}
use Rattle.grasp_session.specs.Transcript.{Transcript}
use Rattle.grasp_model_network.specs.Streams.{StreamEnd, StreamState, end_at}
use Rattle.grasp_model_network.specs.World.{Seat, WorldState, seat_at}

-- all sessions that a node has made, those that are live first
abbrev pub all_sessions : Sessions → List SessionState
all_sessions z = flat_map option_to_list z.places ++ z.gone

abbrev pub session_on : ℕ → NodeState → Option SessionState
session_on stream n = find (λ x. x.stream == stream) (all_sessions n.sessions)

abbrev pub session_in : StreamEnd → Option Seat → Option SessionState
session_in e None = None
session_in e (Some seat) = session_on e.number seat.core

-- the session that was made on the stream of this end
abbrev pub session_of_end : WorldState → Option StreamEnd → Option SessionState
session_of_end w None = None
session_of_end w (Some e) = session_in e (seat_at w e.node)

-- this side said an end message, as a side that declines without a session does
abbrev pub has_ended : Side → List Said → Bool
has_ended side said = list_any (λ x. is_side side x.side && is_end x.message) said

abbrev pub stage_by : StreamState → Side → Option SessionState → Stage
stage_by t side (Some x) = Present x.view
stage_by t side None = if has_ended side t.said then Refused else Absent

-- how this side of the stream stands in its conversation: it has a view, it declined without one, or neither
abbrev pub stage_at : WorldState → StreamState → Side → Stage
stage_at w t side = stage_by t side (session_of_end w (end_at t side))

abbrev pub view_in : Option SessionState → Option Transcript
view_in None = None
view_in (Some x) = Some x.view

-- what this side saw, where it had a session
abbrev pub view_at : WorldState → StreamState → Side → Option Transcript
view_at w t side = view_in (session_of_end w (end_at t side))
