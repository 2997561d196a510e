-- The sessions of the nodes of a network and their streams: each session that was made is that of one side of one stream (RFC 8990, section 2.5.5).
use Rattle.std.specs.Prelude.{◌≡◌, ℕ, Some, slice_get}
use Rattle.grasp_session.specs.Messages.{Side}
use Rattle.grasp_session.specs.Runs.{WasMade}
use Rattle.grasp_session.specs.Sessions.{SessionState, Sessions}
use Rattle.grasp_types.specs.declared.session.Kind.TheVariants.{Negotiation}
use Rattle.grasp_model_network.specs.Runs.{IsReached}
use Rattle.grasp_model_network.specs.Setting.{Setting}
use Rattle.grasp_model_network.specs.Streams.{StreamState, end_at}
use Rattle.grasp_laws_network.specs.Views.{session_of_end}
use Rattle.grasp_model_network.specs.World.{Seat, WorldState, seat_at, end_of}
use Rattle.grasp_laws_negotiation.specs.Negotiations.{IsNegotiation}

-- two sessions that were made on one stream have one number
abbrev pub StreamsDiffer : Sessions → Type 0
StreamsDiffer z = (x y : SessionState) → WasMade z x → WasMade z y → x.stream ≡ y.stream → x.number ≡ y.number

-- the session is that of a side of a stream of the network; where it is a negotiation, so is the stream
pub record HasItsStream (w : WorldState) (node : ℕ) (x : SessionState) : Type 0 where
  pub place : ℕ
  pub talk : StreamState
  pub side : Side
  pub stands : slice_get w.streams place ≡ Some talk
  pub ends : end_at talk side ≡ Some (end_of node x.stream)
  pub found : session_of_end w (end_at talk side) ≡ Some x
  pub role : x.view.role ≡ side
  pub request : x.view.kind ≡ Negotiation → IsNegotiation talk

-- in every network that turns lead to, each session that a node has made has its stream, and two of a node on one stream have one
-- number
pub record SessionsHaveStreams : Type 0 where
  pub differ : (s : Setting) (w : WorldState) → IsReached s w → (node : ℕ) (seat : Seat) → seat_at w node ≡ Some seat → StreamsDiffer seat.core.sessions
  pub each : (s : Setting) (w : WorldState) → IsReached s w → (node : ℕ) (seat : Seat) → seat_at w node ≡ Some seat
      → (x : SessionState) → WasMade seat.core.sessions x → HasItsStream w node x
