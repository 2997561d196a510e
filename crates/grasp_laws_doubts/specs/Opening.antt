-- Who opened the sessions in which an agent of prefixes gives, as its node's doubter keeps it.
use Rattle.std.specs.Prelude.{◌≡◌, ℕ, List, Contains, Some, slice_get}
use Rattle.grasp_doubter.specs.States.{DoubterState}
use Rattle.grasp_doubter.specs.declared.seen.Opener.{Opener}
use Rattle.grasp_session.specs.Runs.{WasMade}
use Rattle.grasp_session.specs.Sessions.{SessionState, Sessions}
use Rattle.grasp_types.specs.declared.address.Address.{Address}
use Rattle.grasp_model_network.specs.Streams.{StreamState}
use Rattle.grasp_model_network.specs.World.{Seat, WorldState, end_of, seat_at}
use Rattle.grasp_laws_doubts.specs.Standing.{OfEachDoubter}

-- the stream was dialled by a node of this address
pub record IsDialledBy (w : WorldState) (t : StreamState) (a : Address) : Type 0 where
  pub dialler : Seat
  pub dialled : seat_at w t.near.node ≡ Some dialler
  pub address : dialler.core.plan.address ≡ a

-- a session of this number was made for the agent of prefixes of this node, on a stream that was opened there and dialled by a node of this address
pub record IsOpenedBy (w : WorldState) (node : ℕ) (z : Sessions) (o : Opener) : Type 0 where
  pub session : SessionState
  pub made : WasMade z session
  pub number : session.number ≡ o.handle.number
  pub owner : session.owner ≡ 1
  pub place : ℕ
  pub talk : StreamState
  pub stands : slice_get w.streams place ≡ Some talk
  pub far : talk.far ≡ Some (end_of node session.stream)
  pub by : IsDialledBy w talk o.address

-- so it is with what each doubter keeps
abbrev pub OpenersStand : WorldState → List DoubterState → Type 0
OpenersStand w ds = OfEachDoubter (λ node seat d. (o : Opener) → Contains d.openers o → IsOpenedBy w node seat.core.sessions o) w ds
