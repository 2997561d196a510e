-- For which streams prefixes in doubt are listed, and what was offered there (RFC 8992, section 4.2).
use Rattle.std.specs.Prelude.{◌≡◌, ◌⊎◌, ℕ, false, Contains, Some, slice_get}
use Rattle.grasp_laws_agents.specs.Giving.{HasOffered}
use Rattle.grasp_model_network.specs.Runs.{IsReached}
use Rattle.grasp_model_network.specs.Setting.{Setting}
use Rattle.grasp_model_network.specs.Streams.{StreamState, end_at}
use Rattle.grasp_model_network.specs.World.{Offered, Seat, WorldState, end_of, is_present, seat_at}
use Rattle.grasp_session.specs.Says.{IsAt}
use Rattle.grasp_session.specs.Sessions.{SessionState, Sessions}

-- the session is no longer live, or it stands in a life that has ended
abbrev pub IsOver : WorldState → ℕ → Sessions → SessionState → Type 0
IsOver w life z x = Contains z.gone x ⊎ ((is_present w life ≡ false) × ((at : ℕ) × IsAt z at x))

-- The offer was made in a session of the agent that is over, on the stream at this place, of which the session's life is that end: its prefix is the
-- last that was offered in the session
pub record WasOffered (w : WorldState) (seat : Seat) (o : Offered) (place : ℕ) : Type 0 where
  pub session : SessionState
  pub owner : session.owner ≡ 1
  pub over : IsOver w o.node seat.core.sessions session
  pub talk : StreamState
  pub stands : slice_get w.streams place ≡ Some talk
  pub ends : end_at talk session.view.role ≡ Some (end_of o.node session.stream)
  pub last : HasOffered session.view o.prefix

-- the offer is listed for the stream at this place, and the life that made it has its prefix in doubt, or has ended
pub record IsDoubted (w : WorldState) (seat : Seat) (o : Offered) (place : ℕ) : Type 0 where
  pub listed : Contains w.offers o
  pub on : o.talk ≡ Some place
  pub here : seat_at w o.node ≡ Some seat
  pub doubt : Contains seat.agent.pool.doubtful o.prefix ⊎ (is_present w o.node ≡ false)

-- in every network that turns lead to, each such offer was made so
abbrev pub DoubtedWereOffered : Type 0
DoubtedWereOffered = (s : Setting) (w : WorldState) → IsReached s w → (seat : Seat) (o : Offered) (place : ℕ) → IsDoubted w seat o place → WasOffered w seat o place

-- ---- one for each stream

-- at most one offer is listed for a stream
abbrev pub OneOfferAStream : Type 0
OneOfferAStream = (s : Setting) (w : WorldState) → IsReached s w → (o p : Offered) (place : ℕ) → Contains w.offers o → Contains w.offers p → o.talk ≡ Some place → p.talk ≡ Some place → o ≡ p
