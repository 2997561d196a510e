-- What a settling gives back and when a prefix may be settled, and for which stream an offer of any life is listed (RFC 8992, sections 4.1 and 4.2).
use Rattle.std.specs.Prelude.{◌≡◌, ◌⊎◌, ℕ, Contains, Some, slice_get}
use Rattle.grasp_laws_agents.specs.Giving.{IsOwnSession, OffersIn}
use Rattle.grasp_laws_network.specs.Authorities.{Holds}
use Rattle.grasp_laws_prefixes.specs.Known.{HasInDoubt, IsListedFor, WasSettledFor}
use Rattle.grasp_model_network.specs.Runs.{IsReached}
use Rattle.grasp_model_network.specs.Setting.{Setting}
use Rattle.grasp_model_network.specs.Settling.{NeverAccepts, IsDead, after_settle}
use Rattle.grasp_model_network.specs.Streams.{StreamState}
use Rattle.grasp_model_network.specs.World.{Offered, Seat, WorldState, member_of, present_life, seat_at}
use Rattle.grasp_session.specs.Messages.{Side}
use Rattle.grasp_session.specs.Sessions.{SessionState}
use Rattle.grasp_types.specs.Prefix.{AddressBlock as Prefix, span_of}
use Rattle.grasp_types.specs.declared.session.Handle.{Handle}

-- after a settling, the life that settled the prefix holds each address of it
abbrev pub SettledAreHeld : Type 0
SettledAreHeld = (s : Setting) (w : WorldState) → IsReached s w → (node : ℕ) (p : Prefix) → IsDead w node p → (a : ℕ) → span_of p a → Holds (after_settle w node p) (present_life w node) a

-- what is listed for a stream on which it is never accepted, and is in doubt at the present life of its member, may be settled there
abbrev pub DeadAreFound : Type 0
DeadAreFound = (s : Setting) (w : WorldState) → IsReached s w → (o : Offered) → Contains w.offers o → (place : ℕ) (talk : StreamState) → o.talk ≡ Some place → slice_get w.streams place ≡ Some talk
    → HasInDoubt w (present_life w (member_of w o.node)) o.prefix → NeverAccepts w talk → IsDead w (member_of w o.node) o.prefix

-- what the agent of a life, present or ended, offers in a session is listed for the stream of that session, or was settled
abbrev pub FormerOffersAreKnown : Type 0
FormerOffersAreKnown = (s : Setting) (w : WorldState) → IsReached s w → (life : ℕ) (seat : Seat) → seat_at w life ≡ Some seat → (side : Side) (h : Handle) (p : Prefix) → OffersIn seat.agent side h p
    → (x : SessionState) → IsOwnSession seat.core.sessions h side x → IsListedFor w life side x.stream p ⊎ WasSettledFor w life side x.stream p
