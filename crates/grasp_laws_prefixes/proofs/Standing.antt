-- How what is offered in a network stands: each offer with the stream for which it is.
use Rattle.std.proofs.Common.{◌≡◌, ◌⊎◌, ℕ, List, ◌++◌, length, true, false, Contains, None, Some, slice_get}
use Rattle.grasp_agent.specs.Calls.{objective_name}
use Rattle.grasp_agent.specs.States.{unsent_of}
use Rattle.grasp_session.specs.Conversation.{Said, begun, requested, strip}
use Rattle.grasp_session.specs.Messages.{Side}
use Rattle.grasp_session.specs.Says.{IsAt}
use Rattle.grasp_session.specs.Sessions.{SessionState, Sessions}
use Rattle.grasp_session.specs.Transcript.{is_going}
use Rattle.grasp_types.specs.Prefix.{AddressBlock as Prefix}
use Rattle.grasp_types.specs.declared.session.Handle.{Handle}
use Rattle.grasp_laws_network.specs.Authorities.{Keeps}
use Rattle.grasp_model_network.specs.Settling.{NeverAccepts}
use Rattle.grasp_model_network.specs.Streams.{StreamEnd, StreamState, end_at}
use Rattle.grasp_model_network.specs.World.{Seat, Offered, WorldState, seat_at, end_of, present_life, member_of, is_present}
use Rattle.grasp_laws_agents.specs.GoingOn.{OwnGoOn}
use Rattle.grasp_laws_agents.specs.Giving.{IsOpenOffer, IsOwnSession, OffersIn}
use Rattle.grasp_laws_negotiation.specs.Negotiations.{IsNegotiation}
use Rattle.grasp_laws_prefixes.specs.Apart.{HeldApart, AuthoritiesApart, offer_on}
use Rattle.grasp_laws_prefixes.specs.Known.{HasInDoubt}

-- ---- offers

-- the offer of a prefix that a node is to return and hasn't requested to yet
abbrev pub offer_unsent : ℕ → Prefix → Offered
offer_unsent node p = record { node = node; prefix = p; talk = None }

-- the stream at this place has this end at this side
pub record IsEndAt (ts : List StreamState) (place : ℕ) (side : Side) (e : StreamEnd) : Type 0 where
  pub talk : StreamState
  pub stands : slice_get ts place ≡ Some talk
  pub end_is : end_at talk side ≡ Some e

-- an offer of the prefix for this stream of the life, of which the life is this side, is among these
pub record IsOfferIn (os : List Offered) (w : WorldState) (node : ℕ) (side : Side) (stream : ℕ) (p : Prefix) : Type 0 where
  pub place : ℕ
  pub at : IsEndAt w.streams place side (end_of node stream)
  pub listed : Contains os (offer_on node p place)

-- it is listed
abbrev pub IsOfferedOn : WorldState → ℕ → Side → ℕ → Prefix → Type 0
IsOfferedOn w node side stream p = IsOfferIn w.offers w node side stream p

-- it was settled
abbrev pub WasSettledOn : WorldState → ℕ → Side → ℕ → Prefix → Type 0
WasSettledOn w node side stream p = IsOfferIn w.settled w node side stream p

-- the offer is for a stream of the network on which a negotiation of PrefixManager was requested
pub record IsPlaced (ts : List StreamState) (o : Offered) : Type 0 where
  pub place : ℕ
  pub talk : StreamState
  pub is : o.talk ≡ Some place
  pub stands : slice_get ts place ≡ Some talk
  pub negotiation : IsNegotiation talk
  pub asked : begun (strip talk.said) ≡ true
  pub name : (requested talk.said).name ≡ objective_name

-- and is never accepted there
pub record StaysUnaccepted (w : WorldState) (o : Offered) : Type 0 where
  pub at : IsPlaced w.streams o
  pub never : NeverAccepts w at.talk

-- what is kept of the offers: a member has one of a prefix, in whichever of its lives; each is for a stream or for none, and its life has
-- the prefix reserved or in doubt; what a life that has ended offered, the present one has in doubt; what an agent is to return and hasn't
-- requested to yet is listed without a stream; what a present life offers in a live session is listed for the stream of that session; what
-- is open in a session that is no longer live is listed so, and in doubt there, or was settled; so it is with what is open in a life that
-- has ended; and what was settled is accepted never
pub record OffersAreKnown (w : WorldState) : Type 0 where
  pub once : (o p : Offered) → Contains w.offers o → Contains w.offers p → member_of w o.node ≡ member_of w p.node → o.prefix ≡ p.prefix → o ≡ p
  pub placed : (o : Offered) → Contains w.offers o → IsPlaced w.streams o ⊎ (o.talk ≡ None)
  pub kept : (o : Offered) → Contains w.offers o → Keeps w o.node o.prefix
  pub carried : (o : Offered) → Contains w.offers o → is_present w o.node ≡ false → HasInDoubt w (present_life w (member_of w o.node)) o.prefix
  pub unsent : (node : ℕ) (seat : Seat) → seat_at w node ≡ Some seat → (p : Prefix) → unsent_of seat.agent.back ≡ Some p → Contains w.offers (offer_unsent node p)
  pub offered : (node : ℕ) (seat : Seat) → seat_at w node ≡ Some seat → is_present w node ≡ true → (side : Side) (h : Handle) (p : Prefix) → OffersIn seat.agent side h p
      → (x : SessionState) → IsOwnSession seat.core.sessions h side x → IsOfferedOn w node side x.stream p
  pub gone : (node : ℕ) (seat : Seat) → seat_at w node ≡ Some seat → (x : SessionState) (p : Prefix) → Contains seat.core.sessions.gone x → x.owner ≡ 1 → IsOpenOffer x.view p
      → (IsOfferedOn w node x.view.role x.stream p × Contains seat.agent.pool.doubtful p) ⊎ WasSettledOn w node x.view.role x.stream p
  pub ended : (node : ℕ) (seat : Seat) → seat_at w node ≡ Some seat → is_present w node ≡ false → (place : ℕ) (x : SessionState) (p : Prefix) → IsAt seat.core.sessions place x → x.owner ≡ 1
      → IsOpenOffer x.view p → IsOfferedOn w node x.view.role x.stream p ⊎ WasSettledOn w node x.view.role x.stream p
  pub settled : (o : Offered) → Contains w.settled o → StaysUnaccepted w o

-- all that is kept
pub record PrefixesStand (w : WorldState) : Type 0 where
  pub known : OffersAreKnown w
  pub held : HeldApart w
  pub authorities : AuthoritiesApart w

-- ---- what goes on

-- the stream is at its place, has the ends that it had, and no less was said
pub record Stays (us : List StreamState) (place : ℕ) (t : StreamState) : Type 0 where
  pub after : StreamState
  pub stands : slice_get us place ≡ Some after
  pub ends : (side : Side) (e : StreamEnd) → end_at t side ≡ Some e → end_at after side ≡ Some e
  pub newer : List Said
  pub said : after.said ≡ newer ++ t.said

abbrev pub AllStay : List StreamState → List StreamState → Type 0
AllStay ts us = (place : ℕ) (t : StreamState) → slice_get ts place ≡ Some t → Stays us place t

-- the agent has what it had, and its sessions go on
pub record SeatGoesOn (seat new : Seat) : Type 0 where
  pub pool : new.agent.pool ≡ seat.agent.pool
  pub giving : new.agent.giving ≡ seat.agent.giving
  pub back : new.agent.back ≡ seat.agent.back
  pub sessions : OwnGoOn seat.core.sessions new.core.sessions

-- no agent of prefixes did anything
pub record WorldGoesOn (w y : WorldState) : Type 0 where
  pub offers : y.offers ≡ w.offers
  pub settled : y.settled ≡ w.settled
  pub lives : y.lives ≡ w.lives
  pub count : length y.seats ≡ length w.seats
  pub seats : (node : ℕ) (new : Seat) → seat_at y node ≡ Some new → (seat : Seat) × (seat_at w node ≡ Some seat) × SeatGoesOn seat new
  pub streams : AllStay w.streams y.streams

-- each stream is at its place, and nothing was said on it
abbrev pub NothingSaid : WorldState → WorldState → Type 0
NothingSaid w y = (place : ℕ) (t : StreamState) → slice_get w.streams place ≡ Some t → (u : StreamState) × ((slice_get y.streams place ≡ Some u) × (u.said ≡ t.said))

-- a live session on this stream goes on
pub record IsGoingOn (z : Sessions) (stream : ℕ) : Type 0 where
  pub place : ℕ
  pub session : SessionState
  pub at : IsAt z place session
  pub on : session.stream ≡ stream
  pub going : is_going session.view ≡ true

-- nothing was said, a session that goes on did so before, and a life that is present was so
pub record NothingHappens (w y : WorldState) : Type 0 where
  pub said : NothingSaid w y
  pub going : (life : ℕ) (new : Seat) → seat_at y life ≡ Some new → (stream : ℕ) → IsGoingOn new.core.sessions stream → (seat : Seat) × (seat_at w life ≡ Some seat) × IsGoingOn seat.core.sessions stream
  pub present : (life : ℕ) (seat : Seat) → seat_at w life ≡ Some seat → is_present y life ≡ true → is_present w life ≡ true
