-- How the sessions of the agent of prefixes at a node stand with what it offers and wants (RFC 8992, sections 4.1 and 4.2).
use Rattle.std.specs.Prelude.{◌≡◌, ◌⊎◌, ℕ, ◌==◌, Bool, true, false, Option, None, Some, slice_get}
use Rattle.grasp_agent.specs.States.{AgentState, want_session}
use Rattle.grasp_agent.specs.Values.{offered_in, returned_in}
use Rattle.grasp_cbor.specs.DataItem.{DataItem}
use Rattle.grasp_agent.specs.declared.act.Act.{Act}
use Rattle.grasp_agent.specs.declared.act.Act.TheVariants as act
use Rattle.grasp_agent.specs.declared.back.Return.{Return}
use Rattle.grasp_agent.specs.declared.giving.Giving.{Giving}
use Rattle.grasp_model_network.specs.Accepting.{is_return, offering_by}
use Rattle.grasp_model_node.specs.Node.{NodeState}
use Rattle.grasp_session.specs.Conversation.{answered, accepted_by, ended, has_offered, turn}
use Rattle.grasp_session.specs.Messages.{Side, Near, Far, other}
use Rattle.grasp_session.specs.Runs.{WasMade}
use Rattle.grasp_session.specs.Sessions.{SessionState, Sessions, session_at}
use Rattle.grasp_session.specs.Transcript.{Transcript, known, my_offer, peer_offer, request_of}
use Rattle.grasp_types.specs.Prefix.{AddressBlock as Prefix}
use Rattle.grasp_types.specs.declared.session.Handle.{Handle}

-- ---- what a transcript tells of an offer

-- what an end offers by a value: the one that requests offers what it gives back, and the other one what it gives
abbrev pub offered_by : Side → Option DataItem → Option Prefix
offered_by Near value = returned_in value
offered_by Far value = offered_in value

-- the last request or step of this end offers this prefix
pub record HasOffered (v : Transcript) (p : Prefix) : Type 0 where
  pub made : has_offered v.role (known v) ≡ true
  pub offer : offered_by v.role (my_offer v).value ≡ Some p

-- the last offer of this end is this prefix, and it has kept no step and no end of the other since
pub record IsOpenOffer (v : Transcript) (p : Prefix) : Type 0 where
  pub offered : HasOffered v p
  pub unanswered : answered v.role (known v) ≡ false

-- as far as it knows, the turn is its own and nothing has ended
pub record IsDeciding (v : Transcript) : Type 0 where
  pub mine : turn (known v) ≡ v.role
  pub no_end : ended (known v) ≡ false

-- the newest message that it knows is no acceptance, and the turn is its own or that message is an end: so it knows the whole
pub record IsUnaccepted (v : Transcript) : Type 0 where
  pub whole : (turn (known v) ≡ v.role) ⊎ (ended (known v) ≡ true)
  pub no_acceptance : (side : Side) → accepted_by side (known v) ≡ false

-- ---- the sessions in which the agent gives

-- an offer is decided in the giving entry at this place, and isn't made yet
abbrev pub is_offering : Option Act → ℕ → Bool
is_offering None place = false
is_offering (Some (act.Offer at h p)) place = at == place
is_offering (Some (act.Counter h n)) place = false
is_offering (Some (act.Accept h p)) place = false
is_offering (Some (act.Decline h reason)) place = false

-- while an offer is decided and not made yet, the session is deciding and wasn't asked to take a prefix back; what an entry offers is the
-- last offer of its session; and one without an offer leaves none open
abbrev pub OfferStands : Bool → Option Prefix → Transcript → Type 0
OfferStands true offer v = IsDeciding v × (returned_in (request_of v).value ≡ None)
OfferStands false (Some p) v = HasOffered v p
OfferStands false None v = (p : Prefix) → ¬ IsOpenOffer v p

-- what is about to be accepted in this session, at this side, is the last offer of the other end, and that end's last word
abbrev pub AcceptStands : Option Act → Handle → Side → Transcript → Type 0
AcceptStands None h side v = Unit {0}
AcceptStands (Some (act.Accept at p)) h side v = (at ≡ h) → IsDeciding v × (offered_by (other side) (peer_offer v).value ≡ Some p)
AcceptStands (Some (act.Offer place at p)) h side v = Unit {0}
AcceptStands (Some (act.Counter at n)) h side v = Unit {0}
AcceptStands (Some (act.Decline at reason)) h side v = Unit {0}

-- a live session of agent 1, of which the node is this side
pub record IsOwnSession (z : Sessions) (h : Handle) (side : Side) (x : SessionState) : Type 0 where
  pub at : session_at z h ≡ Some x
  pub owner : x.owner ≡ 1
  pub role : x.view.role ≡ side

pub record EntryStands (z : Sessions) (a : AgentState) (place : ℕ) (g : Giving) : Type 0 where
  pub session : SessionState
  pub own : IsOwnSession z g.handle Far session
  pub offer : OfferStands (is_offering a.act place) g.offer session.view
  pub accept : AcceptStands a.act g.handle Far session.view

-- ---- the sessions of its want and of its return

-- the want's session doesn't give a prefix back
pub record WantStands (z : Sessions) (a : AgentState) (h : Handle) : Type 0 where
  pub session : SessionState
  pub own : IsOwnSession z h Near session
  pub accept : AcceptStands a.act h Near session.view
  pub asks : returned_in (request_of session.view).value ≡ None

-- the return's session offers its prefix
pub record ReturnStands (z : Sessions) (h : Handle) (p : Prefix) : Type 0 where
  pub session : SessionState
  pub own : IsOwnSession z h Near session
  pub offer : HasOffered session.view p

-- ---- who offers in a session

-- by its request, this end is the one that offers
abbrev pub IsOffering : Transcript → Type 0
IsOffering v = offering_by (is_return (request_of v).value) ≡ v.role

-- a listener that made a step wasn't asked to take a prefix back; and one that requests gives a prefix back by its request alone
abbrev pub KeepsKind : Side → Transcript → Type 0
KeepsKind Far v = has_offered Far (known v) ≡ true → returned_in (request_of v).value ≡ None
KeepsKind Near v = (p : Prefix) → returned_in (my_offer v).value ≡ Some p → returned_in (request_of v).value ≡ Some p

-- the agent offers the prefix in this session, of which it is this side: in an entry of those in which it gives, or in its return
pub data OffersIn (a : AgentState) (side : Side) (h : Handle) (p : Prefix) : Type 0 where
  in_entry : side ≡ Far → (place : ℕ) (g : Giving) → slice_get a.giving place ≡ Some g → g.handle ≡ h → g.offer ≡ Some p → OffersIn a side h p
  in_return : side ≡ Near → (r : Return) → a.back ≡ Some r → r.session ≡ Some h → r.prefix ≡ p → OffersIn a side h p

-- the session, of which the agent is this side, is one in which it may offer: one of those in which it gives, or that of its return
pub data IsOffersSession (a : AgentState) (side : Side) (h : Handle) : Type 0 where
  of_entry : side ≡ Far → (place : ℕ) (g : Giving) → slice_get a.giving place ≡ Some g → g.handle ≡ h → IsOffersSession a side h
  of_return : side ≡ Near → (r : Return) → a.back ≡ Some r → r.session ≡ Some h → IsOffersSession a side h

-- ---- all of it

pub record Gives (n : NodeState) (a : AgentState) : Type 0 where
  pub want : (h : Handle) → want_session a.want ≡ Some h → WantStands n.sessions a h
  pub entries : (place : ℕ) (g : Giving) → slice_get a.giving place ≡ Some g → EntryStands n.sessions a place g
  pub back : (r : Return) (h : Handle) → a.back ≡ Some r → r.session ≡ Some h → ReturnStands n.sessions h r.prefix
  -- no two entries are of one session
  pub apart : (i j : ℕ) (g k : Giving) → slice_get a.giving i ≡ Some g → slice_get a.giving j ≡ Some k → g.handle ≡ k.handle → i ≡ j
  -- each session that was ever made for the agent, live or not, keeps to who offers in it
  pub kinds : (x : SessionState) → WasMade n.sessions x → x.owner ≡ 1 → KeepsKind x.view.role x.view
  -- an open offer of a live session is the agent's own
  pub live : (h : Handle) (side : Side) (x : SessionState) (p : Prefix) → IsOwnSession n.sessions h side x → IsOpenOffer x.view p → IsOffersSession a side h
