-- What a message does that comes on a stream without a session (RFC 8990, section 2.5). All numbers and reasons are this project's own.
use Rattle.std.specs.Prelude.{◌≡◌, ◌≢◌, ◌<◌, ◌+◌, ◌-◌, ◌^◌, ℕ, false, true, List, [], ◌∷◌, Option, None, Some, codes, count_by, is_some, slice_get, slice_set}
use Rattle.grasp_asa.specs.Answers.{listener_of, flags_registered, value_offered}
use Rattle.grasp_asa.specs.Registrations.{Registrations}
use Rattle.grasp_cbor.specs.DataItem.{DataItem}
use Rattle.grasp_discovery.specs.Discoveries.{asker_of, after_answered, end_of}
use Rattle.grasp_discovery.specs.declared.answers.Answered.{Answered}
use Rattle.grasp_discovery.specs.declared.answers.Answered.TheVariants.{Mine, Relay, Stranger}
use Rattle.grasp_discovery.specs.declared.answers.Cause.{Cause}
use Rattle.grasp_discovery.specs.declared.topic.Topic.{Topic}
use Rattle.grasp_laws_hearing.specs.Answering.{EndsWith, IsDialled}
use Rattle.grasp_laws_hearing.specs.Later.{IsOn}
use Rattle.grasp_model_node.specs.Hear.{Heard}
use Rattle.grasp_model_node.specs.Node.{NodeState}
use Rattle.grasp_model_node.specs.declared.plan.NodePlan.{NodePlan}
use Rattle.grasp_session.specs.Messages.{Far}
use Rattle.grasp_session.specs.Says.{Starts}
use Rattle.grasp_session.specs.Sessions.{SessionState, Sessions}
use Rattle.grasp_types.specs.Objective.{has_neg, has_synch, has_dry}
use Rattle.grasp_types.specs.Origin.{origin_of}
use Rattle.grasp_types.specs.declared.address.Address.{Address}
use Rattle.grasp_types.specs.declared.address.Locator.{Locator}
use Rattle.grasp_types.specs.declared.links.Neighbour.{Neighbour}
use Rattle.grasp_types.specs.declared.message.Answer.{Answer}
use Rattle.grasp_types.specs.declared.message.Answer.TheVariants.{Locators, Divert}
use Rattle.grasp_types.specs.declared.message.Message.{Message}
use Rattle.grasp_types.specs.declared.message.Message.TheVariants.{Noop, Discovery, Response, ReqNeg, ReqSyn, Negotiate, End, Wait, Synch, Flood, Invalid}
use Rattle.grasp_types.specs.declared.message.Verdict.TheVariants.{Decline}
use Rattle.grasp_types.specs.declared.objective.Objective.{Objective}
use Rattle.grasp_types.specs.declared.session.Handle.{Handle}
use Rattle.grasp_types.specs.declared.session.Kind.TheVariants.{Negotiation}

-- no live session is on the stream
abbrev pub HasNone : NodeState → ℕ → Type 0
HasNone n stream = (place : ℕ) (x : SessionState) → ¬ IsOn n stream place x

-- ---- a request for negotiation

-- an agent listens for the objective, which is registered for negotiation; the request's flags ask for it and not for synchronization too, and for a
-- dry one only where that is registered too
pub record IsListenedFor (r : Registrations) (o : Objective) : Type 0 where
  pub owner : ℕ
  pub listens : listener_of r o.name ≡ Some owner
  pub flags : ℕ
  pub registered : flags_registered r o.name ≡ Some flags
  pub negotiates : has_neg flags ≡ true
  pub asks : has_neg o.flags ≡ true
  pub alone : has_synch o.flags ≡ false
  pub dry : has_dry o.flags ≡ true → has_dry flags ≡ true

-- there is room for a session: fewer than 64 are live, and a number is left
pub record HasRoom (z : Sessions) : Type 0 where
  pub live : count_by is_some z.places < 64
  pub numbers : z.made ≢ 2 ^ 64 - 1

-- a listener's session, which no agent has taken: it has kept the request at the clock reading, and nothing else, and times out 60000 ms after its
-- last message
abbrev pub listener : NodeState → ℕ → ℕ → Objective → SessionState
listener n stream session o = record {
  number = n.sessions.made + 1;
  owner = 0;
  stream = stream;
  view = record { role = Far; kind = Negotiation; timeout = 60000; entries = record { sent = false; message = ReqNeg session o; at = n.reading } ∷ []; mark = None };
}

-- the session begins at the least empty place, the stream stays open, and nothing else has changed
pub record Begins (n : NodeState) (stream session : ℕ) (o : Objective) (heard : Heard) : Type 0 where
  pub handle : Handle
  pub starts : Starts n.sessions handle
  pub leads : heard.node ≡ record n {
    sessions = record { made = n.sessions.made + 1; places = slice_set n.sessions.places handle.place (Some (listener n stream session o)); gone = n.sessions.gone };
  }
  pub stays_open : heard.is_open ≡ true

-- a decline that tells its reason
abbrev pub decline : ℕ → List ℕ → Message
decline session reason = End session (Decline (Some reason))

-- a session begins where the request is listened for and there is room for one; it is declined as busy where there is none, and else as unlistened
pub record HearsRequest (n : NodeState) (stream session : ℕ) (o : Objective) (heard : Heard) : Type 0 where
  pub begins : IsListenedFor n.registrations o → HasRoom n.sessions → Begins n stream session o heard
  pub busy : IsListenedFor n.registrations o → ¬ HasRoom n.sessions → EndsWith n stream (decline session (codes "busy")) heard
  pub unlistened : ¬ IsListenedFor n.registrations o → EndsWith n stream (decline session (codes "unlistened")) heard

-- ---- a request for synchronization

-- it is answered by the request's objective with the value that is offered, where F_SYNCH is set and one is; and else declined as unlistened
pub record HearsSynchronization (n : NodeState) (stream session : ℕ) (o : Objective) (heard : Heard) : Type 0 where
  pub answered : has_synch o.flags ≡ true → (value : DataItem) → value_offered n.registrations o.name ≡ Some value
      → EndsWith n stream (Synch session (record { name = o.name; flags = o.flags; loops = o.loops; value = Some value })) heard
  pub unasked : has_synch o.flags ≡ false → EndsWith n stream (decline session (codes "unlistened")) heard
  pub unoffered : value_offered n.registrations o.name ≡ None → EndsWith n stream (decline session (codes "unlistened")) heard

-- ---- a response

-- the plan has this neighbour: that of this number on the link of this number
pub record IsNeighbour (plan : NodePlan) (link from : ℕ) (neighbour : Neighbour) : Type 0 where
  pub neighbours : List Neighbour
  pub is_link : slice_get plan.links link ≡ Some neighbours
  pub is_one : slice_get neighbours from ≡ Some neighbour

-- a response for a remembered discovery is sent on unchanged to the neighbour that caused it, on a stream that is dialled for it
pub record SendsBack (n : NodeState) (cause : Cause) (m : Message) (after : NodeState) : Type 0 where
  pub there : (neighbour : Neighbour) → IsNeighbour n.plan cause.link cause.from neighbour → IsDialled n neighbour.locator m after
  pub not_there : ((neighbour : Neighbour) → ¬ IsNeighbour n.plan cause.link cause.from neighbour) → after ≡ n

-- ... and any other is sent on to nobody
abbrev pub SendsOnTo : NodeState → Option (Answered × Topic) → Message → NodeState → Type 0
SendsOnTo n None m after = after ≡ n
SendsOnTo n (Some (Mine, topic)) m after = after ≡ n
SendsOnTo n (Some (Stranger, topic)) m after = after ≡ n
SendsOnTo n (Some (Relay cause, topic)) m after = SendsBack n cause m after

-- the locators that a response tells, its own or diverted to
abbrev pub told_by : Answer → List Locator
told_by (Locators locators) = locators
told_by (Divert locators) = locators

-- the response's locators are cached for whoever asked, until its lifetime is over
abbrev pub having_cached : NodeState → ℕ → Address → ℕ → Answer → NodeState
having_cached n session initiator ttl told = record n {
  discoveries = after_answered n.discoveries (end_of n.reading ttl) (told_by told) (asker_of n.discoveries n.plan.address (origin_of session initiator));
}

pub record HearsResponse (n : NodeState) (session : ℕ) (initiator : Address) (ttl : ℕ) (told : Answer) (m : Message) (heard : Heard) : Type 0 where
  pub sends : SendsOnTo (having_cached n session initiator ttl told) (asker_of n.discoveries n.plan.address (origin_of session initiator)) m heard.node
  pub shut : heard.is_open ≡ false

-- ---- any message

-- A noop changes nothing; what may not come first is answered by an M_INVALID of its own number, but an M_INVALID by nothing
abbrev pub HearsFirst : NodeState → ℕ → Message → Heard → Type 0
HearsFirst n stream Noop heard = heard ≡ record { node = n; is_open = true }
HearsFirst n stream (ReqNeg session o) heard = HearsRequest n stream session o heard
HearsFirst n stream (ReqSyn session o) heard = HearsSynchronization n stream session o heard
HearsFirst n stream (Response session initiator ttl told o) heard = HearsResponse n session initiator ttl told (Response session initiator ttl told o) heard
HearsFirst n stream (Invalid session detail) heard = heard ≡ record { node = n; is_open = false }
HearsFirst n stream (Discovery session initiator o) heard = EndsWith n stream (Invalid session None) heard
HearsFirst n stream (Negotiate session o) heard = EndsWith n stream (Invalid session None) heard
HearsFirst n stream (End session verdict) heard = EndsWith n stream (Invalid session None) heard
HearsFirst n stream (Wait session millis) heard = EndsWith n stream (Invalid session None) heard
HearsFirst n stream (Synch session o) heard = EndsWith n stream (Invalid session None) heard
HearsFirst n stream (Flood session initiator ttl parts) heard = EndsWith n stream (Invalid session None) heard
