-- Why a node refuses a call of an agent (RFC 8991, section 2.3). All limits are this project's own.
use Rattle.std.specs.Prelude.{◌≡◌, ◌≤◌, ◌<◌, ◌+◌, ◌-◌, ◌^◌, ◌⊎◌, ℕ, Bool, true, false, List, [], length, count_by, is_some, Option, None}
use Rattle.std.specs.List.{Any}
use Rattle.grasp_cbor.specs.DataItem.{DataItem}
use Rattle.grasp_flood.specs.Flood.{key_of}
use Rattle.grasp_laws_node.specs.Means.{step_sent}
use Rattle.grasp_laws_node.specs.MeansRequests.{negotiable, synchronizable}
use Rattle.grasp_laws_node.specs.MeansSearches.{cached, search_of, search_sent, flood_sent}
use Rattle.grasp_model_node.specs.Draws.{next_session}
use Rattle.grasp_model_node.specs.Node.{NodeState}
use Rattle.grasp_model_node.specs.Queue.{encoding, all_ways}
use Rattle.grasp_session.specs.Says.{IsAt}
use Rattle.grasp_session.specs.Sessions.{SessionState}
use Rattle.grasp_session.specs.Transcript.{is_going, is_mine, last_offer, outcome_of, session_of, waits_of}
use Rattle.grasp_types.specs.Address.{is_dialable}
use Rattle.grasp_types.specs.Objective.{has_neg, has_synch, has_dry}
use Rattle.grasp_types.specs.declared.address.Address.{Address}
use Rattle.grasp_types.specs.declared.address.Locator.{Locator}
use Rattle.grasp_types.specs.declared.call.Call.{Call}
use Rattle.grasp_types.specs.declared.call.Call.TheVariants as call
use Rattle.grasp_types.specs.declared.message.Message.{Message}
use Rattle.grasp_types.specs.declared.message.Message.TheVariants.{ReqNeg, ReqSyn, End, Invalid}
use Rattle.grasp_types.specs.declared.message.Verdict.{Verdict}
use Rattle.grasp_types.specs.declared.refusal.ApiRefused.{ApiRefused}
use Rattle.grasp_types.specs.declared.refusal.ApiRefused.TheVariants.{NoAsa, AsasFull, DuplicateAsa, NotBoth, ObjectivesFull, ObjectiveTaken, NotYourObjective, NotNegotiable, NotSynchronizable, NotDry, BadLocator, NoSession, NotYourTurn, LoopsSpent, WaitsSpent, NoFlood, SessionsFull, StreamsFull, TooLong, OutboxFull}
use Rattle.grasp_types.specs.declared.session.Handle.{Handle}
use Rattle.grasp_types.specs.declared.session.Kind.{Kind}

-- ---- what a call finds

-- a registered agent has this number
abbrev pub IsAgent : NodeState → ℕ → Type 0
IsAgent n asa = Any (λ a. a.number ≡ asa) n.registrations.agents

-- this agent has registered an objective under this name, with these flags
abbrev pub Owns : NodeState → ℕ → List ℕ → ℕ → Type 0
Owns n asa name flags = Any (λ o. (o.owner ≡ asa) × (o.name ≡ name) × (o.flags ≡ flags)) n.registrations.objectives

-- this agent has the session of this handle, which is live
pub record IsHeld (n : NodeState) (asa : ℕ) (h : Handle) (x : SessionState) : Type 0 where
  pub at : IsAt n.sessions h.place x
  pub number : x.number ≡ h.number
  pub owner : x.owner ≡ asa

-- the session has no outcome, and it is this end's turn
pub record MayAct (x : SessionState) : Type 0 where
  pub going : is_going x.view ≡ true
  pub mine : is_mine x.view ≡ true

-- no locator is cached under what is looked for, and the agent doesn't search for it: so a search is to begin
pub record IsNew (n : NodeState) (asa : ℕ) (name : List ℕ) (kind : Kind) : Type 0 where
  pub none_cached : cached n name kind ≡ []
  pub none_kept : search_of n asa name kind ≡ None

-- 64 sessions are live, or no number is left for one
abbrev pub HasNoPlace : NodeState → Type 0
HasNoPlace n = (64 ≤ count_by is_some n.sessions.places) ⊎ (n.sessions.made ≡ 2 ^ 64 - 1)

-- 64 streams have a record, or 2 ^ 62 were dialled
abbrev pub HasNoStream : NodeState → Type 0
HasNoStream n = (64 ≤ length n.streams.records) ⊎ (2 ^ 62 ≤ n.streams.dialled)

-- the message has more bytes than the node's limit
abbrev pub IsTooLong : NodeState → Message → Type 0
IsTooLong n m = n.plan.limit < length (encoding m)

-- with so many more outputs there would be more than 256 in the queue
abbrev pub HasNoRoom : NodeState → ℕ → Type 0
HasNoRoom n count = 256 < length n.queue + count

-- ---- calls on agents and objectives

-- a call that needs an agent alone
abbrev pub AgentCauses : NodeState → ℕ → ApiRefused → Type 0
AgentCauses n asa NoAsa = ¬ IsAgent n asa
AgentCauses n asa _ = ⊥

-- anybody may register an agent
abbrev pub RegisterAsaCauses : NodeState → List ℕ → ApiRefused → Type 0
RegisterAsaCauses n name AsasFull = (32 ≤ length n.registrations.agents) ⊎ (n.registrations.made ≡ 4294967295)
RegisterAsaCauses n name DuplicateAsa = Any (λ a. a.name ≡ name) n.registrations.agents
RegisterAsaCauses n name _ = ⊥

abbrev pub RegisterObjectiveCauses : NodeState → ℕ → List ℕ → ℕ → ApiRefused → Type 0
RegisterObjectiveCauses n asa name flags NoAsa = ¬ IsAgent n asa
RegisterObjectiveCauses n asa name flags NotBoth = has_neg flags ≡ has_synch flags
RegisterObjectiveCauses n asa name flags ObjectivesFull = 64 ≤ length n.registrations.objectives
RegisterObjectiveCauses n asa name flags ObjectiveTaken = Any (λ o. o.name ≡ name) n.registrations.objectives
RegisterObjectiveCauses n asa name flags NotDry = (has_dry flags ≡ true) × (has_neg flags ≡ false)
RegisterObjectiveCauses n asa name flags _ = ⊥

-- a call on an objective, whatever its use
abbrev pub ObjectiveCauses : NodeState → ℕ → List ℕ → ApiRefused → Type 0
ObjectiveCauses n asa name NoAsa = ¬ IsAgent n asa
ObjectiveCauses n asa name NotYourObjective = (flags : ℕ) → ¬ Owns n asa name flags
ObjectiveCauses n asa name _ = ⊥

-- a call on one for negotiation
abbrev pub NegotiationCauses : NodeState → ℕ → List ℕ → ApiRefused → Type 0
NegotiationCauses n asa name NotNegotiable = (flags : ℕ) → Owns n asa name flags → has_neg flags ≡ false
NegotiationCauses n asa name r = ObjectiveCauses n asa name r

-- a call on one for synchronization
abbrev pub SynchronizationCauses : NodeState → ℕ → List ℕ → ApiRefused → Type 0
SynchronizationCauses n asa name NotSynchronizable = (flags : ℕ) → Owns n asa name flags → has_synch flags ≡ false
SynchronizationCauses n asa name r = ObjectiveCauses n asa name r

-- ---- requests, each of which queues a dial and a message

abbrev pub RequestCauses : NodeState → ℕ → List ℕ → DataItem → ℕ → Bool → Locator → ApiRefused → Type 0
RequestCauses n asa name value loops dry peer NotDry = (dry ≡ true) × ((flags : ℕ) → Owns n asa name flags → has_dry flags ≡ false)
RequestCauses n asa name value loops dry peer BadLocator = is_dialable peer ≡ false
RequestCauses n asa name value loops dry peer SessionsFull = HasNoPlace n
RequestCauses n asa name value loops dry peer StreamsFull = HasNoStream n
RequestCauses n asa name value loops dry peer TooLong =
    (flags : ℕ) × Owns n asa name flags × IsTooLong n (ReqNeg (next_session n) (negotiable name flags value loops dry))
RequestCauses n asa name value loops dry peer OutboxFull = HasNoRoom n 2
RequestCauses n asa name value loops dry peer r = NegotiationCauses n asa name r

abbrev pub SynchronizeCauses : NodeState → ℕ → List ℕ → ℕ → Locator → ApiRefused → Type 0
SynchronizeCauses n asa name loops peer BadLocator = is_dialable peer ≡ false
SynchronizeCauses n asa name loops peer SessionsFull = HasNoPlace n
SynchronizeCauses n asa name loops peer StreamsFull = HasNoStream n
SynchronizeCauses n asa name loops peer TooLong = (flags : ℕ) × Owns n asa name flags × IsTooLong n (ReqSyn (next_session n) (synchronizable name flags loops))
SynchronizeCauses n asa name loops peer OutboxFull = HasNoRoom n 2
SynchronizeCauses n asa name loops peer r = SynchronizationCauses n asa name r

-- ---- calls on sessions

abbrev pub PollCauses : NodeState → ℕ → Handle → ApiRefused → Type 0
PollCauses n asa h NoAsa = ¬ IsAgent n asa
PollCauses n asa h NoSession = (x : SessionState) → ¬ IsHeld n asa h x
PollCauses n asa h _ = ⊥

-- a step, a wait and an end want the agent's turn, and each queues one message
abbrev pub TurnCauses : NodeState → ℕ → Handle → ApiRefused → Type 0
TurnCauses n asa h NotYourTurn = (x : SessionState) × IsHeld n asa h x × ¬ MayAct x
TurnCauses n asa h OutboxFull = HasNoRoom n 1
TurnCauses n asa h r = PollCauses n asa h r

-- a step wants an offer before it whose loop count is above 1
abbrev pub StepCauses : NodeState → ℕ → Handle → DataItem → ApiRefused → Type 0
StepCauses n asa h value LoopsSpent = (x : SessionState) × IsHeld n asa h x × MayAct x × ((last_offer x.view).loops ≤ 1)
StepCauses n asa h value TooLong = (x : SessionState) × IsHeld n asa h x × IsTooLong n (step_sent x value)
StepCauses n asa h value r = TurnCauses n asa h r

-- a wait wants fewer than 4 since the last offer; it fits every limit
abbrev pub WaitCauses : NodeState → ℕ → Handle → ApiRefused → Type 0
WaitCauses n asa h WaitsSpent = (x : SessionState) × IsHeld n asa h x × MayAct x × (4 ≤ waits_of x.view)
WaitCauses n asa h r = TurnCauses n asa h r

abbrev pub EndCauses : NodeState → ℕ → Handle → Verdict → ApiRefused → Type 0
EndCauses n asa h verdict TooLong = (x : SessionState) × IsHeld n asa h x × IsTooLong n (End (session_of x.view) verdict)
EndCauses n asa h verdict r = TurnCauses n asa h r

-- an agent may give a session up in either turn, while it has no outcome
abbrev pub InvalidCauses : NodeState → ℕ → Handle → Option DataItem → ApiRefused → Type 0
InvalidCauses n asa h detail NotYourTurn = (x : SessionState) × IsHeld n asa h x × (is_going x.view ≡ false)
InvalidCauses n asa h detail TooLong = (x : SessionState) × IsHeld n asa h x × IsTooLong n (Invalid (session_of x.view) detail)
InvalidCauses n asa h detail r = TurnCauses n asa h r

-- ---- searches and floods, each of which queues a datagram to every neighbour of every link

abbrev pub DiscoverCauses : NodeState → ℕ → List ℕ → Kind → ℕ → ApiRefused → Type 0
DiscoverCauses n asa name kind loops SessionsFull = IsNew n asa name kind × (64 ≤ length n.discoveries.searches)
DiscoverCauses n asa name kind loops TooLong = IsNew n asa name kind × IsTooLong n (search_sent n name kind loops)
DiscoverCauses n asa name kind loops OutboxFull = IsNew n asa name kind × HasNoRoom n (length (all_ways n.plan.links))
DiscoverCauses n asa name kind loops r = AgentCauses n asa r

abbrev pub FloodCauses : NodeState → ℕ → List ℕ → DataItem → ℕ → ℕ → ApiRefused → Type 0
FloodCauses n asa name value ttl loops TooLong = (flags : ℕ) × Owns n asa name flags × IsTooLong n (flood_sent n name flags value ttl loops)
FloodCauses n asa name value ttl loops OutboxFull = HasNoRoom n (length (all_ways n.plan.links))
FloodCauses n asa name value ttl loops r = SynchronizationCauses n asa name r

abbrev pub ExpireFloodCauses : NodeState → ℕ → List ℕ → Address → ApiRefused → Type 0
ExpireFloodCauses n asa name initiator NoFlood = ¬ Any (λ entry. entry.0 ≡ key_of name initiator) n.floods.entries
ExpireFloodCauses n asa name initiator r = AgentCauses n asa r

-- ---- each call

-- the refusal has its cause
abbrev pub HasCause : NodeState → ℕ → Call → ApiRefused → Type 0
HasCause n asa (call.RegisterAsa name) r = RegisterAsaCauses n name r
HasCause n asa call.DeregisterAsa r = AgentCauses n asa r
HasCause n asa (call.RegisterObjective name flags) r = RegisterObjectiveCauses n asa name flags r
HasCause n asa (call.DeregisterObjective name) r = ObjectiveCauses n asa name r
HasCause n asa (call.Discover name kind loops timeout) r = DiscoverCauses n asa name kind loops r
HasCause n asa (call.RequestNegotiate name value loops timeout dry peer) r = RequestCauses n asa name value loops dry peer r
HasCause n asa (call.ListenNegotiate name) r = NegotiationCauses n asa name r
HasCause n asa (call.StopListenNegotiate name) r = NegotiationCauses n asa name r
HasCause n asa (call.NegotiateStep h value) r = StepCauses n asa h value r
HasCause n asa (call.NegotiateWait h millis) r = WaitCauses n asa h r
HasCause n asa (call.EndNegotiate h verdict) r = EndCauses n asa h verdict r
HasCause n asa (call.SendInvalid h detail) r = InvalidCauses n asa h detail r
HasCause n asa (call.Poll h) r = PollCauses n asa h r
HasCause n asa (call.Synchronize name loops timeout peer) r = SynchronizeCauses n asa name loops peer r
HasCause n asa (call.ListenSynchronize name value) r = SynchronizationCauses n asa name r
HasCause n asa (call.StopListenSynchronize name) r = SynchronizationCauses n asa name r
HasCause n asa (call.Flood name value ttl loops) r = FloodCauses n asa name value ttl loops r
HasCause n asa (call.GetFlood name) r = AgentCauses n asa r
HasCause n asa (call.ExpireFlood name initiator) r = ExpireFloodCauses n asa name initiator r

-- a poll that tells an offer of the peer
pub record TellsTurn (n : NodeState) (asa : ℕ) (h : Handle) : Type 0 where
  pub session : SessionState
  pub held : IsHeld n asa h session
  pub none : outcome_of session.view ≡ None
  pub mine : is_mine session.view ≡ true

-- the calls that take memory
abbrev pub TakesMemory : NodeState → ℕ → Call → Type 0
TakesMemory n asa (call.RegisterAsa name) = ⊥
TakesMemory n asa (call.RegisterObjective name flags) = ⊥
TakesMemory n asa (call.ListenSynchronize name value) = ⊥
TakesMemory n asa (call.StopListenSynchronize name) = ⊥
TakesMemory n asa (call.ExpireFlood name initiator) = ⊥
TakesMemory n asa (call.Poll h) = TellsTurn n asa h
TakesMemory n asa _ = Unit {0}
