-- Locators that nodes answered (RFC 8990, sections 2.5.4 and 2.8.5): each locator that is told or cached anywhere in a network is one with which its node answered.
use Rattle.std.specs.Prelude.{◌≡◌, ℕ, true, List, [], ◌∷◌, Some, All, Any}
use Rattle.grasp_model_node.specs.Queue.{Queued, datagram, dial, send}
use Rattle.grasp_discovery.specs.Topic.{topic_of, kind_of}
use Rattle.grasp_discovery.specs.declared.cached.Cached.{Cached}
use Rattle.grasp_discovery.specs.declared.topic.Topic.{Topic}
use Rattle.grasp_session.specs.Messages.{Side}
use Rattle.grasp_types.specs.Objective.{has_disc, has_kind}
use Rattle.grasp_types.specs.declared.address.Address.{Address}
use Rattle.grasp_types.specs.declared.address.Locator.{Locator}
use Rattle.grasp_types.specs.declared.message.Answer.{Answer}
use Rattle.grasp_types.specs.declared.message.Answer.TheVariants.{Locators, Divert}
use Rattle.grasp_types.specs.declared.message.Message.{Message}
use Rattle.grasp_types.specs.declared.message.Message.TheVariants.{Noop, Discovery, Response, ReqNeg, ReqSyn, Negotiate, End, Wait, Synch, Flood, Invalid}
use Rattle.grasp_types.specs.declared.objective.Objective.{Objective}
use Rattle.grasp_model_network.specs.Setting.{Member, Setting, numbered}
use Rattle.grasp_model_network.specs.Streams.{sent_by}
use Rattle.grasp_model_network.specs.World.{Seat, DiscoveryAnswer, WorldState, seat_at}
use Rattle.grasp_laws_delivery.specs.Saying.{OfEachStream}
use Rattle.grasp_laws_floods.specs.Sought.{IsOfSearch, DiscoveriesAreSought}

-- ---- what was answered

-- a node with this locator gave this answer: the discovery was of this topic, and the node had the name registered with F_DISC and the
-- flag of this use
pub record IsAnswerWith (s : Setting) (topic : Topic) (locator : Locator) (a : DiscoveryAnswer) : Type 0 where
  pub member : Member
  pub answered_by : numbered s.members a.node ≡ Some member
  pub locator_is : locator ≡ member.plan.locator
  pub topic_is : topic ≡ topic_of a.objective.name (kind_of a.objective.flags)
  pub flags : ℕ
  pub registered : a.flags ≡ Some flags
  pub discoverable : has_disc flags ≡ true
  pub served : has_kind flags topic.kind ≡ true

-- some node answered so
abbrev pub WasAnswered : Setting → WorldState → Topic → Locator → Type 0
WasAnswered s w topic locator = Any (IsAnswerWith s topic locator) w.answers

-- the message is a discovery with this objective
abbrev pub IsDiscoveryWith : Objective → Message → Type 0
IsDiscoveryWith objective (Discovery session initiator o) = o ≡ objective
IsDiscoveryWith objective Noop = ⊥
IsDiscoveryWith objective (Response session initiator ttl told o) = ⊥
IsDiscoveryWith objective (ReqNeg session o) = ⊥
IsDiscoveryWith objective (ReqSyn session o) = ⊥
IsDiscoveryWith objective (Negotiate session o) = ⊥
IsDiscoveryWith objective (End session verdict) = ⊥
IsDiscoveryWith objective (Wait session millis) = ⊥
IsDiscoveryWith objective (Synch session o) = ⊥
IsDiscoveryWith objective (Flood session initiator ttl parts) = ⊥
IsDiscoveryWith objective (Invalid session detail) = ⊥

-- an answer is one with the locator of its node, to a discovery that was sent
pub record IsAnswerReal (s : Setting) (w : WorldState) (a : DiscoveryAnswer) : Type 0 where
  pub locator : Locator
  pub is_answer : IsAnswerWith s (topic_of a.objective.name (kind_of a.objective.flags)) locator a
  pub was_sent : Any (λ d. IsDiscoveryWith a.objective d.message) w.datagrams

-- each answer that is noted has the locator of its node, and is to a discovery that was sent
pub record AnswersAreReal (s : Setting) (w : WorldState) : Type 0 where
  pub answers : All (IsAnswerReal s w) w.answers

-- ---- responses

-- the message is a discovery of this session number and this initiator that looks for this
abbrev pub LooksFor : ℕ → Address → Topic → Message → Type 0
LooksFor session initiator topic (Discovery number from o) = (number ≡ session) × (from ≡ initiator) × (topic_of o.name (kind_of o.flags) ≡ topic)
LooksFor session initiator topic Noop = ⊥
LooksFor session initiator topic (Response number from ttl told o) = ⊥
LooksFor session initiator topic (ReqNeg number o) = ⊥
LooksFor session initiator topic (ReqSyn number o) = ⊥
LooksFor session initiator topic (Negotiate number o) = ⊥
LooksFor session initiator topic (End number verdict) = ⊥
LooksFor session initiator topic (Wait number millis) = ⊥
LooksFor session initiator topic (Synch number o) = ⊥
LooksFor session initiator topic (Flood number from ttl parts) = ⊥
LooksFor session initiator topic (Invalid number detail) = ⊥

-- such a discovery was sent
abbrev pub WasLookedFor : WorldState → ℕ → Address → Topic → Type 0
WasLookedFor w session initiator topic = Any (λ d. LooksFor session initiator topic d.message) w.datagrams

-- a direct answer tells one locator, a divert any number; each was answered to a discovery that looks for this
abbrev pub TellsAnswered : Setting → WorldState → Topic → Answer → Type 0
TellsAnswered s w topic (Locators locators) = (locator : Locator) × (locators ≡ locator ∷ []) × WasAnswered s w topic locator
TellsAnswered s w topic (Divert locators) = All (WasAnswered s w topic) locators

-- a discovery of this session number and initiator was sent, and each locator told was answered to one that looks for the same
pub record IsResponseReal (s : Setting) (w : WorldState) (session : ℕ) (initiator : Address) (told : Answer) : Type 0 where
  pub topic : Topic
  pub looked_for : WasLookedFor w session initiator topic
  pub answered : TellsAnswered s w topic told

-- where the message is a response, its discovery was sent, and each of its locators was answered to a discovery that looks for the same
abbrev pub IsMessageReal : Setting → WorldState → Message → Type 0
IsMessageReal s w (Response session initiator ttl told o) = IsResponseReal s w session initiator told
IsMessageReal s w Noop = Unit {0}
IsMessageReal s w (Discovery session initiator o) = Unit {0}
IsMessageReal s w (ReqNeg session o) = Unit {0}
IsMessageReal s w (ReqSyn session o) = Unit {0}
IsMessageReal s w (Negotiate session o) = Unit {0}
IsMessageReal s w (End session verdict) = Unit {0}
IsMessageReal s w (Wait session millis) = Unit {0}
IsMessageReal s w (Synch session o) = Unit {0}
IsMessageReal s w (Flood session initiator ttl parts) = Unit {0}
IsMessageReal s w (Invalid session detail) = Unit {0}

abbrev pub IsQueuedReal : Setting → WorldState → Queued → Type 0
IsQueuedReal s w (send stream m) = IsMessageReal s w m
IsQueuedReal s w (dial stream to) = Unit {0}
IsQueuedReal s w (datagram link to m) = Unit {0}

-- for each response that was said or sent on a stream or is queued at a node, its discovery was sent, and each of its locators was answered
-- to a discovery that looks for the same
pub record ResponsesAreReal (s : Setting) (w : WorldState) : Type 0 where
  pub said : OfEachStream (λ t. All (λ x. IsMessageReal s w x.message) t.said) w.streams
  pub sent : OfEachStream (λ t. (side : Side) → All (IsMessageReal s w) (sent_by t side).sent) w.streams
  pub queued : (node : ℕ) (seat : Seat) → seat_at w node ≡ Some seat → All (IsQueuedReal s w) seat.core.queue

-- a search of this session number and initiator looks for this topic, and no other one of these for another
pub record IsTheSearch (w : WorldState) (k : DiscoveriesAreSought w) (session : ℕ) (initiator : Address) (topic : Topic) : Type 0 where
  pub is_search : Any (IsOfSearch w session initiator topic) k.sought
  pub only : (other : Topic) → Any (IsOfSearch w session initiator other) k.sought → other ≡ topic

-- ---- the cache

-- each locator that is cached under a topic was answered to a discovery that looks for this
abbrev pub IsEntryReal : Setting → WorldState → Topic × List Cached → Type 0
IsEntryReal s w entry = All (λ one. WasAnswered s w entry.0 one.locator) entry.1

-- each locator that a node has cached under a topic was answered to a discovery that looks for this
pub record CachesAreReal (s : Setting) (w : WorldState) : Type 0 where
  pub cached : (node : ℕ) (seat : Seat) → seat_at w node ≡ Some seat → All (IsEntryReal s w) seat.core.discoveries.entries
