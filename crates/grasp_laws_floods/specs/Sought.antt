-- Discoveries that searches began (RFC 8990, section 2.5.4): each discovery that goes anywhere in a network is one that a search began.
use Rattle.std.specs.Prelude.{◌≡◌, ℕ, List, Some, All, Any, Contains, map}
use Rattle.grasp_model_node.specs.FloodCalls.{wanted_flags}
use Rattle.grasp_model_node.specs.Queue.{Queued, datagram, dial, send}
use Rattle.grasp_discovery.specs.Topic.{topic_of, kind_of}
use Rattle.grasp_discovery.specs.declared.memory.Memory.{Memory}
use Rattle.grasp_discovery.specs.declared.search.Search.{Search}
use Rattle.grasp_discovery.specs.declared.topic.Topic.{Topic}
use Rattle.grasp_model_network.specs.Notes.{SearchesDiffer}
use Rattle.grasp_model_network.specs.Runs.{IsReached}
use Rattle.grasp_model_network.specs.Setting.{Setting}
use Rattle.grasp_model_network.specs.World.{Seat, SearchCall, WorldState, seat_at, member_of}
use Rattle.grasp_types.specs.declared.address.Address.{Address}
use Rattle.grasp_types.specs.declared.message.Message.{Message}
use Rattle.grasp_types.specs.declared.message.Message.TheVariants.{Noop, Discovery, Response, ReqNeg, ReqSyn, Negotiate, End, Wait, Synch, Flood, Invalid}
use Rattle.grasp_types.specs.declared.objective.Objective.{Objective}
use Rattle.grasp_types.specs.declared.origin.Origin.{Origin}

-- a search that was begun, and what it looks for
pub record Sought : Type 0 where
  pub search : SearchCall
  pub topic : Topic

-- a discovery of this session number and initiator that looks for this is the search's: the search was begun under that number at the node
-- whose address is the initiator's
pub record IsOfSearch (w : WorldState) (session : ℕ) (initiator : Address) (topic : Topic) (x : Sought) : Type 0 where
  pub seat : Seat
  pub begun_at : seat_at w x.search.node ≡ Some seat
  pub address : initiator ≡ seat.core.plan.address
  pub told : initiator ≡ x.search.address
  pub session_is : session ≡ x.search.session
  pub topic_is : topic ≡ x.topic

-- a discovery message is of one of these searches, and its flags are those of the use that is looked for
pub record IsDiscoverySought (w : WorldState) (sought : List Sought) (session : ℕ) (initiator : Address) (o : Objective) : Type 0 where
  pub search : Any (IsOfSearch w session initiator (topic_of o.name (kind_of o.flags))) sought
  pub flags : o.flags ≡ wanted_flags (kind_of o.flags)

abbrev pub IsMessageSought : WorldState → List Sought → Message → Type 0
IsMessageSought w sought (Discovery session initiator o) = IsDiscoverySought w sought session initiator o
IsMessageSought w sought Noop = Unit {0}
IsMessageSought w sought (Response session initiator ttl told o) = Unit {0}
IsMessageSought w sought (ReqNeg session o) = Unit {0}
IsMessageSought w sought (ReqSyn session o) = Unit {0}
IsMessageSought w sought (Negotiate session o) = Unit {0}
IsMessageSought w sought (End session verdict) = Unit {0}
IsMessageSought w sought (Wait session millis) = Unit {0}
IsMessageSought w sought (Synch session o) = Unit {0}
IsMessageSought w sought (Flood session initiator ttl parts) = Unit {0}
IsMessageSought w sought (Invalid session detail) = Unit {0}

abbrev pub IsQueuedSought : WorldState → List Sought → Queued → Type 0
IsQueuedSought w sought (datagram link to m) = IsMessageSought w sought m
IsQueuedSought w sought (dial stream to) = Unit {0}
IsQueuedSought w sought (send stream m) = Unit {0}

abbrev pub IsMemorySought : WorldState → List Sought → Origin × Memory → Type 0
IsMemorySought w sought memory = Any (IsOfSearch w memory.0.session memory.0.initiator memory.1.topic) sought

-- the search was begun in a life that is there, and told the address of its node
pub record IsBegunIn (w : WorldState) (x : Sought) : Type 0 where
  pub seat : Seat
  pub begun_at : seat_at w x.search.node ≡ Some seat
  pub address : x.search.address ≡ seat.core.plan.address

-- a search that a node keeps was begun there, in this life
pub record IsKeptSearch (node : ℕ) (search : Search) (x : Sought) : Type 0 where
  pub node_is : x.search.node ≡ node
  pub session_is : search.session ≡ x.search.session
  pub topic_is : search.topic ≡ x.topic

-- address and number settle the search, and so what it looks for
abbrev pub AreSettled : List Sought → Type 0
AreSettled sought = (a b : Sought) → Contains sought a → Contains sought b → a.search.address ≡ b.search.address → a.search.session ≡ b.search.session → a ≡ b

-- each search that was begun looks for something, and each discovery in a datagram that was sent, in a queue and in a node's memory is one
-- of them, and so is each search that a node keeps
pub record DiscoveriesAreSought (w : WorldState) : Type 0 where
  pub sought : List Sought
  pub searches : map (λ x. x.search) sought ≡ w.searches
  pub begun : All (IsBegunIn w) sought
  pub sent : All (λ d. IsMessageSought w sought d.message) w.datagrams
  pub queued : (node : ℕ) (seat : Seat) → seat_at w node ≡ Some seat → All (IsQueuedSought w sought) seat.core.queue
  pub remembered : (node : ℕ) (seat : Seat) → seat_at w node ≡ Some seat → All (IsMemorySought w sought) seat.core.discoveries.memories
  pub kept : (node : ℕ) (seat : Seat) → seat_at w node ≡ Some seat → All (λ search. Any (IsKeptSearch node search) sought) seat.core.discoveries.searches
  -- where no two searches were begun under one number at one address
  pub settled : SearchesDiffer w → AreSettled sought

-- ---- what a session number and an initiator tell

-- two lives with one address are of one node
abbrev pub AddressesTellNodes : Type 0
AddressesTellNodes = (s : Setting) (w : WorldState) → IsReached s w → (j k : ℕ) (a b : Seat) → seat_at w j ≡ Some a → seat_at w k ≡ Some b
    → a.core.plan.address ≡ b.core.plan.address → member_of w j ≡ member_of w k

-- where no two searches were begun under one session number at one address, two that this number and this initiator are of look for the same
abbrev pub SearchIsTold : Type 0
SearchIsTold = (s : Setting) (w : WorldState) → IsReached s w → SearchesDiffer w → (k : DiscoveriesAreSought w) → (session : ℕ) (initiator : Address) (one other : Topic)
    → Any (IsOfSearch w session initiator one) k.sought → Any (IsOfSearch w session initiator other) k.sought → one ≡ other
