-- Inside: what a call is to send: whether it may be, and what has changed once it is.
use Rattle.std.specs.Prelude.{◌≡◌, ◌⊎◌, ℕ, Bool, true, false, not, List, [], ◌∷◌, Some, Result, Ok, Err}
use Rattle.grasp_cbor.specs.declared.memory.OutOfMemory.{OutOfMemory}
use Rattle.grasp_discovery.specs.Discoveries.{search_from, with_search, after_find}
use Rattle.grasp_discovery.specs.Discoveries as discovery
use Rattle.grasp_discovery.specs.Topic.{topic_of}
use Rattle.grasp_discovery.specs.declared.answers.Find.{Find}
use Rattle.grasp_discovery.specs.declared.answers.Find.TheVariants as find
use Rattle.grasp_discovery.specs.declared.topic.Topic.{Topic}
use Rattle.grasp_session.specs.Messages.{no_objective}
use Rattle.grasp_session.specs.Sessions.{start_reply, after_start}
use Rattle.grasp_session.specs.Sessions as session
use Rattle.grasp_session.specs.declared.begin.Begin.{Begin}
use Rattle.grasp_types.specs.Address.{is_dialable}
use Rattle.grasp_types.specs.declared.address.Locator.{Locator}
use Rattle.grasp_types.specs.declared.flood.FloodPart.{FloodPart}
use Rattle.grasp_types.specs.declared.message.Message.{Message}
use Rattle.grasp_types.specs.declared.message.Message.TheVariants.{Discovery, ReqNeg, ReqSyn, Flood}
use Rattle.grasp_types.specs.declared.objective.Objective.{Objective}
use Rattle.grasp_types.specs.declared.refusal.ApiRefused.{ApiRefused}
use Rattle.grasp_types.specs.declared.refusal.ApiRefused.TheVariants as api
use Rattle.grasp_types.specs.declared.reply.ApiAnswer.{ApiAnswer}
use Rattle.grasp_types.specs.declared.reply.ApiAnswer.TheVariants.{Searching}
use Rattle.grasp_types.specs.declared.session.Kind.{Kind}
use Rattle.grasp_types.specs.declared.session.Kind.TheVariants.{Negotiation, Synchronization}
use Rattle.grasp_wire.specs.Cutter.{no_past}
use Rattle.grasp_model_node.specs.Draws.{next_session}
use Rattle.grasp_model_node.specs.Moves.{with_sessions, with_discoveries, with_draw, dial_record, queue_up}
use Rattle.grasp_model_node.specs.Node.{NodeState}
use Rattle.grasp_model_node.specs.Queue.{send, dial, along, all_ways}
use Rattle.grasp_model_node.specs.Refusals.{Sending, late}
use Rattle.grasp_model_node.specs.SessionCalls.{started}
use Rattle.grasp_model_node.specs.Streams.{next_stream, is_dialled_out}

-- what a call sends can be sent and there was memory for it, or the result is the first refusal that holds
abbrev pub IsReady : {A : Type 0} → Sending → Result A ApiRefused → Type 0
IsReady s (Ok a) = late s ≡ Ok tt
IsReady s (Err r) = (late s ≡ Err r) ⊎ ((late s ≡ Ok tt) × (r ≡ api.OutOfMemory))

-- what a call sends was sent and the call has this answer, or the result is the first refusal that holds
abbrev pub MaySend : Sending → (ApiAnswer → Type 0) → Result ApiAnswer ApiRefused → Type 0
MaySend s Answers (Ok a) = (late s ≡ Ok tt) × Answers a
MaySend s Answers (Err r) = (late s ≡ Err r) ⊎ ((late s ≡ Ok tt) × (r ≡ api.OutOfMemory) × Unit {0})

-- ---- requests

-- the tests of a dial by an agent
abbrev pub dial_tests : NodeState → Locator → ApiRefused → Bool
dial_tests n peer api.BadLocator = not (is_dialable peer)
dial_tests n peer api.SessionsFull = session.is_full n.sessions
dial_tests n peer api.StreamsFull = is_dialled_out n.streams
dial_tests n peer _ = false

abbrev pub IsRequest : Message → Type 0
IsRequest (ReqNeg session o) = Unit {0}
IsRequest (ReqSyn session o) = Unit {0}
IsRequest _ = ⊥

abbrev pub asked_kind : Message → Kind
asked_kind (ReqSyn session o) = Synchronization
asked_kind _ = Negotiation

abbrev pub asked_session : Message → ℕ
asked_session (ReqNeg session o) = session
asked_session (ReqSyn session o) = session
asked_session _ = 0

abbrev pub asked_objective : Message → Objective
asked_objective (ReqNeg session o) = o
asked_objective (ReqSyn session o) = o
asked_objective _ = no_objective

-- the session that this agent begins by a request on a stream
abbrev pub asked : ℕ → ℕ → ℕ → Message → Begin
asked asa timeout stream m = record {
  owner = asa;
  kind = asked_kind m;
  requester = true;
  session = asked_session m;
  stream = stream;
  timeout = timeout;
  objective = asked_objective m;
  taken = true;
}

-- the node once it has dialled this peer with a request
abbrev pub dialled : NodeState → ℕ → ℕ → Locator → Message → NodeState
dialled n asa timeout peer m =
    queue_up
    (dial_record (with_draw (with_sessions n (after_start n.sessions n.reading (asked asa timeout (next_stream n.streams) m) (start_reply n.sessions)))) (Some no_past))
    (dial (next_stream n.streams) peer ∷ send (next_stream n.streams) m ∷ [])

-- the session has begun, or there was no memory
abbrev pub IsBegun : NodeState → Result ApiAnswer ApiRefused → Type 0
IsBegun n (Ok a) = a ≡ started (start_reply n.sessions)
IsBegun n (Err r) = r ≡ api.OutOfMemory

-- ---- searches

-- the test of a search that begins
abbrev pub search_tests : NodeState → ApiRefused → Bool
search_tests n api.SessionsFull = discovery.is_full n.discoveries
search_tests n _ = false

abbrev pub sought_session : Message → ℕ
sought_session (Discovery session initiator o) = session
sought_session _ = 0

abbrev pub sought_name : Message → List ℕ
sought_name (Discovery session initiator o) = o.name
sought_name _ = []

-- the node once it searches by this message
abbrev pub searched : NodeState → ℕ → Kind → ℕ → Message → NodeState
searched n asa kind timeout m =
    queue_up
    (with_draw (with_discoveries n (with_search n.discoveries (search_from n.reading asa (topic_of (sought_name m) kind) (sought_session m) timeout))))
    (along m (all_ways n.plan.links))

-- the search has begun, or there was no memory
abbrev pub IsSearching : Result ApiAnswer ApiRefused → Type 0
IsSearching (Ok a) = a ≡ Searching
IsSearching (Err r) = r ≡ api.OutOfMemory

-- the node once an agent was answered from what is known, or is to search
abbrev pub known_after : NodeState → ℕ → Topic → Find → NodeState
known_after n asa topic find.Fresh = n
known_after n asa topic answer = with_discoveries n (after_find n.discoveries asa topic answer)

abbrev pub looked_up : NodeState → ℕ → Topic → Result Find OutOfMemory → NodeState
looked_up n asa topic (Ok answer) = known_after n asa topic answer
looked_up n asa topic (Err e) = n

-- ---- floods

abbrev pub flood_of : NodeState → ℕ → FloodPart → Message
flood_of n ttl part = Flood (next_session n) n.plan.address ttl (part ∷ [])
