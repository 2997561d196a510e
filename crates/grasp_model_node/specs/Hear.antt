-- What a node does with one message that comes on an open stream.
use Rattle.std.specs.Prelude.{ℕ, Bool, true, false, not, ◌&&◌, ◌||◌, List, Option, None, Some, Result, Ok, Err, slice_get, if◌then◌else◌}
use Rattle.grasp_asa.specs.Answers.{listener_of, flags_registered, value_offered}
use Rattle.grasp_asa.specs.Registrations.{Registrations}
use Rattle.grasp_cbor.specs.DataItem.{DataItem}
use Rattle.grasp_discovery.specs.Discoveries.{asker_of, after_answered, end_of}
use Rattle.grasp_discovery.specs.declared.topic.Topic.{Topic}
use Rattle.grasp_discovery.specs.declared.answers.Answered.{Answered}
use Rattle.grasp_discovery.specs.declared.answers.Answered.TheVariants.{Mine, Relay, Stranger}
use Rattle.grasp_session.specs.Sessions.{state_reply, receive_reply, after_receive, after_mark, start_reply, after_start}
use Rattle.grasp_session.specs.Transcript.{Faulty}
use Rattle.grasp_session.specs.declared.answer.Received.{Received}
use Rattle.grasp_session.specs.declared.answer.Received.TheVariants.{Kept, Ignored, Bad}
use Rattle.grasp_session.specs.declared.answer.SessionRefused.{SessionRefused}
use Rattle.grasp_session.specs.declared.begin.Begin.{Begin}
use Rattle.grasp_types.specs.Objective.{has_neg, has_synch, has_dry}
use Rattle.grasp_types.specs.Origin.{origin_of}
use Rattle.grasp_types.specs.declared.address.Address.{Address}
use Rattle.grasp_types.specs.declared.address.Locator.{Locator}
use Rattle.grasp_types.specs.declared.links.Neighbour.{Neighbour}
use Rattle.grasp_types.specs.declared.message.Answer.{Answer}
use Rattle.grasp_types.specs.declared.message.Answer.TheVariants.{Locators, Divert}
use Rattle.grasp_types.specs.declared.message.Message.{Message}
use Rattle.grasp_types.specs.declared.message.Message.TheVariants.{Noop, Discovery, Response, ReqNeg, ReqSyn, Negotiate, End, Wait, Synch, Flood, Invalid}
use Rattle.grasp_types.specs.declared.objective.Objective.{Objective}
use Rattle.grasp_types.specs.declared.session.Handle.{Handle}
use Rattle.grasp_types.specs.declared.session.Kind.TheVariants.{Negotiation}
use Rattle.grasp_model_node.specs.Declines.{declined_for, unlistened, busy}
use Rattle.grasp_model_node.specs.Moves.{with_sessions, with_discoveries, answer, dial_with}
use Rattle.grasp_model_node.specs.Node.{NodeState}

-- a node, and whether the stream on which a message came is still open
pub record Heard : Type 0 where
  pub node : NodeState
  pub is_open : Bool

abbrev pub stays : NodeState → Heard
stays n = record { node = n; is_open = true }

abbrev pub shuts : NodeState → Heard
shuts n = record { node = n; is_open = false }

-- ---- a later message: one on a stream whose session is live

-- the session on the stream has no outcome
abbrev pub goes_on : Option (ℕ × Bool) → Bool
goes_on None = false
goes_on (Some state) = not state.1

-- what came is bad: the session is told so by its own number, and ends. Without a session that goes on nothing is done
abbrev pub refused_by : NodeState → ℕ → Option (ℕ × Bool) → NodeState
refused_by n stream None = n
refused_by n stream (Some state) = if state.1 then n else with_sessions (answer n stream (Invalid state.0 None)) (after_mark n.sessions stream Faulty)

abbrev pub after_refusal : NodeState → ℕ → NodeState
after_refusal n stream = refused_by n stream (state_reply n.sessions stream)

-- the session keeps it, and the stream stays open until the session has its outcome
abbrev pub kept : NodeState → ℕ → Message → Heard
kept n stream m = record {
  node = with_sessions n (after_receive n.sessions n.reading stream m Kept);
  is_open = goes_on (state_reply (after_receive n.sessions n.reading stream m Kept) stream);
}

abbrev pub hear_later_by : NodeState → ℕ → Message → Received → Heard
hear_later_by n stream m Kept = kept n stream m
hear_later_by n stream m Ignored = record { node = n; is_open = goes_on (state_reply n.sessions stream) }
hear_later_by n stream m Bad = shuts (after_refusal n stream)

abbrev pub hear_later : NodeState → ℕ → Message → Heard
hear_later n stream m = hear_later_by n stream m (receive_reply n.sessions stream m)

-- ---- the first message other than a noop of a stream without a session

-- negotiation is registered; the flags ask for it and not for synchronization too, and for a dry one only where that is
-- registered too
abbrev pub may_ask : ℕ → Option ℕ → Bool
may_ask flags None = false
may_ask flags (Some registered) = has_neg registered && has_neg flags && not (has_synch flags) && (not (has_dry flags) || has_dry registered)

abbrev pub if_listener : Option ℕ → Bool → Bool
if_listener None asked = false
if_listener (Some owner) asked = asked

-- a request for this objective is listened for
abbrev pub is_listened : Registrations → Objective → Bool
is_listened r o = if_listener (listener_of r o.name) (may_ask o.flags (flags_registered r o.name))

-- a request is declined, and its stream begins closing
abbrev pub declines : NodeState → ℕ → ℕ → List ℕ → Heard
declines n stream session reason = shuts (answer n stream (End session (declined_for reason)))

-- a listener's session, which no agent has taken yet; its timeout is 60000 ms
abbrev pub untaken : ℕ → ℕ → Objective → Begin
untaken stream session o = record {
  owner = 0;
  kind = Negotiation;
  requester = false;
  session = session;
  stream = stream;
  timeout = 60000;
  objective = o;
  taken = false;
}

abbrev pub listened : NodeState → ℕ → ℕ → Objective → Result Handle SessionRefused → Heard
listened n stream session o (Ok h) = stays (with_sessions n (after_start n.sessions n.reading (untaken stream session o) (Ok h)))
listened n stream session o (Err refused) = declines n stream session busy

-- a request for negotiation: a session where it is listened for and there is room for one
abbrev pub hear_request : NodeState → ℕ → ℕ → Objective → Heard
hear_request n stream session o =
    if is_listened n.registrations o then listened n stream session o (start_reply n.sessions)
    else declines n stream session unlistened

-- the answer to a request for synchronization: the request's objective with the value that is offered
abbrev pub synched : NodeState → ℕ → ℕ → Objective → Option DataItem → Heard
synched n stream session o None = declines n stream session unlistened
synched n stream session o (Some value) = shuts (answer n stream (Synch session (record o { value = Some value })))

-- a request for synchronization: it is answered at once where F_SYNCH is set and a value is offered
abbrev pub hear_synchronization : NodeState → ℕ → ℕ → Objective → Heard
hear_synchronization n stream session o =
    if has_synch o.flags then synched n stream session o (value_offered n.registrations o.name)
    else declines n stream session unlistened

-- the locators of an answer, diverted or not
abbrev pub answered_with : Answer → List Locator
answered_with (Locators locators) = locators
answered_with (Divert locators) = locators

-- the neighbour of this number on the link of this number
abbrev pub on_link : Option (List Neighbour) → ℕ → Option Neighbour
on_link None to = None
on_link (Some neighbours) to = slice_get neighbours to

abbrev pub neighbour_at : NodeState → ℕ → ℕ → Option Neighbour
neighbour_at n link to = on_link (slice_get n.plan.links link) to

-- a message on a stream of its own to a neighbour
abbrev pub dial_neighbour : NodeState → Option Neighbour → Message → NodeState
dial_neighbour n None m = n
dial_neighbour n (Some neighbour) m = dial_with n neighbour.locator m

-- a response that another node asked for is sent on unchanged to the neighbour that caused the discovery
abbrev pub sent_on : NodeState → Message → Option (Answered × Topic) → NodeState
sent_on n m None = n
sent_on n m (Some (Mine, topic)) = n
sent_on n m (Some (Stranger, topic)) = n
sent_on n m (Some (Relay cause, topic)) = dial_neighbour n (neighbour_at n cause.link cause.from) m

-- a response puts its locators into the cache where it was asked for
abbrev pub responded : NodeState → ℕ → List Locator → Message → Option (Answered × Topic) → NodeState
responded n ttl locators m asker = sent_on (with_discoveries n (after_answered n.discoveries (end_of n.reading ttl) locators asker)) m asker

abbrev pub hear_response : NodeState → ℕ → Address → ℕ → Answer → Message → Heard
hear_response n session initiator ttl told m =
    shuts (responded n ttl (answered_with told) m (asker_of n.discoveries n.plan.address (origin_of session initiator)))

-- what may not come first is answered by an M_INVALID of its own session number
abbrev pub hear_strange : NodeState → ℕ → ℕ → Heard
hear_strange n stream session = shuts (answer n stream (Invalid session None))

abbrev pub hear_first : NodeState → ℕ → Message → Heard
hear_first n stream Noop = stays n
hear_first n stream (ReqNeg session o) = hear_request n stream session o
hear_first n stream (ReqSyn session o) = hear_synchronization n stream session o
hear_first n stream (Response session initiator ttl told o) = hear_response n session initiator ttl told (Response session initiator ttl told o)
hear_first n stream (Invalid session detail) = shuts n
hear_first n stream (Discovery session initiator o) = hear_strange n stream session
hear_first n stream (Negotiate session o) = hear_strange n stream session
hear_first n stream (End session verdict) = hear_strange n stream session
hear_first n stream (Wait session millis) = hear_strange n stream session
hear_first n stream (Synch session o) = hear_strange n stream session
hear_first n stream (Flood session initiator ttl parts) = hear_strange n stream session

-- ---- a message

abbrev pub hear_by : NodeState → ℕ → Message → Option (ℕ × Bool) → Heard
hear_by n stream m None = hear_first n stream m
hear_by n stream m (Some state) = hear_later n stream m

unfoldable pub hear : NodeState → ℕ → Message → Heard
hear n stream m = hear_by n stream m (state_reply n.sessions stream)
