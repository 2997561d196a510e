-- The calls on sessions (RFC 8991, sections 2.3.5 to 2.3.7): what they answer, and the node after them.
use Rattle.std.specs.Prelude.{ℕ, Bool, true, false, not, List, [], ◌∷◌, Option, None, Some, Result, Ok, Err}
use Rattle.grasp_cbor.specs.DataItem.{DataItem}
use Rattle.grasp_session.specs.Transcript.{Saying, SayStep, SayWait, SayEnd, SayInvalid}
use Rattle.grasp_session.specs.Sessions.{stream_reply, say_reply, after_say, poll_reply, after_poll, IsTurn, untaken_reply, adopt_reply, after_adopt, start_reply, after_start}
use Rattle.grasp_session.specs.declared.answer.Act.TheVariants as act
use Rattle.grasp_session.specs.declared.answer.SessionRefused.{SessionRefused}
use Rattle.grasp_session.specs.declared.begin.Begin.{Begin}
use Rattle.grasp_types.specs.Objective.{dry_flags}
use Rattle.grasp_types.specs.declared.address.Address.{Address}
use Rattle.grasp_types.specs.declared.address.Address.TheVariants.{V4}
use Rattle.grasp_types.specs.declared.address.Locator.{Locator}
use Rattle.grasp_types.specs.declared.message.Message.{Message}
use Rattle.grasp_types.specs.declared.message.Message.TheVariants.{ReqNeg, ReqSyn}
use Rattle.grasp_types.specs.declared.message.Verdict.{Verdict}
use Rattle.grasp_types.specs.declared.objective.Objective.{Objective}
use Rattle.grasp_types.specs.declared.refusal.ApiRefused.{ApiRefused}
use Rattle.grasp_types.specs.declared.reply.ApiAnswer.{ApiAnswer}
use Rattle.grasp_types.specs.declared.reply.ApiAnswer.TheVariants.{Started, NotYet, Incoming, Polled}
use Rattle.grasp_types.specs.declared.session.Handle.{Handle}
use Rattle.grasp_types.specs.declared.session.Kind.{Kind}
use Rattle.grasp_types.specs.declared.session.Kind.TheVariants.{Negotiation, Synchronization}
use Rattle.grasp_types.specs.declared.session.Progress.{Progress}
use Rattle.grasp_wire.specs.Cutter.{no_past}
use Rattle.grasp_model_node.specs.Answered.{if_answered, IsDone, Is}
use Rattle.grasp_model_node.specs.Draws.{next_session}
use Rattle.grasp_model_node.specs.Moves.{with_sessions, with_draw, begin_closing, dial_record, queue_up}
use Rattle.grasp_model_node.specs.Node.{NodeState}
use Rattle.grasp_model_node.specs.Queue.{send, dial, has_room}
use Rattle.grasp_model_node.specs.Refusals.{MayAnswer, nothing_sent}
use Rattle.grasp_model_node.specs.RegistryCalls.{with_mark}
use Rattle.grasp_model_node.specs.Streams.{next_stream, opener_of}
use Rattle.grasp_model_node.specs.Tests.{act_tests, poll_tests, negotiation_tests, request_tests, synchronize_tests, sending, owned_flags}

-- ---- acts in a session: a step, a wait, an end, an invalid

-- the stream of a session; what has none is 0
abbrev pub stream_or : Option ℕ → ℕ
stream_or None = 0
stream_or (Some stream) = stream

abbrev pub stream_at : NodeState → Handle → ℕ
stream_at n h = stream_or (stream_reply n.sessions h)

-- the message that says this in a session
abbrev pub act_message : NodeState → Handle → Saying → Message
act_message n h saying = say_reply n.sessions h saying

-- this is said in a session: its message is queued for the session's stream
abbrev pub said : NodeState → Handle → Saying → NodeState
said n h saying = queue_up (with_sessions n (after_say n.sessions n.reading h saying)) (send (stream_at n h) (act_message n h saying) ∷ [])

-- this is said in a session as the last: its message is queued, and the session's stream begins closing
abbrev pub said_last : NodeState → Handle → Saying → NodeState
said_last n h saying = begin_closing (said n h saying) (stream_at n h)

abbrev pub MayStep : NodeState → ℕ → Handle → DataItem → Result ApiAnswer ApiRefused → Type 0
MayStep n asa h value = MayAnswer (act_tests n asa h act.Step) (sending n (act_message n h (SayStep value)) 1) (Unit {0}) IsDone

abbrev pub after_step : NodeState → Handle → DataItem → Result ApiAnswer ApiRefused → NodeState
after_step n h value = if_answered n (said n h (SayStep value))

-- a wait fits any limit that a plan may have
abbrev pub MayWait : NodeState → ℕ → Handle → Result ApiAnswer ApiRefused → Type 0
MayWait n asa h = MayAnswer (act_tests n asa h act.Wait) (record { too_long = false; outbox_full = not (has_room n.queue 1) }) (Unit {0}) IsDone

abbrev pub after_wait : NodeState → Handle → ℕ → Result ApiAnswer ApiRefused → NodeState
after_wait n h millis = if_answered n (said n h (SayWait millis))

abbrev pub MayEnd : NodeState → ℕ → Handle → Verdict → Result ApiAnswer ApiRefused → Type 0
MayEnd n asa h verdict = MayAnswer (act_tests n asa h act.End) (sending n (act_message n h (SayEnd verdict)) 1) (Unit {0}) IsDone

abbrev pub after_end : NodeState → Handle → Verdict → Result ApiAnswer ApiRefused → NodeState
after_end n h verdict = if_answered n (said_last n h (SayEnd verdict))

abbrev pub MayInvalid : NodeState → ℕ → Handle → Option DataItem → Result ApiAnswer ApiRefused → Type 0
MayInvalid n asa h detail = MayAnswer (act_tests n asa h act.Invalid) (sending n (act_message n h (SayInvalid detail)) 1) (Unit {0}) IsDone

abbrev pub after_invalid : NodeState → Handle → Option DataItem → Result ApiAnswer ApiRefused → NodeState
after_invalid n h detail = if_answered n (said_last n h (SayInvalid detail))

-- ---- poll: how the session stands; one whose outcome is told leaves

abbrev pub polled : Result Progress SessionRefused → ApiAnswer
polled (Ok progress) = Polled progress
polled (Err refused) = NotYet

abbrev pub MayPollNode : NodeState → ℕ → Handle → Result ApiAnswer ApiRefused → Type 0
MayPollNode n asa h = MayAnswer (poll_tests n asa h) nothing_sent (IsTurn (poll_reply n.sessions asa h)) (Is (polled (poll_reply n.sessions asa h)))

abbrev pub after_polling : NodeState → Handle → Result ApiAnswer ApiRefused → NodeState
after_polling n h (Ok (Polled progress)) = with_sessions n (after_poll n.sessions h (Ok progress))
after_polling n h _ = n

-- ---- listen_negotiate: the objective is listened for, and its untaken session of the least number is this agent's now

-- the address that was told at an opening; what has none is 0
abbrev pub address_or : Option Address → Address
address_or None = V4 0
address_or (Some address) = address

abbrev pub opener_at : NodeState → Handle → Address
opener_at n h = address_or (opener_of n.streams (stream_at n h))

abbrev pub incoming : Handle → Address → Option Objective → ApiAnswer
incoming h from None = NotYet
incoming h from (Some objective) = Incoming h from objective

abbrev pub taken_in : NodeState → Option Handle → ApiAnswer
taken_in n None = NotYet
taken_in n (Some h) = incoming h (opener_at n h) (adopt_reply n.sessions h)

abbrev pub MayListen : NodeState → ℕ → List ℕ → Result ApiAnswer ApiRefused → Type 0
MayListen n asa name = MayAnswer (negotiation_tests n asa name) nothing_sent (Unit {0}) (Is (taken_in n (untaken_reply n.sessions name)))

abbrev pub with_adopted : NodeState → ℕ → Option Handle → NodeState
with_adopted n asa None = n
with_adopted n asa (Some h) = with_sessions n (after_adopt n.sessions asa h)

abbrev pub after_listening : NodeState → ℕ → List ℕ → Result ApiAnswer ApiRefused → NodeState
after_listening n asa name = if_answered n (with_adopted (with_mark n asa name true) asa (untaken_reply n.sessions name))

-- ---- requests: a stream is dialled, the request is queued for it, and a session begins

abbrev pub flags_or : Option ℕ → ℕ
flags_or None = 0
flags_or (Some flags) = flags

-- the objective of a request for negotiation has the registered flags, and F_NEG_DRY exactly where it is dry
abbrev pub negotiated : NodeState → ℕ → List ℕ → DataItem → ℕ → Bool → Objective
negotiated n asa name value loops dry = record { name = name; flags = dry_flags (flags_or (owned_flags n asa name)) dry; loops = loops; value = Some value }

-- the objective of a request for synchronization has the registered flags and no value
abbrev pub synchronized : NodeState → ℕ → List ℕ → ℕ → Objective
synchronized n asa name loops = record { name = name; flags = dry_flags (flags_or (owned_flags n asa name)) false; loops = loops; value = None }

abbrev pub request_of : Kind → ℕ → Objective → Message
request_of Negotiation session o = ReqNeg session o
request_of Synchronization session o = ReqSyn session o

abbrev pub begun_by : NodeState → ℕ → Kind → ℕ → Objective → Begin
begun_by n asa kind timeout o = record {
  owner = asa;
  kind = kind;
  requester = true;
  session = next_session n;
  stream = next_stream n.streams;
  timeout = timeout;
  objective = o;
  taken = true;
}

abbrev pub started : Result Handle SessionRefused → ApiAnswer
started (Ok h) = Started h
started (Err refused) = NotYet

-- the node after an agent's request of this kind for this objective to this peer
abbrev pub requested : NodeState → ℕ → Kind → ℕ → Objective → Locator → NodeState
requested n asa kind timeout o peer =
    queue_up
    (dial_record (with_draw (with_sessions n (after_start n.sessions n.reading (begun_by n asa kind timeout o) (start_reply n.sessions)))) (Some no_past))
    (dial (next_stream n.streams) peer ∷ send (next_stream n.streams) (request_of kind (next_session n) o) ∷ [])

abbrev pub MayRequest : NodeState → ℕ → List ℕ → DataItem → ℕ → Bool → Locator → Result ApiAnswer ApiRefused → Type 0
MayRequest n asa name value loops dry peer =
    MayAnswer (request_tests n asa name dry peer) (sending n (request_of Negotiation (next_session n) (negotiated n asa name value loops dry)) 2)
    (Unit {0}) (Is (started (start_reply n.sessions)))

abbrev pub after_request : NodeState → ℕ → List ℕ → DataItem → ℕ → ℕ → Bool → Locator → Result ApiAnswer ApiRefused → NodeState
after_request n asa name value loops timeout dry peer = if_answered n (requested n asa Negotiation timeout (negotiated n asa name value loops dry) peer)

abbrev pub MaySynchronize : NodeState → ℕ → List ℕ → ℕ → Locator → Result ApiAnswer ApiRefused → Type 0
MaySynchronize n asa name loops peer =
    MayAnswer (synchronize_tests n asa name peer) (sending n (request_of Synchronization (next_session n) (synchronized n asa name loops)) 2)
    (Unit {0}) (Is (started (start_reply n.sessions)))

abbrev pub after_synchronizing : NodeState → ℕ → List ℕ → ℕ → ℕ → Locator → Result ApiAnswer ApiRefused → NodeState
after_synchronizing n asa name loops timeout peer = if_answered n (requested n asa Synchronization timeout (synchronized n asa name loops) peer)
