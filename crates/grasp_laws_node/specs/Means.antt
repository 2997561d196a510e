-- What each answer of a call in a session means, in plain facts (RFC 8991, section 2.3.5).
use Rattle.std.specs.Prelude.{◌≡◌, ◌≤◌, ◌<◌, ◌+◌, ◌-◌, ◌++◌, ℕ, true, false, List, [], ◌∷◌, length, Option, None, Some, Ok, map}
use Rattle.grasp_asa.specs.Answers.{marked}
use Rattle.grasp_asa.specs.Registrations.{Registrations, is_registered}
use Rattle.grasp_cbor.specs.DataItem.{DataItem}
use Rattle.grasp_session.specs.Says.{IsAt}
use Rattle.grasp_session.specs.Sessions.{SessionState, session_owned, with_place, with_transcript, with_owner, left}
use Rattle.grasp_session.specs.Transcript.{Saying, SayStep, SayWait, SayEnd, SayInvalid, having_said, is_going, is_mine, last_offer, peer_offer, outcome_of, request_of, session_of, waits_of}
use Rattle.grasp_types.specs.Objective.{has_neg}
use Rattle.grasp_types.specs.declared.address.Address.{Address}
use Rattle.grasp_types.specs.declared.message.Message.{Message}
use Rattle.grasp_types.specs.declared.message.Message.TheVariants.{Negotiate, Wait, End, Invalid}
use Rattle.grasp_types.specs.declared.message.Verdict.{Verdict}
use Rattle.grasp_types.specs.declared.objective.Objective.{Objective}
use Rattle.grasp_types.specs.declared.reply.ApiAnswer.{ApiAnswer}
use Rattle.grasp_types.specs.declared.reply.ApiAnswer.TheVariants as answer
use Rattle.grasp_types.specs.declared.session.Handle.{Handle}
use Rattle.grasp_types.specs.declared.session.Outcome.{Outcome}
use Rattle.grasp_types.specs.declared.session.Progress.TheVariants as progress
use Rattle.grasp_model_node.specs.Node.{NodeState}
use Rattle.grasp_model_node.specs.Queue.{send, encoding}
use Rattle.grasp_model_node.specs.SessionCalls.{MayStep, after_step, MayWait, after_wait, MayEnd, after_end, MayInvalid, after_invalid, MayPollNode, after_polling, MayListen, after_listening, address_or}
use Rattle.grasp_model_node.specs.BoundedNodes.{IsBoundedNode}
use Rattle.grasp_model_node.specs.Streams.{closing, past_of, opener_of}
use Rattle.grasp_model_node.specs.Tests.{owned_flags}

-- ---- a step, a wait, an end, an invalid

-- a registered agent has this session, which is live
pub record Holds (n : NodeState) (asa : ℕ) (h : Handle) (x : SessionState) : Type 0 where
  pub registered : is_registered n.registrations asa ≡ true
  pub owned : session_owned n.sessions asa h ≡ Some x

-- the message has no more bytes than the limit, and there is room for so many outputs
pub record Fits (n : NodeState) (m : Message) (count : ℕ) : Type 0 where
  pub bytes : length (encoding m) ≤ n.plan.limit
  pub room : length n.queue + count ≤ 256

-- the session has said this at the reading, and the message is queued for its stream, behind all others; nothing else has changed
abbrev pub having_sent : NodeState → Handle → SessionState → Saying → Message → NodeState
having_sent n h x saying m = record n {
  sessions = with_place n.sessions h.place (Some (with_transcript x (having_said x.view n.reading saying)));
  queue = n.queue ++ send x.stream m ∷ [];
}

-- the session has said this at the clock reading, the message is queued behind all others, and the session's stream begins closing
abbrev pub having_ended : NodeState → Handle → SessionState → Saying → Message → NodeState
having_ended n h x saying m = record (having_sent n h x saying m) { streams = closing n.streams x.stream }

-- a step: the session's number, the request's name and flags, the last loop count less one, and the value
abbrev pub step_sent : SessionState → DataItem → Message
step_sent x value =
    Negotiate (session_of x.view)
    (record { name = (request_of x.view).name; flags = (request_of x.view).flags; loops = (last_offer x.view).loops - 1; value = Some value })

pub record StepFacts (n : NodeState) (asa : ℕ) (h : Handle) (value : DataItem) (a : ApiAnswer) (after : NodeState) : Type 0 where
  pub done : a ≡ answer.Done
  pub session : SessionState
  pub holds : Holds n asa h session
  -- the session had no outcome, it was the agent's turn, and the last offer's loop count was above 1
  pub going : is_going session.view ≡ true
  pub mine : is_mine session.view ≡ true
  pub loops : 1 < (last_offer session.view).loops
  pub fits : Fits n (step_sent session value) 1
  pub leads : after ≡ having_sent n h session (SayStep value) (step_sent session value)

abbrev pub StepMeans : Type 0
StepMeans = (n : NodeState) (asa : ℕ) (h : Handle) (value : DataItem) (a : ApiAnswer) → IsBoundedNode n → MayStep n asa h value (Ok a)
    → StepFacts n asa h value a (after_step n h value (Ok a))

pub record WaitFacts (n : NodeState) (asa : ℕ) (h : Handle) (millis : ℕ) (a : ApiAnswer) (after : NodeState) : Type 0 where
  pub done : a ≡ answer.Done
  pub session : SessionState
  pub holds : Holds n asa h session
  -- the session had no outcome, it was the agent's turn, and fewer than 4 waits came since the last offer
  pub going : is_going session.view ≡ true
  pub mine : is_mine session.view ≡ true
  pub waits : waits_of session.view < 4
  pub room : length n.queue + 1 ≤ 256
  pub leads : after ≡ having_sent n h session (SayWait millis) (Wait (session_of session.view) millis)

abbrev pub WaitMeans : Type 0
WaitMeans = (n : NodeState) (asa : ℕ) (h : Handle) (millis : ℕ) (a : ApiAnswer) → IsBoundedNode n → MayWait n asa h (Ok a)
    → WaitFacts n asa h millis a (after_wait n h millis (Ok a))

pub record EndFacts (n : NodeState) (asa : ℕ) (h : Handle) (verdict : Verdict) (a : ApiAnswer) (after : NodeState) : Type 0 where
  pub done : a ≡ answer.Done
  pub session : SessionState
  pub holds : Holds n asa h session
  -- the session had no outcome, and it was the agent's turn
  pub going : is_going session.view ≡ true
  pub mine : is_mine session.view ≡ true
  pub fits : Fits n (End (session_of session.view) verdict) 1
  pub leads : after ≡ having_ended n h session (SayEnd verdict) (End (session_of session.view) verdict)
  pub closes : past_of after.streams session.stream ≡ None

abbrev pub EndMeans : Type 0
EndMeans = (n : NodeState) (asa : ℕ) (h : Handle) (verdict : Verdict) (a : ApiAnswer) → IsBoundedNode n → MayEnd n asa h verdict (Ok a)
    → EndFacts n asa h verdict a (after_end n h verdict (Ok a))

pub record InvalidFacts (n : NodeState) (asa : ℕ) (h : Handle) (detail : Option DataItem) (a : ApiAnswer) (after : NodeState) : Type 0 where
  pub done : a ≡ answer.Done
  pub session : SessionState
  pub holds : Holds n asa h session
  -- the session had no outcome; whose turn it was doesn't matter
  pub going : is_going session.view ≡ true
  pub fits : Fits n (Invalid (session_of session.view) detail) 1
  pub leads : after ≡ having_ended n h session (SayInvalid detail) (Invalid (session_of session.view) detail)
  pub closes : past_of after.streams session.stream ≡ None

abbrev pub InvalidMeans : Type 0
InvalidMeans = (n : NodeState) (asa : ℕ) (h : Handle) (detail : Option DataItem) (a : ApiAnswer) → IsBoundedNode n → MayInvalid n asa h detail (Ok a)
    → InvalidFacts n asa h detail a (after_invalid n h detail (Ok a))

-- ---- poll

pub record PollFacts (n : NodeState) (asa : ℕ) (h : Handle) (a : ApiAnswer) (after : NodeState) : Type 0 where
  pub session : SessionState
  pub holds : Holds n asa h session
  -- an outcome is told, and with that the session is no longer live
  pub ended : (outcome : Outcome) → outcome_of session.view ≡ Some outcome → (a ≡ answer.Polled (progress.Ended outcome)) × (after ≡ record n { sessions = left n.sessions h session })
  -- without one the peer's last offer is told where the turn is the agent's, and nothing has changed
  pub turn : outcome_of session.view ≡ None → is_mine session.view ≡ true → (a ≡ answer.Polled (progress.Turn (peer_offer session.view))) × (after ≡ n)
  pub waiting : outcome_of session.view ≡ None → is_mine session.view ≡ false → (a ≡ answer.Polled progress.NotYet) × (after ≡ n)

abbrev pub PollMeans : Type 0
PollMeans = (n : NodeState) (asa : ℕ) (h : Handle) (a : ApiAnswer) → MayPollNode n asa h (Ok a) → PollFacts n asa h a (after_polling n h (Ok a))

-- ---- listen_negotiate

-- the agent has registered the objective, for negotiation
pub record Negotiates (n : NodeState) (asa : ℕ) (name : List ℕ) : Type 0 where
  pub registered : is_registered n.registrations asa ≡ true
  pub flags : ℕ
  pub own : owned_flags n asa name ≡ Some flags
  pub has : has_neg flags ≡ true

-- no agent has taken the session, and its request is for this objective
pub record IsUntaken (name : List ℕ) (x : SessionState) : Type 0 where
  pub owner : x.owner ≡ 0
  pub name_is : (request_of x.view).name ≡ name

-- the objective is marked as listened for
abbrev pub having_marked : Registrations → List ℕ → Registrations
having_marked r name = record r { objectives = map (marked name true) r.objectives }

-- an untaken session was there: that of the least number is the agent's now, and its peer and its request are told
pub record Takes (n : NodeState) (asa : ℕ) (name : List ℕ) (h : Handle) (from : Address) (o : Objective) (after : NodeState) : Type 0 where
  pub session : SessionState
  pub at : IsAt n.sessions h.place session
  pub number : session.number ≡ h.number
  pub untaken : IsUntaken name session
  pub least : (place : ℕ) (x : SessionState) → IsAt n.sessions place x → IsUntaken name x → h.number ≤ x.number
  pub peer : from ≡ address_or (opener_of n.streams session.stream)
  pub request : o ≡ request_of session.view
  pub leads : after ≡ record n { registrations = having_marked n.registrations name; sessions = with_place n.sessions h.place (Some (with_owner session asa)) }

abbrev pub ListenTells : NodeState → ℕ → List ℕ → ApiAnswer → NodeState → Type 0
ListenTells n asa name (answer.Incoming h from o) after = Takes n asa name h from o after
ListenTells n asa name answer.NotYet after =
    ((place : ℕ) (x : SessionState) → IsAt n.sessions place x → IsUntaken name x → ⊥) × (after ≡ record n { registrations = having_marked n.registrations name })
ListenTells n asa name _ after = ⊥

pub record ListenFacts (n : NodeState) (asa : ℕ) (name : List ℕ) (a : ApiAnswer) (after : NodeState) : Type 0 where
  pub negotiates : Negotiates n asa name
  pub tells : ListenTells n asa name a after

abbrev pub ListenMeans : Type 0
ListenMeans = (n : NodeState) (asa : ℕ) (name : List ℕ) (a : ApiAnswer) → MayListen n asa name (Ok a) → ListenFacts n asa name a (after_listening n asa name (Ok a))
