-- What one end of a session sent and kept, newest first, and what it knows from that (RFC 8990, sections 2.5.5 and 2.5.6).
use Rattle.std.specs.Prelude.{ℕ, ◌-◌, max, Bool, true, false, cond, not, ◌&&◌, List, [], ◌∷◌, Option, Some, None, is_none, nat_lt, ◌==◌, if◌then◌else◌, bytes_eq}
use Rattle.grasp_cbor.specs.DataItem.{DataItem}
use Rattle.grasp_types.specs.Reading.{reading_after}
use Rattle.grasp_types.specs.declared.objective.Objective.{Objective}
use Rattle.grasp_types.specs.declared.session.Kind.{Kind}
use Rattle.grasp_types.specs.declared.session.Kind.TheVariants.{Negotiation, Synchronization}
use Rattle.grasp_types.specs.declared.message.Verdict.{Verdict}
use Rattle.grasp_types.specs.declared.message.Verdict.TheVariants.{Accept, Decline}
use Rattle.grasp_types.specs.declared.session.By.{By}
use Rattle.grasp_types.specs.declared.session.By.TheVariants.{Mine, Theirs}
use Rattle.grasp_types.specs.declared.session.Outcome.{Outcome}
use Rattle.grasp_types.specs.declared.session.Outcome.TheVariants as outcome
use Rattle.grasp_types.specs.declared.message.Message.{Message}
use Rattle.grasp_types.specs.declared.message.Message.TheVariants.{Noop, ReqNeg, ReqSyn, Negotiate, Wait, End, Synch, Invalid}
use Rattle.grasp_session.specs.declared.answer.Act.{Act}
use Rattle.grasp_session.specs.declared.answer.Act.TheVariants as act
use Rattle.grasp_session.specs.declared.answer.SessionRefused.{SessionRefused}
use Rattle.grasp_session.specs.declared.answer.SessionRefused.TheVariants.{NotYourTurn, LoopsSpent, WaitsSpent}
use Rattle.grasp_session.specs.declared.answer.Received.{Received}
use Rattle.grasp_session.specs.declared.answer.Received.TheVariants.{Kept, Ignored, Bad}
use Rattle.grasp_session.specs.Messages.{Side, Near, other, is_side, is_last}
use Rattle.grasp_session.specs.Conversation.{Said, says, strip, turn, waits, number, requested, newest_offer, newest_offer_by}

-- a message that this end sent, or that it kept, and the reading at which it did
pub record Entry : Type 0 where
  pub sent : Bool
  pub message : Message
  pub at : ℕ

-- what ended a session from outside: its deadline at this reading, the closing of its stream, want of memory, a bad message
pub data Mark : Type 0 where
  Expired : (now : ℕ) → Mark
  Closed : Mark
  Starved : Mark
  Faulty : Mark

-- what one end saw of its session: what it sent and kept, newest first, and perhaps a last mark
pub record Transcript : Type 0 where
  pub role : Side
  pub kind : Kind
  pub timeout : ℕ
  pub entries : List Entry
  pub mark : Option Mark

-- the side of an entry
abbrev pub side_of : Side → Bool → Side
side_of role true = role
side_of role false = other role

abbrev pub said_of : Side → List Entry → List Said
said_of role [] = []
said_of role (e ∷ es) = says (side_of role e.sent) e.message ∷ said_of role es

-- the conversation as this end knows it, without the invalid messages
abbrev pub known : Transcript → List Said
known v = strip (said_of v.role v.entries)

-- the messages that this end sent, newest first
abbrev pub sent_of : List Entry → List Message
sent_of [] = []
sent_of (e ∷ es) = cond e.sent (e.message ∷ sent_of es) (sent_of es)

-- the messages that it kept, newest first
abbrev pub kept_of : List Entry → List Message
kept_of [] = []
kept_of (e ∷ es) = cond e.sent (kept_of es) (e.message ∷ kept_of es)

-- the session's number and objective, those of the request
abbrev pub session_of : Transcript → ℕ
session_of v = number (known v)

abbrev pub request_of : Transcript → Objective
request_of v = requested (known v)

-- whose turn it is: the listener's after the request and an even number of steps
abbrev pub turn_of : Transcript → Side
turn_of v = turn (known v)

-- the turn is this end's
abbrev pub is_mine : Transcript → Bool
is_mine v = is_side v.role (turn_of v)

-- the waits since the last step or the request
abbrev pub waits_of : Transcript → ℕ
waits_of v = waits (known v)

-- the objective of the last step, or of the request where there is none
abbrev pub last_offer : Transcript → Objective
last_offer v = newest_offer (known v)

-- this end's last offer
abbrev pub my_offer : Transcript → Objective
my_offer v = newest_offer_by v.role (known v)

-- the peer's last offer
abbrev pub peer_offer : Transcript → Objective
peer_offer v = newest_offer_by (other v.role) (known v)

-- the newest message is one after which nothing is kept and nothing sent
abbrev pub is_over : List Entry → Bool
is_over [] = false
is_over (e ∷ es) = is_last e.message

-- the session goes on: there is no outcome
abbrev pub is_going : Transcript → Bool
is_going v = is_none v.mark && not (is_over v.entries)

-- the largest of the last other message's reading with the timeout, and of each later wait's reading with its waiting time (RFC 8990, section 2.8.9)
abbrev pub deadline_from : ℕ → List Entry → ℕ
deadline_from timeout [] = 0
deadline_from timeout (e ∷ es) = after e.message (deadline_from timeout es) where
  after : Message → ℕ → ℕ
  after (Wait n m) d = max d (reading_after e.at m)
  after _ d = reading_after e.at timeout

-- the reading at which the session times out
abbrev pub deadline_of : Transcript → ℕ
deadline_of v = deadline_from v.timeout v.entries

abbrev pub by_of : Bool → By
by_of true = Mine
by_of false = Theirs

-- what an end of a negotiation brings: an acceptance takes the last offer of the other side
abbrev pub verdict_outcome : Transcript → Bool → Verdict → Outcome
verdict_outcome v sent Accept = outcome.Agreed (by_of sent) (newest_offer_by (other (side_of v.role sent)) (known v))
verdict_outcome v sent (Decline reason) = outcome.Declined (by_of sent) reason

abbrev pub message_outcome : Transcript → Bool → Message → Option Outcome
message_outcome v sent (End n verdict) = Some (verdict_outcome v sent verdict)
message_outcome v sent (Synch n o) = Some (outcome.Synchronized o)
message_outcome v sent (Invalid n d) = Some (outcome.Invalid (by_of sent))
message_outcome v sent _ = None

abbrev pub entries_outcome : Transcript → List Entry → Option Outcome
entries_outcome v [] = None
entries_outcome v (e ∷ es) = message_outcome v e.sent e.message

abbrev pub mark_outcome : Transcript → Option Mark → Option Outcome
mark_outcome v None = entries_outcome v v.entries
mark_outcome v (Some (Expired now)) = Some (outcome.TimedOut (deadline_of v) now)
mark_outcome v (Some Closed) = Some outcome.Broken
mark_outcome v (Some Starved) = Some outcome.OutOfMemory
mark_outcome v (Some Faulty) = Some (outcome.Invalid Mine)

-- what came of the session, by its mark or its newest message
abbrev pub outcome_of : Transcript → Option Outcome
outcome_of v = mark_outcome v v.mark

abbrev pub request_message : Kind → ℕ → Objective → Message
request_message Negotiation session o = ReqNeg session o
request_message Synchronization session o = ReqSyn session o

-- the first transcript of an end: the request, which the requester sent and the listener kept
abbrev pub opening : Kind → Side → ℕ → ℕ → ℕ → Objective → Transcript
opening kind role timeout now session o =
    record { role = role; kind = kind; timeout = timeout; entries = record { sent = is_side role Near; message = request_message kind session o; at = now } ∷ []; mark = None }

-- what an end may want to say
pub data Saying : Type 0 where
  SayStep : (value : DataItem) → Saying
  SayWait : (millis : ℕ) → Saying
  SayEnd : (verdict : Verdict) → Saying
  SayInvalid : (detail : Option DataItem) → Saying

abbrev pub act_of : Saying → Act
act_of (SayStep value) = act.Step
act_of (SayWait millis) = act.Wait
act_of (SayEnd verdict) = act.End
act_of (SayInvalid detail) = act.Invalid

-- why this end may not do this now, if it may not: the first refusal that fits
abbrev pub refusal : Transcript → Act → Option SessionRefused
refusal v act.Step = if is_going v && is_mine v then (if nat_lt 1 (last_offer v).loops then None else Some LoopsSpent) else Some NotYourTurn
refusal v act.Wait = if is_going v && is_mine v then (if nat_lt (waits_of v) 4 then None else Some WaitsSpent) else Some NotYourTurn
refusal v act.End = if is_going v && is_mine v then None else Some NotYourTurn
refusal v act.Invalid = if is_going v then None else Some NotYourTurn

-- the objective of a step with this value: the request's name and flags, and the last loop count less one
abbrev pub step_objective : Transcript → DataItem → Objective
step_objective v value = record { name = (request_of v).name; flags = (request_of v).flags; loops = (last_offer v).loops - 1; value = Some value }

-- the message that it sends
abbrev pub message_of : Transcript → Saying → Message
message_of v (SayStep value) = Negotiate (session_of v) (step_objective v value)
message_of v (SayWait millis) = Wait (session_of v) millis
message_of v (SayEnd verdict) = End (session_of v) verdict
message_of v (SayInvalid detail) = Invalid (session_of v) detail

abbrev pub with_sent : Transcript → ℕ → Message → Transcript
with_sent v now m = record { role = v.role; kind = v.kind; timeout = v.timeout; entries = record { sent = true; message = m; at = now } ∷ v.entries; mark = v.mark }

-- after this end said this at this reading
abbrev pub having_said : Transcript → ℕ → Saying → Transcript
having_said v now s = with_sent v now (message_of v s)

abbrev pub after_said : Transcript → ℕ → Saying → Option SessionRefused → Transcript
after_said v now s None = having_said v now s
after_said v now s (Some refused) = v

-- a step that is kept: the request's name and flags, and a loop count from 1 to the last one less one
abbrev pub is_good_step : Transcript → Objective → Bool
is_good_step v o = bytes_eq o.name (request_of v).name && (o.flags == (request_of v).flags) && nat_lt 0 o.loops && nat_lt o.loops (last_offer v).loops

-- the number is the session's, and the turn is the peer's
abbrev pub is_awaited : Transcript → ℕ → Bool
is_awaited v n = (n == session_of v) && not (is_mine v)

abbrev pub is_negotiation : Kind → Bool
is_negotiation Negotiation = true
is_negotiation Synchronization = false

-- an acceptance ends a negotiation alone
abbrev pub may_end : Kind → Verdict → Bool
may_end kind Accept = is_negotiation kind
may_end kind (Decline reason) = true

-- what becomes of any message that comes while there is no outcome
abbrev pub receive_going : Transcript → Message → Received
receive_going v (Negotiate n o) = if is_negotiation v.kind && (is_awaited v n && is_good_step v o) then Kept else Bad
receive_going v (Wait n m) = if is_awaited v n && nat_lt (waits_of v) 4 then Kept else Bad
receive_going v (End n verdict) = if may_end v.kind verdict && is_awaited v n then Kept else Bad
receive_going v (Synch n o) = if not (is_negotiation v.kind) && (is_awaited v n && bytes_eq o.name (request_of v).name) then Kept else Bad
receive_going v (Invalid n d) = Kept
receive_going v Noop = Ignored
receive_going v _ = Bad

-- what becomes of any message that comes
abbrev pub receive : Transcript → Message → Received
receive v m = if is_going v then receive_going v m else Ignored

abbrev pub with_kept : Transcript → ℕ → Message → Transcript
with_kept v now m = record { role = v.role; kind = v.kind; timeout = v.timeout; entries = record { sent = false; message = m; at = now } ∷ v.entries; mark = v.mark }

abbrev pub with_mark : Transcript → Mark → Transcript
with_mark v mark = record { role = v.role; kind = v.kind; timeout = v.timeout; entries = v.entries; mark = Some mark }

-- the mark, where there is no outcome yet
abbrev pub marked : Transcript → Mark → Transcript
marked v mark = if is_going v then with_mark v mark else v

abbrev pub after_received : Transcript → ℕ → Message → Received → Transcript
after_received v now m Kept = with_kept v now m
after_received v now m Ignored = v
after_received v now m Bad = v

-- the transcript after a message that is kept, ignored or bad, where a bad message ends the session
abbrev pub after_heard : Transcript → ℕ → Message → Received → Transcript
after_heard v now m Kept = with_kept v now m
after_heard v now m Ignored = v
after_heard v now m Bad = with_mark v Faulty

-- what may befall one end, whatever its peer is
pub data Deed : Type 0 where
  Does : (now : ℕ) (saying : Saying) → Deed
  Gets : (now : ℕ) (message : Message) → Deed
  Suffers : (mark : Mark) → Deed

abbrev pub after_deed : Transcript → Deed → Transcript
after_deed v (Does now s) = after_said v now s (refusal v (act_of s))
after_deed v (Gets now m) = after_heard v now m (receive v m)
after_deed v (Suffers mark) = marked v mark

abbrev pub after_deeds : Transcript → List Deed → Transcript
after_deeds v [] = v
after_deeds v (d ∷ ds) = after_deeds (after_deed v d) ds
