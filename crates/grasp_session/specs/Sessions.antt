-- The sessions of a node by what each of its ends saw, and what each call answers and does (RFC 8990, section 2.5).
use Rattle.std.specs.Prelude.{◌≡◌, ℕ, ◌+◌, ◌-◌, ◌^◌, ◌<◌, Bool, true, false, not, ◌&&◌, ◌||◌, List, [], ◌∷◌, Option, Some, None, is_some, Result, Ok, Err, is_none, position, replicate, count_by, slice_index_or, slice_set, nat_lt, nat_le, ◌==◌, if◌then◌else◌, bytes_eq}
use Rattle.grasp_types.specs.declared.session.Handle.{Handle}
use Rattle.grasp_types.specs.declared.objective.Objective.{Objective}
use Rattle.grasp_types.specs.declared.session.Kind.TheVariants.{Synchronization}
use Rattle.grasp_types.specs.declared.session.Outcome.{Outcome}
use Rattle.grasp_types.specs.declared.session.Progress.{Progress}
use Rattle.grasp_types.specs.declared.session.Progress.TheVariants.{NotYet, Turn, Ended}
use Rattle.grasp_types.specs.declared.message.Verdict.{Verdict}
use Rattle.grasp_types.specs.declared.message.Verdict.TheVariants.{Accept, Decline}
use Rattle.grasp_types.specs.declared.message.Message.{Message}
use Rattle.grasp_types.specs.declared.message.Message.TheVariants.{Noop}
use Rattle.grasp_session.specs.declared.answer.Act.{Act}
use Rattle.grasp_session.specs.declared.answer.Act.TheVariants as act
use Rattle.grasp_session.specs.declared.answer.Received.{Received}
use Rattle.grasp_session.specs.declared.answer.Received.TheVariants.{Kept, Ignored, Bad}
use Rattle.grasp_session.specs.declared.answer.SessionRefused.{SessionRefused}
use Rattle.grasp_session.specs.declared.answer.SessionRefused.TheVariants.{SessionsFull, NoSession, NotYourTurn, LoopsSpent, WaitsSpent, OutOfMemory}
use Rattle.grasp_session.specs.declared.begin.Begin.{Begin}
use Rattle.grasp_session.specs.Messages.{Side, Near, Far, is_side}
use Rattle.grasp_session.specs.Transcript.{Mark, Expired, Transcript, opening, session_of, request_of, last_offer, peer_offer, is_mine, is_going, deadline_of, outcome_of, refusal, Saying, message_of, having_said, receive, after_received, with_mark}

-- a session of this node: how many had been made with it, the agent that holds it (0 where none has taken it), its stream, and what this end saw
pub record SessionState : Type 0 where
  pub number : ℕ
  pub owner : ℕ
  pub stream : ℕ
  pub view : Transcript

abbrev pub with_transcript : SessionState → Transcript → SessionState
with_transcript x v = record { number = x.number; owner = x.owner; stream = x.stream; view = v }

abbrev pub with_owner : SessionState → ℕ → SessionState
with_owner x owner = record { number = x.number; owner = owner; stream = x.stream; view = x.view }

abbrev pub owner_of : Option SessionState → Option ℕ
owner_of None = None
owner_of (Some x) = Some x.owner

-- how many sessions were made, the 64 places, each empty or with a live session, and the sessions that are no longer live, newest first
pub record Sessions : Type 0 where
  pub made : ℕ
  pub places : List (Option SessionState)
  pub gone : List SessionState

abbrev pub no_sessions : Sessions
no_sessions = record { made = 0; places = replicate 64 None; gone = [] }

-- the requester is near, the listener is far
abbrev pub role_of : Bool → Side
role_of true = Near
role_of false = Far

-- a session that begins with its request at this reading
abbrev pub begun_state : ℕ → ℕ → Begin → SessionState
begun_state now number b = record { number = number; owner = b.owner; stream = b.stream; view = opening b.kind (role_of b.requester) b.timeout now b.session b.objective }

-- what lies at a place, if it has this number
abbrev pub if_number : {A : Type 0} → (A → ℕ) → ℕ → Option A → Option A
if_number number n None = None
if_number number n (Some x) = if number x == n then Some x else None

-- the live session with this handle
abbrev pub session_at : Sessions → Handle → Option SessionState
session_at z h = if_number (λ x. x.number) h.number (slice_index_or z.places h.place None)

-- a session, if it has this owner
abbrev pub if_owner : {A : Type 0} → (A → ℕ) → ℕ → Option A → Option A
if_owner owner n None = None
if_owner owner n (Some x) = if owner x == n then Some x else None

-- the live session of this owner with this handle
abbrev pub session_owned : Sessions → ℕ → Handle → Option SessionState
session_owned z owner h = if_owner (λ x. x.owner) owner (session_at z h)

-- the handle of the session at this place, if that passes and its number is not above the number of the handle that is given; else the handle that is given
abbrev pub older : {A : Type 0} → (A → ℕ) → (A → Bool) → ℕ → Option A → Option Handle → Option Handle
older number test place None rest = rest
older number test place (Some x) rest = if test x && is_oldest (number x) rest then Some (record { place = place; number = number x }) else rest where
  is_oldest : ℕ → Option Handle → Bool
  is_oldest n None = true
  is_oldest n (Some h) = nat_le n h.number

-- the handle of the session with the least number that passes, in these places, of which the first has this index
abbrev pub oldest_from : {A : Type 0} → (A → ℕ) → (A → Bool) → ℕ → List (Option A) → Option Handle
oldest_from number test place [] = None
oldest_from number test place (x ∷ xs) = older number test place x (oldest_from number test (place + 1) xs)

abbrev pub oldest : (SessionState → Bool) → Sessions → Option Handle
oldest test z = oldest_from (λ x. x.number) test 0 z.places

abbrev pub found : Sessions → Option Handle → Option SessionState
found z None = None
found z (Some h) = session_at z h

-- the session on this stream
abbrev pub on_stream : Sessions → ℕ → Option Handle
on_stream z stream = oldest (λ x. x.stream == stream) z

-- how many sessions are live
abbrev pub live_count : Sessions → ℕ
live_count z = count_by is_some z.places

-- 64 sessions are live, or no number is left
abbrev pub is_full : Sessions → Bool
is_full z = nat_le 64 (live_count z) || (z.made == 2 ^ 64 - 1)

abbrev pub with_place : Sessions → ℕ → Option SessionState → Sessions
with_place z place x = record { made = z.made; places = slice_set z.places place x; gone = z.gone }

-- the session is no longer live
abbrev pub left : Sessions → Handle → SessionState → Sessions
left z h x = record { made = z.made; places = slice_set z.places h.place None; gone = x ∷ z.gone }

-- no agent has taken it, and it has an outcome
abbrev pub is_leaving : SessionState → Bool
is_leaving x = (x.owner == 0) && not (is_going x.view)

-- the session is this one now. One that no agent has taken leaves with its outcome
abbrev pub changed : Sessions → Handle → SessionState → Sessions
changed z h x = if is_leaving x then left z h x else with_place z h.place (Some x)

-- what may begin: a synchronization is a requester's, `taken` is false exactly where the owner is 0, and the owner is 0 for a listener's session alone
pub record IsProper (b : Begin) : Type 0 where
  pub synchronization : b.kind ≡ Synchronization → b.requester ≡ true
  pub taken : b.taken ≡ not (b.owner == 0)
  pub untaken : b.owner ≡ 0 → b.requester ≡ false

-- the least place without a session
abbrev pub empty_place : Sessions → Option ℕ
empty_place z = position is_none z.places

-- start: the least empty place and the next number, where there is room
abbrev pub place_given : ℕ → Option ℕ → Result Handle SessionRefused
place_given made None = Err SessionsFull
place_given made (Some place) = Ok (record { place = place; number = made + 1 })

abbrev pub start_reply : Sessions → Result Handle SessionRefused
start_reply z = if is_full z then Err SessionsFull else place_given z.made (empty_place z)

abbrev pub after_start : Sessions → ℕ → Begin → Result Handle SessionRefused → Sessions
after_start z now begin (Ok h) = record { made = h.number; places = slice_set z.places h.place (Some (begun_state now h.number begin)); gone = z.gone }
after_start z now begin (Err refused) = z

-- check: the first refusal that fits
abbrev pub if_refused : Option SessionRefused → Result (Unit {0}) SessionRefused
if_refused None = Ok tt
if_refused (Some refused) = Err refused

abbrev pub check_reply : Sessions → ℕ → Handle → Act → Result (Unit {0}) SessionRefused
check_reply z owner h act = by_state (session_owned z owner h) where
  by_state : Option SessionState → Result (Unit {0}) SessionRefused
  by_state None = Err NoSession
  by_state (Some x) = if_refused (refusal x.view act)

-- the refusals of an act
abbrev pub MayRefuse : Act → SessionRefused → Type 0
MayRefuse a NoSession = Unit {0}
MayRefuse a NotYourTurn = Unit {0}
MayRefuse act.Step LoopsSpent = Unit {0}
MayRefuse act.Wait WaitsSpent = Unit {0}
MayRefuse a refused = ⊥

-- step, wait, end and invalid: the message, and the session that has said it
abbrev pub say_reply : Sessions → Handle → Saying → Message
say_reply z h saying = by_state (session_at z h) where
  by_state : Option SessionState → Message
  by_state None = Noop
  by_state (Some x) = message_of x.view saying

abbrev pub after_say : Sessions → ℕ → Handle → Saying → Sessions
after_say z now h saying = by_state (session_at z h) where
  by_state : Option SessionState → Sessions
  by_state None = z
  by_state (Some x) = changed z h (with_transcript x (having_said x.view now saying))

-- end: memory is wanted for the copy of a reason alone, which a session keeps that an agent has taken
abbrev pub MayStarve : ℕ → Verdict → Type 0
MayStarve owner Accept = ⊥
MayStarve owner (Decline None) = ⊥
MayStarve owner (Decline (Some reason)) = 0 < owner

-- a message that comes on a stream: what becomes of it, and the session that keeps it
abbrev pub receive_reply : Sessions → ℕ → Message → Received
receive_reply z stream message = by_state (found z (on_stream z stream)) where
  by_state : Option SessionState → Received
  by_state None = Ignored
  by_state (Some x) = receive x.view message

abbrev pub keep_at : Sessions → ℕ → Message → Option Handle → Sessions
keep_at z now message None = z
keep_at z now message (Some h) = by_state (session_at z h) where
  by_state : Option SessionState → Sessions
  by_state None = z
  by_state (Some x) = changed z h (with_transcript x (after_received x.view now message Kept))

abbrev pub after_receive : Sessions → ℕ → ℕ → Message → Received → Sessions
after_receive z now stream message Kept = keep_at z now message (on_stream z stream)
after_receive z now stream message Ignored = z
after_receive z now stream message Bad = z

-- poll: how far the session is. One whose outcome was told is no longer live
abbrev pub progress_of : Transcript → Progress
progress_of v = by_outcome (outcome_of v) where
  by_outcome : Option Outcome → Progress
  by_outcome (Some outcome) = Ended outcome
  by_outcome None = if is_mine v then Turn (peer_offer v) else NotYet

abbrev pub poll_reply : Sessions → ℕ → Handle → Result Progress SessionRefused
poll_reply z owner h = by_state (session_owned z owner h) where
  by_state : Option SessionState → Result Progress SessionRefused
  by_state None = Err NoSession
  by_state (Some x) = Ok (progress_of x.view)

abbrev pub IsTurn : Result Progress SessionRefused → Type 0
IsTurn (Ok (Turn objective)) = Unit {0}
IsTurn _ = ⊥

-- memory is wanted for an offer alone
abbrev pub MayPoll : Sessions → ℕ → Handle → Result Progress SessionRefused → Type 0
MayPoll z owner h (Err OutOfMemory) = IsTurn (poll_reply z owner h)
MayPoll z owner h result = result ≡ poll_reply z owner h

abbrev pub leave_at : Sessions → Handle → Option SessionState → Sessions
leave_at z h None = z
leave_at z h (Some x) = left z h x

abbrev pub after_poll : Sessions → Handle → Result Progress SessionRefused → Sessions
after_poll z h (Ok (Ended outcome)) = leave_at z h (session_at z h)
after_poll z h _ = z

-- what ends a session from outside, where it has no outcome
abbrev pub mark_at : Sessions → Mark → Option Handle → Sessions
mark_at z mark None = z
mark_at z mark (Some h) = by_state (session_at z h) where
  by_state : Option SessionState → Sessions
  by_state None = z
  by_state (Some x) = if is_going x.view then changed z h (with_transcript x (with_mark x.view mark)) else z

abbrev pub after_mark : Sessions → ℕ → Mark → Sessions
after_mark z stream mark = mark_at z mark (on_stream z stream)

-- the session of the least number without an outcome whose deadline this reading has reached
abbrev pub due : Sessions → ℕ → Option Handle
due z now = oldest (λ x. is_going x.view && nat_le (deadline_of x.view) now) z

abbrev pub stream_of : Option SessionState → Option ℕ
stream_of None = None
stream_of (Some x) = Some x.stream

abbrev pub expire_reply : Sessions → ℕ → Option ℕ
expire_reply z now = stream_of (found z (due z now))

abbrev pub after_expire : Sessions → ℕ → Sessions
after_expire z now = mark_at z (Expired now) (due z now)

-- the look-ups
abbrev pub state_reply : Sessions → ℕ → Option (ℕ × Bool)
state_reply z stream = by_state (found z (on_stream z stream)) where
  by_state : Option SessionState → Option (ℕ × Bool)
  by_state None = None
  by_state (Some x) = Some (session_of x.view, not (is_going x.view))

abbrev pub stream_reply : Sessions → Handle → Option ℕ
stream_reply z h = stream_of (session_at z h)

abbrev pub going_at : Sessions → Handle → Option SessionState
going_at z h = by_state (session_at z h) where
  by_state : Option SessionState → Option SessionState
  by_state None = None
  by_state (Some x) = if is_going x.view then Some x else None

abbrev pub session_reply : Sessions → Handle → Option ℕ
session_reply z h = by_state (going_at z h) where
  by_state : Option SessionState → Option ℕ
  by_state None = None
  by_state (Some x) = Some (session_of x.view)

abbrev pub last_reply : Sessions → Handle → Option Objective
last_reply z h = by_state (going_at z h) where
  by_state : Option SessionState → Option Objective
  by_state None = None
  by_state (Some x) = Some (last_offer x.view)

-- a live session that this end requested has this session number
abbrev pub is_used : Sessions → ℕ → Bool
is_used z session = is_some (oldest (λ x. is_side x.view.role Near && (session_of x.view == session)) z)

-- the session of the least number that no agent has taken and whose objective has this name
abbrev pub untaken_reply : Sessions → List ℕ → Option Handle
untaken_reply z name = oldest (λ x. (x.owner == 0) && bytes_eq (request_of x.view).name name) z

-- the session of the least number above this one that no agent has taken and whose objective has this name
abbrev pub untaken_above_reply : Sessions → List ℕ → ℕ → Option Handle
untaken_above_reply z name number = oldest (λ x. nat_lt number x.number && (x.owner == 0) && bytes_eq (request_of x.view).name name) z

-- the session of the least number of this owner
abbrev pub owner_reply : Sessions → ℕ → Option Handle
owner_reply z owner = oldest (λ x. x.owner == owner) z

-- adopt: the request's objective, and the session that has this owner
abbrev pub adopt_reply : Sessions → Handle → Option Objective
adopt_reply z h = by_state (session_at z h) where
  by_state : Option SessionState → Option Objective
  by_state None = None
  by_state (Some x) = Some (request_of x.view)

abbrev pub after_adopt : Sessions → ℕ → Handle → Sessions
after_adopt z owner h = by_state (session_at z h) where
  by_state : Option SessionState → Sessions
  by_state None = z
  by_state (Some x) = with_place z h.place (Some (with_owner x owner))

-- remove: the session is no longer live
abbrev pub after_remove : Sessions → Handle → Sessions
after_remove z h = leave_at z h (session_at z h)
