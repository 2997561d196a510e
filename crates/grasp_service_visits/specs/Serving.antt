-- What a visitor's request makes of its seat, of the node and of the house.
use Rattle.std.specs.Prelude.{ℕ, ◌+◌, ◌-◌, ◌&&◌, nat_le, nat_lt, if◌then◌else◌, Bool, true, false, List, [], ◌∷◌, length, Option, None}
use Rattle.grasp_config.specs.declared.level.LogLevel.{LogLevel}
use Rattle.grasp_control.specs.Answers.{goes_on}
use Rattle.grasp_control.specs.declared.answers.PlainAnswer.TheVariants as plain
use Rattle.grasp_control.specs.declared.request.Request.{Request}
use Rattle.grasp_control.specs.declared.request.Request.TheVariants as request
use Rattle.grasp_crew.specs.Nudges.{Wanted}
use Rattle.grasp_crew.specs.Seats.{SeatState, gate_of, seat_after}
use Rattle.grasp_crew.specs.Steward.{with_want, without_want}
use Rattle.grasp_crew.specs.declared.servant.Servant.{Servant}
use Rattle.grasp_crew.specs.declared.servant.Servant.TheVariants.{Steward, Herald, Listener}
use Rattle.grasp_types.specs.declared.call.Call.{Call}
use Rattle.grasp_types.specs.declared.reply.Reply.{Reply}
use Rattle.grasp_service_visits.specs.Answers.{at_gate}
use Rattle.grasp_service_visits.specs.Calling.{call_at, seat_at, seat_awaiting}
use Rattle.grasp_service_visits.specs.declared.answer.Answer.{Answer}
use Rattle.grasp_service_visits.specs.declared.answer.Answer.TheVariants.{Replied, Plain, State, Wants, Reads, Counters, Version, Later}
use Rattle.grasp_service_visits.specs.declared.house.House.{House}

-- what visitors may look into and give orders to: the agents, how much is logged, and whether the node is to end
pub record HouseState : Type 0 where
  pub crew : List Servant
  pub level : LogLevel
  pub stopping : Bool

abbrev pub house_of : House → HouseState
house_of h = record { crew = h.crew.items; level = h.level; stopping = h.stopping }

-- ---- orders

-- the most wants of a node
abbrev pub most_wants : ℕ
most_wants = 256

-- how many wants the agent of prefixes has, which is the first of a crew
abbrev pub want_count : List Servant → ℕ
want_count [] = 0
want_count (Steward m ∷ crew) = length m.wants
want_count (Herald h ∷ crew) = 0
want_count (Listener l ∷ crew) = 0

-- that agent with one want more
abbrev pub with_want_at : Servant → Wanted → Servant
with_want_at (Steward m) w = Steward (with_want m w)
with_want_at (Herald h) w = Herald h
with_want_at (Listener l) w = Listener l

abbrev pub with_want_of : List Servant → Wanted → List Servant
with_want_of [] w = []
with_want_of (m ∷ crew) w = with_want_at m w ∷ crew

-- that agent without the want at this place
abbrev pub without_want_at : Servant → ℕ → Servant
without_want_at (Steward m) place = Steward (without_want m place)
without_want_at (Herald h) place = Herald h
without_want_at (Listener l) place = Listener l

abbrev pub without_want_of : List Servant → ℕ → List Servant
without_want_of [] place = []
without_want_of (m ∷ crew) place = without_want_at m place ∷ crew

-- one more want is taken where there is room, under the next number
abbrev pub want_answer : List Servant → Answer
want_answer crew = if nat_lt (want_count crew) most_wants then Plain (plain.Taken (want_count crew + 1)) else Plain plain.Full

abbrev pub wants_added : List Servant → Wanted → List Servant
wants_added crew w = if nat_lt (want_count crew) most_wants then with_want_of crew w else crew

-- wants are numbered from 1
abbrev pub is_want : List Servant → ℕ → Bool
is_want crew number = nat_lt 0 number && nat_le number (want_count crew)

abbrev pub unwant_answer : List Servant → ℕ → Answer
unwant_answer crew number = if is_want crew number then Plain plain.Done else Plain plain.Nothing

abbrev pub wants_dropped : List Servant → ℕ → List Servant
wants_dropped crew number = if is_want crew number then without_want_of crew (number - 1) else crew

-- a want's lengths are in order and in range
abbrev pub are_lengths : ℕ → ℕ → Bool
are_lengths least most = nat_le 1 least && nat_le least most && nat_le most 128

-- what an order is answered
abbrev pub order_answer : List Servant → Request → Answer
order_answer crew (request.Want least most peer) = if are_lengths least most then want_answer crew else Plain plain.Denied
order_answer crew (request.Unwant number) = unwant_answer crew number
order_answer crew (request.Log level) = Plain plain.Done
order_answer crew request.Stop = Plain plain.Done
order_answer crew _ = Plain plain.Denied

-- the house after an order
abbrev pub house_ordered : HouseState → Request → HouseState
house_ordered h (request.Want least most peer) = if are_lengths least most then record h {
  crew = wants_added h.crew
      (record { length = least; longest = most; peer = peer });
} else h
house_ordered h (request.Unwant number) = record h { crew = wants_dropped h.crew number }
house_ordered h (request.Log level) = record h { level = level }
house_ordered h request.Stop = record h { stopping = true }
house_ordered h _ = h

-- ---- requests

-- the call that a request makes, where the seat's gate lets it pass
abbrev pub call_of_request : SeatState → Request → Option Call
call_of_request s (request.Call c) = call_at (gate_of s c) c
call_of_request s (request.Await millis c) = call_at (gate_of s c) c
call_of_request s _ = None

-- orders are for those who came in by the door that isn't for guests
abbrev pub is_order : Request → Bool
is_order (request.Want least most peer) = true
is_order (request.Unwant number) = true
is_order (request.Log level) = true
is_order request.Stop = true
is_order _ = false

-- what a request is answered; this is the node's reply where it makes a call
abbrev pub answer_to : List Servant → SeatState → Request → Reply → Answer
answer_to crew s (request.Call c) r = at_gate (gate_of s c) (Replied r)
answer_to crew s (request.Await millis c) r = at_gate (gate_of s c) (if goes_on r then Later else Replied r)
answer_to crew s request.State r = State
answer_to crew s request.Wants r = Wants
answer_to crew s request.Reads r = Reads
answer_to crew s request.Events r = Plain plain.Done
answer_to crew s request.Counters r = Counters
answer_to crew s request.Version r = Version
answer_to crew s q r = if s.guest then Plain plain.Denied else order_answer crew q

-- the seat after a request
abbrev pub seat_to : ℕ → List ℕ → SeatState → Request → Reply → SeatState
seat_to now line s (request.Call c) r = seat_at (gate_of s c) s (seat_after s c r)
seat_to now line s (request.Await millis c) r = seat_at (gate_of s c) s (seat_awaiting now line millis c r (seat_after s c r))
seat_to now line s request.Events r = record s { hears = true }
seat_to now line s _ r = s

-- the house after a request
abbrev pub house_to : SeatState → HouseState → Request → HouseState
house_to s h q = if is_order q then (if s.guest then h else house_ordered h q) else h
