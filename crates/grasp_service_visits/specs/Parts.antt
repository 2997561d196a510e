-- Inside: what the parts of a visit come to, as the code has them.
use Rattle.std.specs.Prelude.{◌≡◌, ℕ, Bool, true, false, List, [], ◌∷◌, ◌++◌, if◌then◌else◌, Option, None, Some, length}
use Rattle.grasp_control.specs.Answers.{answer_line, goes_on}
use Rattle.grasp_control.specs.Events.{event_line, event_words}
use Rattle.grasp_control.specs.declared.answers.PlainAnswer.TheVariants as plain
use Rattle.grasp_control.specs.declared.events.NodeEvent.TheVariants as event
use Rattle.grasp_control.specs.declared.request.Request.{Request}
use Rattle.grasp_core.specs.declared.node_core.NodeCore.{NodeCore}
use Rattle.grasp_crew.specs.Seats.{SeatState, gate_of, seat_input, seat_after, awaiting, without_await, leaving}
use Rattle.grasp_crew.specs.declared.seat.Awaiting.{Awaiting}
use Rattle.grasp_crew.specs.declared.servant.Servant.{Servant}
use Rattle.grasp_desk.specs.declared.desk.Told.{Told}
use Rattle.grasp_desk.specs.declared.desk.Visiting.TheVariants.{Line, Left}
use Rattle.grasp_desk.specs.declared.desk.Visiting.{Visiting}
use Rattle.grasp_shared.specs.Adding.{Adds}
use Rattle.grasp_shared.specs.Calls.{GoesOn, answered}
use Rattle.grasp_text.specs.Words.{spaced}
use Rattle.grasp_types.specs.declared.call.Call.{Call}
use Rattle.grasp_types.specs.declared.reply.ApiAnswer.TheVariants as api
use Rattle.grasp_types.specs.declared.reply.ApiAnswer.{ApiAnswer}
use Rattle.grasp_types.specs.declared.reply.Reply.TheVariants as node
use Rattle.grasp_types.specs.declared.reply.Reply.{Reply}
use Rattle.grasp_service_visits.specs.Answers.{at_gate, told_answer, words_of_answer}
use Rattle.grasp_service_visits.specs.Calling.{call_at, seat_at, seat_awaiting, is_starved, goodbye_call, goodbye_seat}
use Rattle.grasp_service_visits.specs.Desks.{is_visit}
use Rattle.grasp_service_visits.specs.Each.{each_after, each_adds}
use Rattle.grasp_service_visits.specs.Serving.{house_of, call_of_request, answer_to, seat_to, house_to, order_answer, house_ordered}
use Rattle.grasp_service_visits.specs.Tending.{awaited_call, waits_on, resumed, resumed_told, tend_call, tended, tended_told, tend_seat, tend_calls}
use Rattle.grasp_service_visits.specs.Visits.{IsMeant, Said, said_call, said_seat, said_house, said_told, heard_told, seats_by, seat_by, seat_of, seat_left, seats_visited, house_heard, house_visited, told_heard, visit_told, MeantBy, VisitMeans}
use Rattle.grasp_service_visits.specs.declared.answer.Answer.TheVariants.{Replied, Plain, Later}
use Rattle.grasp_service_visits.specs.declared.answer.Answer.{Answer}
use Rattle.grasp_service_visits.specs.declared.house.House.{House}

-- some words were appended
pub record Shows (old new : List ℕ) : Type 0 where
  pub words : List (List ℕ)
  pub is : new ≡ old ++ spaced words

-- the words of this answer were appended
pub record Answers (crew : List Servant) (a : Answer) (old new : List ℕ) : Type 0 where
  pub shown : List (List ℕ)
  pub is : new ≡ old ++ spaced (words_of_answer crew shown a)

-- the text is the line of this answer
pub record IsLineOf (crew : List Servant) (line : List ℕ) (a : Answer) (text : List ℕ) : Type 0 where
  pub shown : List (List ℕ)
  pub is : text ≡ answer_line line (words_of_answer crew shown a)

-- the answer is to be told later
abbrev pub is_later : Answer → Bool
is_later Later = true
is_later _ = false

-- the call that is to be made was made, and this is the reply; or none was to be made, and nothing changed
abbrev pub GoesBy : NodeCore → SeatState → ℕ → Option Call → Reply → NodeCore → Type 0
GoesBy old s now None r new = new ≡ old
GoesBy old s now (Some c) r new = GoesOn old (answered now (seat_input s c) r) new × (is_starved r ≡ false)

-- the call was made, and this is the reply
pub record Calls (old : NodeCore) (s : SeatState) (now : ℕ) (c : Call) (r : Reply) (new : NodeCore) (t : SeatState) : Type 0 where
  pub went : GoesOn old (answered now (seat_input s c) r) new
  pub heard : is_starved r ≡ false
  pub seat : t ≡ seat_after s c r

-- the seat waits from this reply on, where that tells nothing yet; else the reply is the answer
pub record WaitsOrTells (s : SeatState) (line : List ℕ) (c : Call) (until : ℕ) (r : Reply) (a : Answer) (t : SeatState) : Type 0 where
  pub answer : a ≡ (if goes_on r then Later else Replied r)
  pub seat : t ≡ (if goes_on r then awaiting s line c until r else s)

-- a call that is awaited was made, and this is the answer
pub record Awaits (old : NodeCore) (s : SeatState) (now : ℕ) (line : List ℕ) (millis : ℕ) (c : Call) (a : Answer) (new : NodeCore)
    (t : SeatState) : Type 0 where
  pub reply : Reply
  pub went : GoesOn old (answered now (seat_input s c) reply) new
  pub heard : is_starved reply ≡ false
  pub answer : a ≡ (if goes_on reply then Later else Replied reply)
  pub seat : t ≡ seat_awaiting now line millis c reply (seat_after s c reply)

-- the call was made where the seat's gate lets it pass, and this is the answer
pub record GoesByGate (old : NodeCore) (s : SeatState) (now : ℕ) (c : Call) (a : Answer) (new : NodeCore) (t : SeatState) : Type 0 where
  pub reply : Reply
  pub went : GoesBy old s now (call_at (gate_of s c) c) reply new
  pub answer : a ≡ at_gate (gate_of s c) (Replied reply)
  pub seat : t ≡ seat_at (gate_of s c) s (seat_after s c reply)

-- the same of a call that is awaited
pub record AwaitsByGate (old : NodeCore) (s : SeatState) (now : ℕ) (line : List ℕ) (millis : ℕ) (c : Call) (a : Answer) (new : NodeCore)
    (t : SeatState) : Type 0 where
  pub reply : Reply
  pub went : GoesBy old s now (call_at (gate_of s c) c) reply new
  pub answer : a ≡ at_gate (gate_of s c) (if goes_on reply then Later else Replied reply)
  pub seat : t ≡ seat_at (gate_of s c) s (seat_awaiting now line millis c reply (seat_after s c reply))

-- its agent was deregistered
pub record Leaves (old : NodeCore) (s : SeatState) (now : ℕ) (new : NodeCore) (t : SeatState) : Type 0 where
  pub reply : Reply
  pub went : GoesBy old s now (goodbye_call s) reply new
  pub seat : t ≡ goodbye_seat s reply

-- an order was taken, but of a guest, who is denied it; and this is the answer
pub record Ordered (guest : Bool) (old : House) (q : Request) (a : Answer) (new : House) : Type 0 where
  pub answer : a ≡ (if guest then Plain plain.Denied else order_answer old.crew.items q)
  pub house : house_of new ≡ (if guest then house_of old else house_ordered (house_of old) q)

-- a request was served, and this is the answer
pub record Serves (old : NodeCore) (house : House) (s : SeatState) (now : ℕ) (line : List ℕ) (q : Request) (a : Answer) (new : NodeCore) (after : House)
    (t : SeatState) : Type 0 where
  pub reply : Reply
  pub went : GoesBy old s now (call_of_request s q) reply new
  pub answer : a ≡ answer_to house.crew.items s q reply
  pub seat : t ≡ seat_to now line s q reply
  pub house_is : house_of after ≡ house_to s (house_of house) q

-- a seat was seen to, and this is the reply to its call
pub record Tends (old : NodeCore) (s : SeatState) (olds : List Told) (now : ℕ) (new : NodeCore) (t : SeatState) (news : List Told) : Type 0 where
  pub reply : Reply
  pub went : GoesBy old (tend_seat s) now (tend_call s) reply new
  pub seat : t ≡ tended now s reply
  pub told : news ≡ olds ++ tended_told now s reply

-- an awaited call was made again
pub record Resumes (old : NodeCore) (s : SeatState) (olds : List Told) (now : ℕ) (new : NodeCore) (t : SeatState) (news : List Told) : Type 0 where
  pub reply : Reply
  pub went : GoesBy old (without_await s) now (awaited_call s.awaits) reply new
  pub seat : t ≡ resumed now s s.awaits reply
  pub told : news ≡ olds ++ resumed_told now s.visitor s.awaits reply

-- a call for which the seat waited was made again
pub record ResumesWait (old : NodeCore) (s : SeatState) (olds : List Told) (now : ℕ) (w : Awaiting) (new : NodeCore) (t : SeatState)
    (news : List Told) : Type 0 where
  pub reply : Reply
  pub went : GoesOn old (answered now (seat_input s w.call) reply) new
  pub heard : is_starved reply ≡ false
  pub seat : t ≡ (if waits_on now w reply then awaiting (seat_after s w.call reply) w.line w.call w.until reply else seat_after s w.call reply)
  pub told : news ≡ olds ++ resumed_told now s.visitor (Some w) reply

-- so many of them were
pub record TendsSome (count : ℕ) (old : NodeCore) (seats : List SeatState) (olds : List Told) (now : ℕ) (new : NodeCore) (others : List SeatState)
    (news : List Told) : Type 0 where
  pub replies : List Reply
  pub count_is : length replies ≡ count
  pub adds : (agents : ℕ) → Adds old (each_adds (λ place. tend_calls agents now) 0 seats replies) new
  pub seats_are : others ≡ each_after (tended now) seats replies
  pub told : news ≡ olds ++ each_adds (λ place. tended_told now) 0 seats replies

-- the line of this answer is to be told too, where it is there
pub record TellsAnswer (crew : List Servant) (visitor : ℕ) (line : List ℕ) (a : Answer) (old new : List Told) : Type 0 where
  pub shown : List (List ℕ)
  pub is : new ≡ old ++ told_answer crew shown visitor line a

-- a request was served and is answered
pub record Obeys (old : NodeCore) (house : House) (s : SeatState) (olds : List Told) (now : ℕ) (line : List ℕ) (q : Request) (new : NodeCore)
    (after : House) (t : SeatState) (news : List Told) : Type 0 where
  pub reply : Reply
  pub shown : List (List ℕ)
  pub went : GoesBy old s now (call_of_request s q) reply new
  pub seat : t ≡ seat_to now line s q reply
  pub house_is : house_of after ≡ house_to s (house_of house) q
  pub told : news ≡ olds ++ told_answer after.crew.items shown s.visitor line (answer_to house.crew.items s q reply)

-- a line was taken at a seat that waits for nothing
pub record Understood (old : NodeCore) (house : House) (s : SeatState) (olds : List Told) (now : ℕ) (line : List ℕ) (new : NodeCore) (after : House)
    (t : SeatState) (news : List Told) : Type 0 where
  pub said : Said
  pub meant : IsMeant line said.meaning
  pub went : GoesBy old s now (said_call s said.meaning) said.reply new
  pub seat : t ≡ said_seat now line s said.meaning said.reply
  pub house_is : house_of after ≡ said_house s (house_of house) said.meaning
  pub told : news ≡ olds ++ said_told house.crew.items after.crew.items s line said

-- a line was taken at this seat
pub record Heard (old : NodeCore) (house : House) (s : SeatState) (olds : List Told) (now : ℕ) (line : List ℕ) (new : NodeCore) (after : House)
    (t : SeatState) (news : List Told) : Type 0 where
  pub said : Said
  pub meant : IsMeant line said.meaning
  pub went : GoesBy old (without_await s) now (said_call (without_await s) said.meaning) said.reply new
  pub seat : t ≡ said_seat now line (without_await s) said.meaning said.reply
  pub house_is : house_of after ≡ said_house (without_await s) (house_of house) said.meaning
  pub told : news ≡ olds ++ heard_told house.crew.items after.crew.items s line said

abbrev pub HeardGoes : NodeCore → ℕ → Option SeatState → Said → NodeCore → Type 0
HeardGoes old now None said new = new ≡ old
HeardGoes old now (Some s) said new = GoesBy old (without_await s) now (said_call (without_await s) said.meaning) said.reply new

abbrev pub LeftGoes : NodeCore → ℕ → Option SeatState → Reply → NodeCore → Type 0
LeftGoes old now None r new = new ≡ old
LeftGoes old now (Some s) r new = GoesBy old (leaving s) now (goodbye_call (leaving s)) r new

-- the node went on by its call
abbrev pub VisitGoes : NodeCore → ℕ → List SeatState → Visiting → Said → NodeCore → Type 0
VisitGoes old now seats (Line visitor line) said new = HeardGoes old now (seat_of visitor seats) said new
VisitGoes old now seats (Left visitor) said new = LeftGoes old now (seat_of visitor seats) said.reply new
VisitGoes old now seats _ said new = new ≡ old

-- a line was taken at the seat of its visitor, where it has one
pub record HearsAt (place : Option ℕ) (old : NodeCore) (house : House) (seats : List SeatState) (olds : List Told) (now visitor : ℕ) (line : List ℕ)
    (new : NodeCore) (after : House) (others : List SeatState) (news : List Told) : Type 0 where
  pub said : Said
  pub meant : MeantBy (seat_by seats place) line said.meaning
  pub went : HeardGoes old now (seat_by seats place) said new
  pub seats_are : others ≡ seats_by (λ s. said_seat now line (without_await s) said.meaning said.reply) seats place
  pub house_is : house_of after ≡ house_heard (seat_by seats place) (house_of house) said.meaning
  pub told : news ≡ olds ++ told_heard house.crew.items after.crew.items (seat_by seats place) line said

-- a visitor left its seat, where it has one
pub record LeavesAt (place : Option ℕ) (old : NodeCore) (seats : List SeatState) (now : ℕ) (new : NodeCore) (others : List SeatState) : Type 0 where
  pub reply : Reply
  pub went : LeftGoes old now (seat_by seats place) reply new
  pub seats_are : others ≡ seats_by (λ s. seat_left s reply) seats place

-- this came of visitors, and was taken
pub record Visits (old : NodeCore) (house : House) (seats : List SeatState) (olds : List Told) (now : ℕ) (visiting : Visiting) (new : NodeCore)
    (after : House) (others : List SeatState) (news : List Told) : Type 0 where
  pub said : Said
  pub means : VisitMeans seats visiting said
  pub went : VisitGoes old now seats visiting said new
  pub seats_are : others ≡ seats_visited now seats visiting said
  pub house_is : house_of after ≡ house_visited seats (house_of house) visiting said
  pub told : news ≡ olds ++ visit_told house.crew.items after.crew.items seats visiting said

-- this came of visitors, and was taken, where something came
pub record TakesIn (old : NodeCore) (house : House) (seats : List SeatState) (olds : List Told) (now : ℕ) (visiting : Visiting) (some : Bool)
    (new : NodeCore) (after : House) (others : List SeatState) (news : List Told) : Type 0 where
  pub visits : Visits old house seats olds now visiting new after others news
  pub some_is : some ≡ is_visit visiting

abbrev pub registered_by : ℕ → ℕ → ApiAnswer → List (List ℕ)
registered_by now visitor (api.Asa asa) = event_line now (event_words (event.Registered visitor asa)) ∷ []
registered_by now visitor _ = []

abbrev pub replied_lines : ℕ → ℕ → Reply → List (List ℕ)
replied_lines now visitor (node.Api a) = registered_by now visitor a
replied_lines now visitor _ = []

-- the line that a visitor's agent was registered, where the answer to its call says so
abbrev pub registered_lines : ℕ → ℕ → Answer → List (List ℕ)
registered_lines now visitor (Replied r) = replied_lines now visitor r
registered_lines now visitor _ = []
