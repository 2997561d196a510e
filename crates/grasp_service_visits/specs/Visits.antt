-- What comes of visitors: they come, write lines and leave.
use Rattle.std.specs.Prelude.{◌≡◌, ℕ, ◌+◌, Bool, true, false, List, [], ◌∷◌, ◌++◌, length, Option, None, Some, position, slice_get, slice_set}
use Rattle.grasp_control.specs.Answers.{answer_line}
use Rattle.grasp_control.specs.Places.{IsRequestPlace}
use Rattle.grasp_control.specs.Requests.{IsRequestLine, IsNoRequest}
use Rattle.grasp_control.specs.declared.answers.PlainAnswer.TheVariants as plain
use Rattle.grasp_control.specs.declared.request.Request.{Request}
use Rattle.grasp_core.specs.declared.node_core.NodeCore.{NodeCore}
use Rattle.grasp_crew.specs.Seats.{SeatState, is_seat_of, new_seat, without_await, leaving}
use Rattle.grasp_crew.specs.declared.seat.Awaiting.{Awaiting}
use Rattle.grasp_crew.specs.declared.servant.Servant.{Servant}
use Rattle.grasp_desk.specs.declared.desk.Told.{Told}
use Rattle.grasp_desk.specs.declared.desk.Visiting.{Visiting}
use Rattle.grasp_desk.specs.declared.desk.Visiting.TheVariants.{Came, Line, Left, Nothing, OutOfMemory}
use Rattle.grasp_script.specs.Answers.{reply_words}
use Rattle.grasp_shared.specs.Adding.{Adds}
use Rattle.grasp_shared.specs.History.{History}
use Rattle.grasp_types.specs.declared.call.Call.{Call}
use Rattle.grasp_types.specs.declared.reply.Reply.{Reply}
use Rattle.grasp_service_visits.specs.Answers.{told_to, told_answer}
use Rattle.grasp_service_visits.specs.Calling.{call_made, goodbye_call, goodbye_seat}
use Rattle.grasp_service_visits.specs.Desks.{DeskTold, VisitsAll, VisitsUntil, AsksInVain}
use Rattle.grasp_service_visits.specs.Serving.{HouseState, house_of, call_of_request, answer_to, seat_to, house_to}
use Rattle.grasp_service_visits.specs.declared.answer.Answer.{Answer}
use Rattle.grasp_service_visits.specs.declared.answer.Answer.TheVariants.{Plain}
use Rattle.grasp_service_visits.specs.declared.house.House.{House}

-- ---- a line

-- what a line means: a request, or none from this place on
pub data Meaning : Type 0 where
  asks : Request → Meaning
  bad : ℕ → Meaning

abbrev pub IsMeant : List ℕ → Meaning → Type 0
IsMeant line (asks q) = IsRequestLine line q
IsMeant line (bad at) = IsNoRequest line × IsRequestPlace line at

-- a line: what it means, the node's reply where it makes a call, and the words that wants, readers and counters were shown by
pub record Said : Type 0 where
  pub meaning : Meaning
  pub reply : Reply
  pub shown : List (List ℕ)

-- the call that it makes from this seat
abbrev pub said_call : SeatState → Meaning → Option Call
said_call s (asks q) = call_of_request s q
said_call s (bad at) = None

-- what it is answered
abbrev pub said_answer : List Servant → SeatState → Meaning → Reply → Answer
said_answer crew s (asks q) r = answer_to crew s q r
said_answer crew s (bad at) r = Plain (plain.BadLine at)

-- the seat after it
abbrev pub said_seat : ℕ → List ℕ → SeatState → Meaning → Reply → SeatState
said_seat now line s (asks q) r = seat_to now line s q r
said_seat now line s (bad at) r = s

-- the house after it
abbrev pub said_house : SeatState → HouseState → Meaning → HouseState
said_house s h (asks q) = house_to s h q
said_house s h (bad at) = h

-- ---- what its visitor is told

abbrev pub waited_told : ℕ → Option Awaiting → List Told
waited_told visitor None = []
waited_told visitor (Some a) = told_to visitor (answer_line a.line (reply_words a.last)) ∷ []

-- what a seat waits for ends with the last reply
abbrev pub ended_told : SeatState → List Told
ended_told s = waited_told s.visitor s.awaits

-- a line's answer is told; the words of the crew are those after it
abbrev pub said_told : List Servant → List Servant → SeatState → List ℕ → Said → List Told
said_told crew after s line said = told_answer after said.shown s.visitor line (said_answer crew s said.meaning said.reply)

-- what the seat waits for ends, and then the line is answered
abbrev pub heard_told : List Servant → List Servant → SeatState → List ℕ → Said → List Told
heard_told crew after s line said = ended_told s ++ said_told crew after (without_await s) line said

-- ---- visitors

-- the place of a visitor's seat
abbrev pub place_of : ℕ → List SeatState → Option ℕ
place_of visitor seats = position (is_seat_of visitor) seats

abbrev pub seats_where : (SeatState → SeatState) → List SeatState → ℕ → Option SeatState → List SeatState
seats_where f seats place None = seats
seats_where f seats place (Some s) = slice_set seats place (f s)

-- the seats, where the one at this place is another
abbrev pub seats_at : (SeatState → SeatState) → List SeatState → ℕ → List SeatState
seats_at f seats place = seats_where f seats place (slice_get seats place)

abbrev pub seats_by : (SeatState → SeatState) → List SeatState → Option ℕ → List SeatState
seats_by f seats None = seats
seats_by f seats (Some place) = seats_at f seats place

abbrev pub seat_by : List SeatState → Option ℕ → Option SeatState
seat_by seats None = None
seat_by seats (Some place) = slice_get seats place

-- the seat of a visitor, where it has one
abbrev pub seat_of : ℕ → List SeatState → Option SeatState
seat_of visitor seats = seat_by seats (place_of visitor seats)

-- a visitor left its seat, and this is the reply to the call that deregisters its agent, where it has one
abbrev pub seat_left : SeatState → Reply → SeatState
seat_left s r = goodbye_seat (leaving s) r

abbrev pub seats_left : ℕ → List SeatState → Reply → List SeatState
seats_left visitor seats r = seats_by (λ s. seat_left s r) seats (place_of visitor seats)

-- what came of a visitor, and its line, where it is one; where its visitor left, the reply alone says something
pub record Visited : Type 0 where
  pub visiting : Visiting
  pub said : Said

-- the seats after it
abbrev pub seats_visited : ℕ → List SeatState → Visiting → Said → List SeatState
seats_visited now seats (Came visitor guest) said = seats ++ new_seat visitor guest ∷ []
seats_visited now seats (Line visitor line) said = seats_by (λ s. said_seat now line (without_await s) said.meaning said.reply) seats (place_of visitor seats)
seats_visited now seats (Left visitor) said = seats_left visitor seats said.reply
seats_visited now seats Nothing said = seats
seats_visited now seats OutOfMemory said = seats

abbrev pub house_heard : Option SeatState → HouseState → Meaning → HouseState
house_heard None h meaning = h
house_heard (Some s) h meaning = said_house (without_await s) h meaning

-- the house after it
abbrev pub house_visited : List SeatState → HouseState → Visiting → Said → HouseState
house_visited seats h (Line visitor line) said = house_heard (seat_of visitor seats) h said.meaning
house_visited seats h _ said = h

abbrev pub heard_calls : ℕ → ℕ → Option SeatState → Said → History
heard_calls caller now None said = []
heard_calls caller now (Some s) said = call_made caller now (without_await s) (said_call (without_await s) said.meaning) said.reply

abbrev pub left_calls : ℕ → ℕ → Option SeatState → Reply → History
left_calls caller now None r = []
left_calls caller now (Some s) r = call_made caller now (leaving s) (goodbye_call (leaving s)) r

-- its call; behind so many agents the visitors are callers by their numbers
abbrev pub visit_calls : ℕ → ℕ → List SeatState → Visiting → Said → History
visit_calls agents now seats (Line visitor line) said = heard_calls (agents + visitor) now (seat_of visitor seats) said
visit_calls agents now seats (Left visitor) said = left_calls (agents + visitor) now (seat_of visitor seats) said.reply
visit_calls agents now seats _ said = []

abbrev pub told_heard : List Servant → List Servant → Option SeatState → List ℕ → Said → List Told
told_heard crew after None line said = []
told_heard crew after (Some s) line said = heard_told crew after s line said

-- what is told of it
abbrev pub visit_told : List Servant → List Servant → List SeatState → Visiting → Said → List Told
visit_told crew after seats (Line visitor line) said = told_heard crew after (seat_of visitor seats) line said
visit_told crew after seats _ said = []

abbrev pub MeantBy : Option SeatState → List ℕ → Meaning → Type 0
MeantBy None line meaning = Unit {0}
MeantBy (Some s) line meaning = IsMeant line meaning

-- its line means that
abbrev pub VisitMeans : List SeatState → Visiting → Said → Type 0
VisitMeans seats (Line visitor line) said = MeantBy (seat_of visitor seats) line said.meaning
VisitMeans seats _ said = Unit {0}

-- ---- one after the other

abbrev pub visitings : List Visited → List Visiting
visitings [] = []
visitings (v ∷ vs) = v.visiting ∷ visitings vs

abbrev pub has_some : List Visited → Bool
has_some [] = false
has_some (v ∷ vs) = true

-- the seats after all that came
abbrev pub seats_after : ℕ → List SeatState → List Visited → List SeatState
seats_after now seats [] = seats
seats_after now seats (v ∷ vs) = seats_after now (seats_visited now seats v.visiting v.said) vs

-- the house after it
abbrev pub house_after : ℕ → List SeatState → HouseState → List Visited → HouseState
house_after now seats h [] = h
house_after now seats h (v ∷ vs) = house_after now (seats_visited now seats v.visiting v.said) (house_visited seats h v.visiting v.said) vs

-- the calls
abbrev pub all_visit_calls : ℕ → ℕ → List SeatState → List Visited → History
all_visit_calls agents now seats [] = []
all_visit_calls agents now seats (v ∷ vs) = visit_calls agents now seats v.visiting v.said ++ all_visit_calls agents now
    (seats_visited now seats v.visiting v.said) vs

-- what is told
abbrev pub all_visit_told : ℕ → List SeatState → HouseState → List Visited → List Told
all_visit_told now seats h [] = []
all_visit_told now seats h (v ∷ vs) =
    visit_told h.crew (house_visited seats h v.visiting v.said).crew seats v.visiting v.said
    ++ all_visit_told now (seats_visited now seats v.visiting v.said) (house_visited seats h v.visiting v.said) vs

-- each line means what it is said to
abbrev pub AllMean : ℕ → List SeatState → List Visited → Type 0
AllMean now seats [] = Unit {0}
AllMean now seats (v ∷ vs) = VisitMeans seats v.visiting v.said × AllMean now (seats_visited now seats v.visiting v.said) vs

-- Inside: so much came of visitors, and was taken; whether something did
pub record TakesSome (count : ℕ) (old : NodeCore) (house : House) (seats : List SeatState) (olds : List Told) (desk : DeskTold) (now : ℕ) (some : Bool)
    (new : NodeCore) (after : House) (others : List SeatState) (news : List Told) (later : DeskTold) : Type 0 where
  pub visits : List Visited
  pub count_is : length (visitings visits) ≡ count
  pub mean : AllMean now seats visits
  pub adds : (agents : ℕ) → Adds old (all_visit_calls agents now seats visits) new
  pub seats_are : others ≡ seats_after now seats visits
  pub house_is : house_of after ≡ house_after now seats (house_of house) visits
  pub told : news ≡ olds ++ all_visit_told now seats (house_of house) visits
  pub came : VisitsAll desk (visitings visits) later
  pub some_is : some ≡ has_some visits

-- Inside: the desk was asked once; what came was taken, or nothing came
pub record TakesNothing (old : NodeCore) (house : House) (seats : List SeatState) (olds : List Told) (desk : DeskTold) (now : ℕ)
    (new : NodeCore) (after : House) (others : List SeatState) (news : List Told) (later : DeskTold) : Type 0 where
  pub takes : TakesSome 0 old house seats olds desk now false new after others news desk
  pub asks : AsksInVain desk later

abbrev pub TakesOnce : NodeCore → House → List SeatState → List Told → DeskTold → ℕ → Bool → NodeCore → House → List SeatState → List Told → DeskTold → Type 0
TakesOnce old house seats olds desk now true new after others news later = TakesSome 1 old house seats olds desk now true new after others news later
TakesOnce old house seats olds desk now false new after others news later = TakesNothing old house seats olds desk now new after others news later

-- the desk was asked until nothing came, and 16 times at most: all this came of visitors, and was taken; whether something did
pub record TakesVisits (old : NodeCore) (house : House) (seats : List SeatState) (olds : List Told) (desk : DeskTold) (now : ℕ) (some : Bool)
    (new : NodeCore) (after : House) (others : List SeatState) (news : List Told) (later : DeskTold) : Type 0 where
  pub visits : List Visited
  pub mean : AllMean now seats visits
  pub adds : (agents : ℕ) → Adds old (all_visit_calls agents now seats visits) new
  pub seats_are : others ≡ seats_after now seats visits
  pub house_is : house_of after ≡ house_after now seats (house_of house) visits
  pub told : news ≡ olds ++ all_visit_told now seats (house_of house) visits
  pub came : VisitsUntil 16 desk (visitings visits) later
  pub some_is : some ≡ has_some visits
