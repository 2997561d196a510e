-- Guests order nothing.
use Rattle.std.proofs.Common.{◌≡◌, refl, ap, ◌∙◌, ℕ, Bool, true, false, cond, List, [], ◌∷◌, ◌++◌, Option, Some, None}
use Rattle.std.proofs.lemmas.Bool.{false≢true}
use Rattle.std.specs.List.{AllByRecursion}
use Rattle.std.specs.Prelude.{codes}
use Rattle.grasp_control.specs.Answers.{answer_line, plain_words}
use Rattle.grasp_control.specs.declared.answers.PlainAnswer.{PlainAnswer}
use Rattle.grasp_control.specs.declared.answers.PlainAnswer.TheVariants as plain
use Rattle.grasp_control.specs.declared.request.Request.{Request}
use Rattle.grasp_control.specs.declared.request.Request.TheVariants as request
use Rattle.grasp_crew.specs.Seats.{SeatState, new_seat, without_await}
use Rattle.grasp_crew.specs.declared.servant.Servant.{Servant}
use Rattle.grasp_desk.specs.declared.desk.Visiting.{Visiting}
use Rattle.grasp_desk.specs.declared.desk.Visiting.TheVariants as desk
use Rattle.grasp_laws_visits.proofs.Lists.{all_append, by_all, found, seat_is}
use Rattle.grasp_laws_visits.proofs.Seats.{left_same, said_same}
use Rattle.grasp_laws_visits.specs.Guests.{AreGuests, ComesAsGuest, GuestsOrderNothing, IsOrder}
use Rattle.grasp_service_visits.specs.Answers.{told_answer, told_to}
use Rattle.grasp_service_visits.specs.Serving.{HouseState, answer_to, house_ordered, is_order, order_answer}
use Rattle.grasp_service_visits.specs.Visits.{Meaning, Said, Visited, asks, bad, ended_told, house_after, house_heard, house_visited, place_of, said_answer, said_house, said_seat, seat_left, seat_of, seats_visited, told_heard, visit_told}
use Rattle.grasp_service_visits.specs.declared.answer.Answer.{Answer}
use Rattle.grasp_service_visits.specs.declared.answer.Answer.TheVariants.{Plain}
use Rattle.grasp_types.specs.declared.reply.Reply.{Reply}

-- ---- the house stays

said_stays : (s : SeatState) (h : HouseState) (m : Meaning) → s.guest ≡ true → said_house s h m ≡ h
said_stays s h (asks q) guest = by_order (is_order q) s.guest guest where
  by_order : (order g : Bool) → g ≡ true → cond order (cond g h (house_ordered h q)) h ≡ h
  by_order true true e = refl
  by_order true false e = absurd (false≢true e)
  by_order false g e = refl
said_stays s h (bad at) guest = refl

line_stays : (seats : List SeatState) (h : HouseState) (visitor : ℕ) (line : List ℕ) (said : Said) (s : SeatState) → seat_of visitor seats ≡ Some s → s.guest ≡ true
    → house_visited seats h (desk.Line visitor line) said ≡ h
line_stays seats h visitor line said s sits guest =
    ap (λ (o : Option SeatState). house_heard o h said.meaning) sits ∙ said_stays (without_await s) h said.meaning guest

visited_stays : (seats : List SeatState) (h : HouseState) (v : Visiting) (said : Said) → AreGuests seats → house_visited seats h v said ≡ h
visited_stays seats h (desk.Line visitor line) said all = by_seat (seat_of visitor seats) refl where
  by_seat : (o : Option SeatState) → seat_of visitor seats ≡ o → house_heard o h said.meaning ≡ h
  by_seat None e = refl
  by_seat (Some s) e = said_stays (without_await s) h said.meaning (seat_is (λ (x : SeatState). x.guest ≡ true) visitor seats s all e)
visited_stays seats h _ said all = refl

-- ---- guests stay guests

visited_guests : (now : ℕ) (seats : List SeatState) (v : Visiting) (said : Said) → AreGuests seats → ComesAsGuest v → AreGuests (seats_visited now seats v said)
visited_guests now seats (desk.Came visitor guest) said all comes = all_append (λ (x : SeatState). x.guest ≡ true) seats (new_seat visitor guest ∷ []) all (comes, tt)
visited_guests now seats (desk.Line visitor line) said all comes =
    by_all (λ (x : SeatState). x.guest ≡ true) (λ s. said_seat now line (without_await s) said.meaning said.reply) seats (place_of visitor seats)
    (λ s h. (said_same now line s said.meaning said.reply).guest ∙ h) all
visited_guests now seats (desk.Left visitor) said all comes =
    by_all (λ (x : SeatState). x.guest ≡ true) (λ s. seat_left s said.reply) seats (place_of visitor seats) (λ s h. (left_same s said.reply).guest ∙ h) all
visited_guests now seats _ said all comes = all

all_stays : (vs : List Visited) (now : ℕ) (seats : List SeatState) (h : HouseState) → AreGuests seats → AllByRecursion (λ (v : Visited). ComesAsGuest v.visiting) vs
    → house_after now seats h vs ≡ h
all_stays [] now seats h all come = refl
all_stays (v ∷ vs) now seats h all come =
    all_stays vs now (seats_visited now seats v.visiting v.said) (house_visited seats h v.visiting v.said)
    (visited_guests now seats v.visiting v.said all come.0) come.1
    ∙ visited_stays seats h v.visiting v.said all

-- ---- an answer

-- a plain answer is told to who wrote the line, behind what the visitor was told of a call that it waited for
pub told_plain : (crew after : List Servant) (seats : List SeatState) (visitor : ℕ) (line : List ℕ) (said : Said) (s : SeatState) (p : PlainAnswer)
    → seat_of visitor seats ≡ Some s → said_answer crew (without_await s) said.meaning said.reply ≡ Plain p
    → visit_told crew after seats (desk.Line visitor line) said ≡ ended_told s ++ told_to visitor (answer_line line (plain_words p)) ∷ []
told_plain crew after seats visitor line said s p sits is =
    ap (λ (o : Option SeatState). told_heard crew after o line said) sits
    ∙ (ap (λ (a : Answer). ended_told s ++ told_answer after said.shown s.visitor line a) is
    ∙ ap (λ (n : ℕ). ended_told s ++ told_to n (answer_line line (plain_words p)) ∷ []) (found visitor seats s sits).own)

denied_to : (crew : List Servant) (s : SeatState) (q : Request) (r : Reply) → s.guest ≡ true → IsOrder q → answer_to crew s q r ≡ Plain plain.Denied
denied_to crew s (request.Want least most peer) r guest order =
    ap (λ (g : Bool). cond g (Plain plain.Denied) (order_answer crew (request.Want least most peer))) guest
denied_to crew s (request.Unwant number) r guest order = ap (λ (g : Bool). cond g (Plain plain.Denied) (order_answer crew (request.Unwant number))) guest
denied_to crew s (request.Log level) r guest order = ap (λ (g : Bool). cond g (Plain plain.Denied) (order_answer crew (request.Log level))) guest
denied_to crew s request.Stop r guest order = ap (λ (g : Bool). cond g (Plain plain.Denied) (order_answer crew request.Stop)) guest
denied_to crew s _ r guest order = absurd order

denied : (crew after : List Servant) (seats : List SeatState) (visitor : ℕ) (line : List ℕ) (said : Said) (s : SeatState) (q : Request) → seat_of visitor seats ≡ Some s
    → s.guest ≡ true → said.meaning ≡ asks q → IsOrder q
    → visit_told crew after seats (desk.Line visitor line) said ≡ ended_told s ++ told_to visitor (answer_line line (codes "error" ∷ codes "denied" ∷ [])) ∷ []
denied crew after seats visitor line said s q sits guest meaning order =
    told_plain crew after seats visitor line said s plain.Denied sits
    (ap (λ (m : Meaning). said_answer crew (without_await s) m said.reply) meaning ∙ denied_to crew (without_await s) q said.reply guest order)

pub guests_order_nothing : GuestsOrderNothing
guests_order_nothing = record {
  house = λ now seats h vs all come. all_stays vs now seats h all come;
  line = line_stays;
  denied = denied;
}
