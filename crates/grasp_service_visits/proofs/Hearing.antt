-- What comes of visitors, one at a time.
use Rattle.std.proofs.Common.{◌≡◌, ℕ, List, [], ◌∷◌, ◌++◌, refl, sym, ap, ◌∙◌, subst, append_assoc, Option, Some, None, Bool, false, Result, Ok, Err, ◌<◌, length, take}
use Rattle.std.specs.Prelude.{slice_get, slice_set, IfSome, OnOk, MatchResult}
use Rattle.std.proofs.lemmas.List.Quantifiers.{position-Some}
use Rattle.std.proofs.Math.Seq.{take-append_seam}
use Rattle.std.proofs.lemmas.List.{append-nil}
use Rattle.grasp_cbor.specs.declared.memory.OutOfMemory.{OutOfMemory as Starved}
use Rattle.grasp_control.specs.Places.{IsRequestPlace}
use Rattle.grasp_control.specs.Requests.{IsRequestLine, IsNoRequest}
use Rattle.grasp_control.specs.declared.answers.PlainAnswer.TheVariants as plain
use Rattle.grasp_control.specs.declared.request.Request.{Request}
use Rattle.grasp_core.specs.declared.node_core.NodeCore.{NodeCore}
use Rattle.grasp_crew.specs.Seats.{SeatState, is_seat_of, without_await, new_seat, leaving}
use Rattle.grasp_desk.specs.declared.desk.Told.{Told}
use Rattle.grasp_desk.specs.declared.desk.Visiting.{Visiting}
use Rattle.grasp_desk.specs.declared.desk.Visiting.TheVariants.{Came, Line, Left, Nothing, OutOfMemory}
use Rattle.grasp_types.specs.declared.reply.Reply.TheVariants as reply
use Rattle.grasp_service_visits.proofs.Going.{some_none, by_some, visit_some}
use Rattle.grasp_service_visits.specs.Answers.{told_answer}
use Rattle.grasp_service_visits.specs.Calling.{GoesSome}
use Rattle.grasp_service_visits.specs.Serving.{house_of, call_of_request, answer_to}
use Rattle.grasp_service_visits.specs.Visits.{Said, asks, bad, said_seat, said_told, seat_left, ended_told, MeantBy, seats_where, place_of, told_heard, house_heard}
use Rattle.grasp_service_visits.specs.Parts.{Leaves, Serves, TellsAnswer, Obeys, Understood, Heard, HearsAt, LeavesAt, Visits, HeardGoes, LeftGoes}
use Rattle.grasp_service_visits.specs.declared.answer.Answer.{Answer}
use Rattle.grasp_service_visits.specs.declared.answer.Answer.TheVariants.{Plain}
use Rattle.grasp_service_visits.specs.declared.house.House.{House}

-- ---- a line

pub obeyed : (a b : NodeCore) (h k : House) (s t : SeatState) (olds news : List Told) (now visitor : ℕ) (line : List ℕ) (q : Request) (x : Answer)
    → Serves a h s now line q x b k t → visitor ≡ s.visitor → TellsAnswer k.crew.items visitor line x olds news → Obeys a h s olds now line q b k t news
obeyed a b h k s t olds news now visitor line q x p v o = record {
  reply = p.reply;
  shown = o.shown;
  went = p.went;
  seat = p.seat;
  house_is = p.house_is;
  told = o.is ∙ ap (λ y. olds ++ told_answer k.crew.items o.shown visitor line y) p.answer
      ∙ ap (λ y. olds ++ told_answer k.crew.items o.shown y line (answer_to h.crew.items s q p.reply)) v;
}

understood_request : (a b : NodeCore) (h k : House) (s t : SeatState) (olds news : List Told) (now : ℕ) (line : List ℕ) (q : Request)
    → IsRequestLine line q → Obeys a h s olds now line q b k t news
    → Understood a h s olds now line b k t news
understood_request a b h k s t olds news now line q f p = record {
  said = record { meaning = asks q; reply = p.reply; shown = p.shown };
  meant = f;
  went = p.went;
  seat = p.seat;
  house_is = p.house_is;
  told = p.told;
}

understood_bad : (a : NodeCore) (h : House) (s : SeatState) (olds news : List Told) (now visitor : ℕ) (line : List ℕ) (at : ℕ) → IsNoRequest line
    → IsRequestPlace line at → visitor ≡ s.visitor
    → TellsAnswer h.crew.items visitor line (Plain (plain.BadLine at)) olds news → Understood a h s olds now line a h s news
understood_bad a h s olds news now visitor line at n i v o = record {
  said = record { meaning = bad at; reply = reply.Taken; shown = o.shown };
  meant = (n, i);
  went = refl;
  seat = refl;
  house_is = refl;
  told = o.is ∙ ap (λ y. olds ++ told_answer h.crew.items o.shown y line (Plain (plain.BadLine at))) v;
}

heard : (a b : NodeCore) (h k : House) (s u t : SeatState) (olds lines news : List Told) (now : ℕ) (line : List ℕ) → u ≡ without_await s
    → lines ≡ olds ++ ended_told s
    → Understood a h u lines now line b k t news → Heard a h s olds now line b k t news
heard a b h k s u t olds lines news now line e l p =
    let o : Understood a h (without_await s) lines now line b k t news = subst (λ y. Understood a h y lines now line b k t news) e p in
    record {
      said = o.said;
      meant = o.meant;
      went = o.went;
      seat = o.seat;
      house_is = o.house_is;
      told =
          o.told ∙ ap (λ y. y ++ said_told h.crew.items k.crew.items (without_await s) line o.said) l
          ∙ append_assoc olds (ended_told s) (said_told h.crew.items k.crew.items (without_await s) line o.said);
    }

-- ---- at a seat

pub place_within : (q : Option ℕ) (visitor : ℕ) (seats : List SeatState) → q ≡ place_of visitor seats → IfSome q (λ i. i < length seats)
place_within None visitor seats e = tt
place_within (Some i) visitor seats e = (position-Some (is_seat_of visitor) seats i (new_seat 0 false) (sym e)).0

pub hears_at : (a b : NodeCore) (h k : House) (seats others : List SeatState) (s t : SeatState) (olds news : List Told) (now visitor : ℕ) (line : List ℕ)
    (q : Option ℕ) (place : ℕ)
    → q ≡ Some place → slice_get seats place ≡ Some s → Heard a h s olds now line b k t news → others ≡ slice_set seats place t
    → HearsAt q a h seats olds now visitor line b k others news
hears_at a b h k seats others s t olds news now visitor line q place e g p o =
    let made : HearsAt (Some place) a h seats olds now visitor line b k others news = record {
      said = p.said;
      meant = subst (λ y. MeantBy y line p.said.meaning) (sym g) p.meant;
      went = subst (λ y. HeardGoes a now y p.said b) (sym g) p.went;
      seats_are =
          o ∙ ap (λ y. slice_set seats place y) p.seat
          ∙ ap (λ y. seats_where (λ z. said_seat now line (without_await z) p.said.meaning p.said.reply) seats place y) (sym g);
      house_is = p.house_is ∙ ap (λ y. house_heard y (house_of h) p.said.meaning) (sym g);
      told = p.told ∙ ap (λ y. olds ++ told_heard h.crew.items k.crew.items y line p.said) (sym g);
    } in
    subst (λ y. HearsAt y a h seats olds now visitor line b k others news) (sym e) made

-- nothing was said
pub unsaid : Said
unsaid = record { meaning = bad 0; reply = reply.Taken; shown = [] }

pub hears_nowhere : (a : NodeCore) (h : House) (seats : List SeatState) (olds : List Told) (now visitor : ℕ) (line : List ℕ) (q : Option ℕ) → q ≡ None
    → HearsAt q a h seats olds now visitor line a h seats olds
hears_nowhere a h seats olds now visitor line q e =
    let made : HearsAt None a h seats olds now visitor line a h seats olds = record {
      said = unsaid;
      meant = tt;
      went = refl;
      seats_are = refl;
      house_is =
          refl;
      told = sym (append-nil olds);
    } in
    subst (λ y. HearsAt y a h seats olds now visitor line a h seats olds) (sym e) made

pub leaves_at : (a b : NodeCore) (seats others : List SeatState) (s t : SeatState) (now : ℕ) (q : Option ℕ) (place : ℕ) → q ≡ Some place
    → slice_get seats place ≡ Some s
    → Leaves a (leaving s) now b t → others ≡ slice_set seats place t → LeavesAt q a seats now b others
leaves_at a b seats others s t now q place e g p o =
    let made : LeavesAt (Some place) a seats now b others = record {
      reply = p.reply;
      went = subst (λ y. LeftGoes a now y p.reply b) (sym g) p.went;
      seats_are = o ∙ ap (λ y. slice_set seats place y) p.seat ∙ ap (λ y. seats_where (λ z. seat_left z p.reply) seats place y) (sym g);
    } in
    subst (λ y. LeavesAt y a seats now b others) (sym e) made

pub leaves_nowhere : (a : NodeCore) (seats : List SeatState) (now : ℕ) (q : Option ℕ) → q ≡ None → LeavesAt q a seats now a seats
leaves_nowhere a seats now q e =
    let made : LeavesAt None a seats now a seats = record { reply = reply.Taken; went = refl; seats_are = refl } in
    subst (λ y. LeavesAt y a seats now a seats) (sym e) made

-- ---- what came

pub came_visits : (a : NodeCore) (h : House) (seats others : List SeatState) (olds : List Told) (now visitor : ℕ) (guest : Bool)
    → others ≡ seats ++ new_seat visitor guest ∷ []
    → Visits a h seats olds now (Came visitor guest) a h others olds
came_visits a h seats others olds now visitor guest e = record {
  said = unsaid;
  means = tt;
  went = refl;
  seats_are = e;
  house_is = refl;
  told = sym
      (append-nil olds);
}

pub line_visits : (a b : NodeCore) (h k : House) (seats others : List SeatState) (olds news : List Told) (now visitor : ℕ) (line : List ℕ)
    → HearsAt (place_of visitor seats) a h seats olds now visitor line b k others news → Visits a h seats olds now (Line visitor line) b k others news
line_visits a b h k seats others olds news now visitor line p = record {
  said = p.said;
  means = p.meant;
  went = p.went;
  seats_are = p.seats_are;
  house_is =
      p.house_is;
  told = p.told;
}

pub left_visits : (a b : NodeCore) (h : House) (seats others : List SeatState) (olds : List Told) (now visitor : ℕ)
    → LeavesAt (place_of visitor seats) a seats now b others
    → Visits a h seats olds now (Left visitor) b h others olds
left_visits a b h seats others olds now visitor p = record {
  said = record { meaning = bad 0; reply = p.reply; shown = [] };
  means = tt;
  went = p.went;
  seats_are = p.seats_are;
  house_is = refl;
  told = sym (append-nil olds);
}

pub nothing_visits : (a : NodeCore) (h : House) (seats : List SeatState) (olds : List Told) (now : ℕ) → Visits a h seats olds now Nothing a h seats olds
nothing_visits a h seats olds now = record { said = unsaid; means = tt; went = refl; seats_are = refl; house_is = refl; told = sym (append-nil olds) }

pub starved_visits : (a : NodeCore) (h : House) (seats : List SeatState) (olds : List Told) (now : ℕ) → Visits a h seats olds now OutOfMemory a h seats olds
starved_visits a h seats olds now = record { said = unsaid; means = tt; went = refl; seats_are = refl; house_is = refl; told = sym (append-nil olds) }

-- ---- with or without memory

pub obeyed_through : (x : Result (Unit {0}) Starved) (a b : NodeCore) (h k : House) (s t : SeatState) (olds news : List Told) (now visitor : ℕ)
    (line : List ℕ) (q : Request) (y : Answer)
    → Serves a h s now line q y b k t → visitor ≡ s.visitor → OnOk x (TellsAnswer k.crew.items visitor line y olds news)
    → MatchResult x (λ _. Obeys a h s olds now line q b k t news) (λ _. GoesSome a b)
obeyed_through (Ok u) a b h k s t olds news now visitor line q y p v o = obeyed a b h k s t olds news now visitor line q y p v o
obeyed_through (Err e) a b h k s t olds news now visitor line q y p v o = by_some a b s now (call_of_request s q) p.reply p.went

pub request_through : (x : Result (Unit {0}) Starved) (a b : NodeCore) (h k : House) (s t : SeatState) (olds news : List Told) (now : ℕ) (line : List ℕ)
    (q : Request)
    → IsRequestLine line q → MatchResult x (λ _. Obeys a h s olds now line q b k t news) (λ _. GoesSome a b)
    → MatchResult x (λ _. Understood a h s olds now line b k t news) (λ _. GoesSome a b)
request_through (Ok w) a b h k s t olds news now line q f p = understood_request a b h k s t olds news now line q f p
request_through (Err w) a b h k s t olds news now line q f p = p

pub bad_through : (x : Result (Unit {0}) Starved) (a : NodeCore) (h : House) (s : SeatState) (olds news : List Told) (now visitor : ℕ) (line : List ℕ) (at : ℕ)
    → IsNoRequest line → IsRequestPlace line at → visitor ≡ s.visitor
    → OnOk x (TellsAnswer h.crew.items visitor line (Plain (plain.BadLine at)) olds news)
    → MatchResult x (λ _. Understood a h s olds now line a h s news) (λ _. GoesSome a a)
bad_through (Ok w) a h s olds news now visitor line at n i v o = understood_bad a h s olds news now visitor line at n i v o
bad_through (Err w) a h s olds news now visitor line at n i v o = some_none a

pub heard_through : (x : Result (Unit {0}) Starved) (a b : NodeCore) (h k : House) (s u t : SeatState) (olds lines news : List Told) (now : ℕ) (line : List ℕ)
    → u ≡ without_await s → lines ≡ olds ++ ended_told s → MatchResult x (λ _. Understood a h u lines now line b k t news) (λ _. GoesSome a b)
    → MatchResult x (λ _. Heard a h s olds now line b k t news) (λ _. GoesSome a b)
heard_through (Ok w) a b h k s u t olds lines news now line e l p = heard a b h k s u t olds lines news now line e l p
heard_through (Err w) a b h k s u t olds lines news now line e l p = p

pub there_through : (x : Result (Unit {0}) Starved) (a b : NodeCore) (h k : House) (seats others : List SeatState) (s t : SeatState) (olds news : List Told)
    (now visitor : ℕ) (line : List ℕ) (q : Option ℕ) (place : ℕ)
    → q ≡ Some place → slice_get seats place ≡ Some s → others ≡ slice_set seats place t
    → MatchResult x (λ _. Heard a h s olds now line b k t news) (λ _. GoesSome a b)
    → MatchResult x (λ _. HearsAt q a h seats olds now visitor line b k others news) (λ _. GoesSome a b)
there_through (Ok w) a b h k seats others s t olds news now visitor line q place e g o p = hears_at a b h k seats others s t olds news now visitor line q
    place e g p o
there_through (Err w) a b h k seats others s t olds news now visitor line q place e g o p = p

pub seat_through : (x : Result (Unit {0}) Starved) (a b : NodeCore) (s u t : SeatState) (now : ℕ) → u ≡ leaving s
    → MatchResult x (λ _. Leaves a u now b t) (λ _. GoesSome a b)
    → MatchResult x (λ _. Leaves a (leaving s) now b t) (λ _. GoesSome a b)
seat_through x a b s u t now e p = subst (λ y. MatchResult x (λ _. Leaves a y now b t) (λ _. GoesSome a b)) e p

pub left_through : (x : Result (Unit {0}) Starved) (a b : NodeCore) (seats others : List SeatState) (s t : SeatState) (now : ℕ) (q : Option ℕ) (place : ℕ)
    → q ≡ Some place → slice_get seats place ≡ Some s → others ≡ slice_set seats place t → MatchResult x (λ _. Leaves a (leaving s) now b t) (λ _. GoesSome a b)
    → MatchResult x (λ _. LeavesAt q a seats now b others) (λ _. GoesSome a b)
left_through (Ok w) a b seats others s t now q place e g o p = leaves_at a b seats others s t now q place e g p o
left_through (Err w) a b seats others s t now q place e g o p = p

-- ---- what came, with or without memory

left_taken : (x : Result (Unit {0}) Starved) (a b : NodeCore) (h : House) (seats others : List SeatState) (olds : List Told) (now visitor : ℕ) (v : Visiting)
    → v ≡ Left visitor → MatchResult x (λ _. LeavesAt (place_of visitor seats) a seats now b others) (λ _. GoesSome a b)
    → MatchResult x (λ _. Visits a h seats olds now v b h others olds) (λ _. GoesSome a b)
left_taken (Ok w) a b h seats others olds now visitor v e p = subst (λ y. Visits a h seats olds now y b h others olds) (sym e)
    (left_visits a b h seats others olds now visitor p)
left_taken (Err w) a b h seats others olds now visitor v e p = p

pub came_taken : (x : Result (Unit {0}) Starved) (a : NodeCore) (h : House) (seats others : List SeatState) (olds : List Told) (now visitor : ℕ)
    (guest : Bool) (v : Visiting)
    → v ≡ Came visitor guest → OnOk x (others ≡ seats ++ new_seat visitor guest ∷ [])
    → MatchResult x (λ _. Visits a h seats olds now v a h others olds) (λ _. GoesSome a a)
came_taken (Ok w) a h seats others olds now visitor guest v e o = subst (λ y. Visits a h seats olds now y a h others olds) (sym e)
    (came_visits a h seats others olds now visitor guest o)
came_taken (Err w) a h seats others olds now visitor guest v e o = some_none a

pub line_taken : (x : Result (Unit {0}) Starved) (a b : NodeCore) (h k : House) (seats others : List SeatState) (olds news : List Told) (now visitor : ℕ)
    (line : List ℕ) (v : Visiting)
    → v ≡ Line visitor line → MatchResult x (λ _. HearsAt (place_of visitor seats) a h seats olds now visitor line b k others news) (λ _. GoesSome a b)
    → MatchResult x (λ _. Visits a h seats olds now v b k others news) (λ _. GoesSome a b)
line_taken (Ok w) a b h k seats others olds news now visitor line v e p =
    subst (λ y. Visits a h seats olds now y b k others news) (sym e) (line_visits a b h k seats others olds news now visitor line p)
line_taken (Err w) a b h k seats others olds news now visitor line v e p = p

-- what was lent of a list came back whole
pub lent_whole : {A : Type 0} (n : ℕ) (xs ys : List A) → n ≡ length xs → take n (xs ++ ys) ≡ xs
lent_whole n xs ys e = ap (λ i. take i (xs ++ ys)) e ∙ take-append_seam xs ys

pub left_back : (x : Result (Unit {0}) Starved) (a b : NodeCore) (h : House) (seats others lasts : List SeatState) (olds : List Told) (now visitor : ℕ)
    (v : Visiting)
    → v ≡ Left visitor → lasts ≡ others → MatchResult x (λ _. LeavesAt (place_of visitor seats) a seats now b others) (λ _. GoesSome a b)
    → MatchResult x (λ _. Visits a h seats olds now v b h lasts olds) (λ _. GoesSome a b)
left_back x a b h seats others lasts olds now visitor v e l p =
    subst (λ y. MatchResult x (λ _. Visits a h seats olds now v b h y olds) (λ _. GoesSome a b)) (sym l)
    (left_taken x a b h seats others olds now visitor v e p)

-- a visitor left, and then memory was wanted
pub left_some : (a b : NodeCore) (seats others : List SeatState) (now visitor : ℕ) → LeavesAt (place_of visitor seats) a seats now b others → GoesSome a b
left_some a b seats others now visitor p = visit_some a b now seats (Left visitor) (record { meaning = bad 0; reply = p.reply; shown = [] }) p.went

pub nothing_taken : (a : NodeCore) (h : House) (seats : List SeatState) (olds : List Told) (now : ℕ) (v : Visiting) → v ≡ Nothing
    → Visits a h seats olds now v a h seats olds
nothing_taken a h seats olds now v e = subst (λ y. Visits a h seats olds now y a h seats olds) (sym e) (nothing_visits a h seats olds now)

pub starved_taken : (a : NodeCore) (h : House) (seats : List SeatState) (olds : List Told) (now : ℕ) (v : Visiting) → v ≡ OutOfMemory
    → Visits a h seats olds now v a h seats olds
starved_taken a h seats olds now v e = subst (λ y. Visits a h seats olds now y a h seats olds) (sym e) (starved_visits a h seats olds now)

pub ruleset coming = (some_none, line_taken, nothing_taken, starved_taken)
