-- The seats of visitors: what their agents call is a call of another agent, under a number that the node gave, and within its ranges.
use Rattle.std.proofs.Common.{◌≡◌, ◌≢◌, refl, sym, ap, ◌∙◌, subst, arith, ℕ, zero, suc, ◌+◌, ◌-◌, ◌≤◌, ◌^◌, ◌==◌, ◌&&◌, min, not, Bool, true, false, cond, filter, get_or, List, [], ◌∷◌, slice_get, slice_set, Option, Some, None}
use borrow.Author.Tests.{eqb-true}
use Rattle.std.proofs.lemmas.List.Quantifiers.{position-Some}
use Rattle.std.proofs.lemmas.Option.{none-some, same_Some, slice_get-get_or}
use Rattle.std.specs.List.{AllByRecursion}
use Rattle.grasp_agent.specs.Replies.{is_again}
use Rattle.grasp_control.specs.Answers.{goes_on}
use Rattle.grasp_control.specs.Requests.{IsControlCall, IsRequestLine}
use Rattle.grasp_control.specs.declared.request.Request.{Request}
use Rattle.grasp_control.specs.declared.request.Request.TheVariants as request
use Rattle.grasp_crew.specs.Seats.{SeatState, after_goodbye, awaiting, gate_of, is_deregistering, is_left, is_seat_of, leaving, new_seat, placed_call, polled_number, seat_after, seat_answered, seat_ended, seat_replied, without_await}
use Rattle.grasp_crew.specs.declared.seat.Awaiting.{Awaiting}
use Rattle.grasp_crew.specs.declared.seat.Gate.{Gate}
use Rattle.grasp_crew.specs.declared.seat.Gate.TheVariants.{Passes, Seated, Seatless}
use Rattle.grasp_desk.specs.declared.desk.Visiting.{Visiting}
use Rattle.grasp_desk.specs.declared.desk.Visiting.TheVariants as desk
use Rattle.grasp_laws_serving.proofs.Agents.{IsOtherEntry, at_place, beside}
use Rattle.grasp_laws_serving.proofs.Happenings.{all_append, all_first, all_last}
use Rattle.grasp_laws_serving.proofs.Numbers.{GivesOthers}
use Rattle.grasp_model_network.specs.Ranges.{IsCall}
use Rattle.grasp_service_visits.specs.Calling.{call_at, call_made, goodbye_call, seat_at, seat_awaiting}
use Rattle.grasp_service_visits.specs.Each.{each_adds, each_after}
use Rattle.grasp_service_visits.specs.Serving.{call_of_request, seat_to}
use Rattle.grasp_service_visits.specs.Tending.{awaited_call, resumed, tend_call, tend_calls, tend_seat, tended, waits_on}
use Rattle.grasp_service_visits.specs.Visits.{AllMean, IsMeant, Meaning, MeantBy, Said, VisitMeans, Visited, all_visit_calls, asks, bad, heard_calls, left_calls, place_of, said_call, said_seat, seat_by, seat_left, seat_of, seats_after, seats_by, seats_visited, seats_where, visit_calls}
use Rattle.grasp_shared.specs.History.{Entry, History}
use Rattle.grasp_types.specs.declared.call.Call.{Call}
use Rattle.grasp_types.specs.declared.call.Call.TheVariants as call
use Rattle.grasp_types.specs.declared.reply.ApiAnswer.{ApiAnswer}
use Rattle.grasp_types.specs.declared.reply.ApiAnswer.TheVariants as answer
use Rattle.grasp_types.specs.declared.reply.Reply.{Reply}
use Rattle.grasp_types.specs.declared.reply.Reply.TheVariants as reply
use Rattle.grasp_types.specs.declared.session.Handle.{Handle}
use Rattle.grasp_types.specs.declared.session.Progress.{Progress}
use Rattle.grasp_types.specs.declared.session.Progress.TheVariants as progress

-- ---- a seat

-- a call that is awaited is within its ranges
abbrev pub IsAwait : Option Awaiting → Type 0
IsAwait None = Unit {0}
IsAwait (Some a) = IsCall a.call

-- visitors are numbered from 1, and the agent of a seat isn't agent 1
pub record IsSeat (s : SeatState) : Type 0 where
  pub number : 1 ≤ s.visitor
  pub asa : s.asa ≢ 1
  pub awaits : IsAwait s.awaits

abbrev pub AreSeats : List SeatState → Type 0
AreSeats ss = AllByRecursion IsSeat ss

unnumbered : (n : ℕ) → n ≡ 0 → n ≢ 1
unnumbered n is one = omega (arith, is, one)

pub new_is : (visitor : ℕ) (guest : Bool) → 1 ≤ visitor → IsSeat (new_seat visitor guest)
new_is visitor guest most = record { number = most; asa = unnumbered 0 refl; awaits = tt }

without_is : (s : SeatState) → IsSeat s → IsSeat (without_await s)
without_is s h = record { number = h.number; asa = h.asa; awaits = tt }

leaving_is : (s : SeatState) → IsSeat s → IsSeat (leaving s)
leaving_is s h = record { number = h.number; asa = h.asa; awaits = tt }

gone_is : (s : SeatState) → IsSeat s → IsSeat (record s { asa = 0; handles = [] })
gone_is s h = record { number = h.number; asa = unnumbered 0 refl; awaits = h.awaits }

either : (s t : SeatState) (b : Bool) → IsSeat s → IsSeat t → IsSeat (cond b s t)
either s t true h k = h
either s t false h k = k

awaiting_is : (s : SeatState) (line : List ℕ) (c : Call) (until : ℕ) (r : Reply) → IsCall c → IsSeat s → IsSeat (awaiting s line c until r)
awaiting_is s line c until r range h = record { number = h.number; asa = h.asa; awaits = range }

-- ---- after a reply

ended_is : (s : SeatState) (polled : Option ℕ) (p : Progress) → IsSeat s → IsSeat (seat_ended s polled p)
ended_is s polled (progress.Ended e) h = record { number = h.number; asa = h.asa; awaits = h.awaits }
ended_is s polled _ h = h

answered_is : (s : SeatState) (leaves : Bool) (polled : Option ℕ) (a : ApiAnswer) → GivesOthers (reply.Api a) → IsSeat s → IsSeat (seat_answered s leaves polled a)
answered_is s leaves polled (answer.Asa n) given h = record { number = h.number; asa = given n refl; awaits = h.awaits }
answered_is s leaves polled (answer.Started k) given h = record { number = h.number; asa = h.asa; awaits = h.awaits }
answered_is s leaves polled (answer.Incoming k from o) given h = record { number = h.number; asa = h.asa; awaits = h.awaits }
answered_is s leaves polled (answer.Polled p) given h = ended_is s polled p h
answered_is s leaves polled answer.Done given h = either (record s { asa = 0; handles = [] }) s leaves (gone_is s h) h
answered_is s leaves polled _ given h = h

replied_is : (s : SeatState) (leaves : Bool) (polled : Option ℕ) (r : Reply) → GivesOthers r → IsSeat s → IsSeat (seat_replied s leaves polled r)
replied_is s leaves polled (reply.Api a) given h = answered_is s leaves polled a given h
replied_is s leaves polled _ given h = h

after_is : (s : SeatState) (c : Call) (r : Reply) → GivesOthers r → IsSeat s → IsSeat (seat_after s c r)
after_is s c r given h = replied_is s (is_deregistering c) (polled_number c) r given h

-- ---- calls

placed_range : (ks : List Handle) (c : Call) → IsCall c → IsCall (placed_call ks c)
placed_range ks (call.NegotiateStep h v) range = range
placed_range ks (call.NegotiateWait h m) range = range
placed_range ks (call.EndNegotiate h v) range = range
placed_range ks (call.SendInvalid h d) range = range
placed_range ks (call.Poll h) range = range
placed_range ks _ range = range

-- what can be written on a line is within the ranges of a network
control_range : (c : Call) → IsControlCall c → IsCall c
control_range (call.RegisterAsa name) h = tt
control_range call.DeregisterAsa h = tt
control_range (call.RegisterObjective name flags) h = h
control_range (call.DeregisterObjective name) h = tt
control_range (call.Discover name kind loops timeout) h = (h.0, h.1)
control_range (call.RequestNegotiate name value loops timeout dry peer) h = (h.0, h.1, h.2)
control_range (call.ListenNegotiate name) h = tt
control_range (call.StopListenNegotiate name) h = tt
control_range (call.NegotiateStep handle value) h = h.1
control_range (call.NegotiateWait handle millis) h = h.1
control_range (call.EndNegotiate handle verdict) h = h.1
control_range (call.SendInvalid handle detail) h = h.1
control_range (call.Poll handle) h = tt
control_range (call.Synchronize name loops timeout peer) h = (h.0, h.1)
control_range (call.ListenSynchronize name value) h = h.1
control_range (call.StopListenSynchronize name) h = tt
control_range (call.Flood name value ttl loops) h = h
control_range (call.GetFlood name) h = tt
control_range (call.ExpireFlood name initiator) h = tt

abbrev IsCallOr : Option Call → Type 0
IsCallOr None = Unit {0}
IsCallOr (Some c) = IsCall c

at_gate_range : (g : Gate) (c : Call) → IsCall c → IsCallOr (call_at g c)
at_gate_range Passes c h = h
at_gate_range Seatless c h = tt
at_gate_range Seated c h = tt

request_range : (s : SeatState) (line : List ℕ) (q : Request) → IsRequestLine line q → IsCallOr (call_of_request s q)
request_range s line (request.Call c) h = at_gate_range (gate_of s c) c (control_range c h.ranges)
request_range s line (request.Await millis c) h = at_gate_range (gate_of s c) c (control_range c h.ranges.2)
request_range s line _ h = tt

said_range : (s : SeatState) (line : List ℕ) (m : Meaning) → IsMeant line m → IsCallOr (said_call s m)
said_range s line (asks q) h = request_range s line q h
said_range s line (bad at) h = tt

await_range : (s : SeatState) → IsSeat s → IsCallOr (awaited_call s.awaits)
await_range s h = by_await s.awaits h.awaits where
  by_await : (o : Option Awaiting) → IsAwait o → IsCallOr (awaited_call o)
  by_await None k = tt
  by_await (Some a) k = k

-- a call of a seat is one of another agent
call_other : (caller now : ℕ) (s : SeatState) (o : Option Call) (r : Reply) → 2 ≤ caller → IsSeat s → IsCallOr o → AllByRecursion IsOtherEntry (call_made caller now s o r)
call_other caller now s None r most h range = tt
call_other caller now s (Some c) r most h range = (record { beside = beside caller most; fit = (h.asa, placed_range s.handles c range) }, tt)

-- its reply is that of the call, where one is made
abbrev GivesAt : Option Call → Reply → Type 0
GivesAt None r = Unit {0}
GivesAt (Some c) r = GivesOthers r

abbrev pub AllGive : History → Type 0
AllGive es = AllByRecursion (λ (e : Entry). GivesOthers e.reply) es

gives_at : (caller now : ℕ) (s : SeatState) (o : Option Call) (r : Reply) → AllGive (call_made caller now s o r) → GivesAt o r
gives_at caller now s None r all = tt
gives_at caller now s (Some c) r all = all.0

-- ---- a line

passes : (g : Gate) (s t : SeatState) → IsSeat s → (g ≡ Passes → IsSeat t) → IsSeat (seat_at g s t)
passes Passes s t h k = k refl
passes Seatless s t h k = h
passes Seated s t h k = h

gate_gives : (g : Gate) (c : Call) (r : Reply) → g ≡ Passes → GivesAt (call_at g c) r → GivesOthers r
gate_gives g c r is all = subst (λ (x : Gate). GivesAt (call_at x c) r) is all

awaited_is : (now : ℕ) (line : List ℕ) (millis : ℕ) (c : Call) (r : Reply) (s : SeatState) → IsCall c → IsSeat s → IsSeat (seat_awaiting now line millis c r s)
awaited_is now line millis c r s range h = by_reply (goes_on r) where
  by_reply : (b : Bool) → IsSeat (cond b (awaiting s line c (min (now + millis) (2 ^ 64 - 1)) r) s)
  by_reply true = awaiting_is s line c (min (now + millis) (2 ^ 64 - 1)) r range h
  by_reply false = h

request_is : (now : ℕ) (line : List ℕ) (s : SeatState) (q : Request) (r : Reply) → IsRequestLine line q → GivesAt (call_of_request s q) r → IsSeat s → IsSeat (seat_to now line s q r)
request_is now line s (request.Call c) r meant give h = passes (gate_of s c) s (seat_after s c r) h (λ e. after_is s c r (gate_gives (gate_of s c) c r e give) h)
request_is now line s (request.Await millis c) r meant give h =
    passes (gate_of s c) s (seat_awaiting now line millis c r (seat_after s c r)) h
    (λ e. awaited_is now line millis c r (seat_after s c r) (control_range c meant.ranges.2) (after_is s c r (gate_gives (gate_of s c) c r e give) h))
request_is now line s request.Events r meant give h = record { number = h.number; asa = h.asa; awaits = h.awaits }
request_is now line s _ r meant give h = h

said_is : (now : ℕ) (line : List ℕ) (s : SeatState) (m : Meaning) (r : Reply) → IsMeant line m → GivesAt (said_call s m) r → IsSeat s → IsSeat (said_seat now line s m r)
said_is now line s (asks q) r meant give h = request_is now line s q r meant give h
said_is now line s (bad at) r meant give h = h

-- ---- leaving

goodbye_is : (s : SeatState) (r : Reply) → IsSeat s → IsSeat (after_goodbye s r)
goodbye_is s r h = either s (record s { asa = 0; handles = [] }) (is_again r) h (gone_is s h)

left_is : (s : SeatState) (r : Reply) → IsSeat s → IsSeat (seat_left s r)
left_is s r h = either (after_goodbye (leaving s) r) (leaving s) (is_left (leaving s)) (goodbye_is (leaving s) r (leaving_is s h)) (leaving_is s h)

goodbye_range : (s : SeatState) → IsCallOr (goodbye_call s)
goodbye_range s = by_left (is_left s) where
  by_left : (b : Bool) → IsCallOr (cond b (Some call.DeregisterAsa) None)
  by_left true = tt
  by_left false = tt

-- ---- seats

pub set_seats : (ss : List SeatState) (i : ℕ) (t : SeatState) → IsSeat t → AreSeats ss → AreSeats (slice_set ss i t)
set_seats [] i t h all = tt
set_seats (s ∷ ss) zero t h all = (h, all.1)
set_seats (s ∷ ss) (suc i) t h all = (all.0, set_seats ss i t h all.1)

-- the seat of a visitor, and that it is the visitor's
pub record IsFound (visitor : ℕ) (s : SeatState) : Type 0 where
  pub seat : IsSeat s
  pub own : visitor ≡ s.visitor

both_true : (a b : Bool) → (a && b) ≡ true → a ≡ true
both_true true b e = refl
both_true false b e = e

found_at : (visitor : ℕ) (seats : List SeatState) (place : ℕ) (s : SeatState) → place_of visitor seats ≡ Some place → slice_get seats place ≡ Some s → AreSeats seats → IsFound visitor s
found_at visitor seats place s at there all =
    let p = position-Some (is_seat_of visitor) seats place s at in
    let same : s ≡ get_or seats place s = same_Some s (get_or seats place s) (sym there ∙ slice_get-get_or seats place s p.0) in
    let own : is_seat_of visitor s ≡ true = ap (is_seat_of visitor) same ∙ p.1 in
    record { seat = at_place IsSeat seats place s all there; own = same_number s.visitor visitor (both_true (s.visitor == visitor) (not s.leaving) own) } where
      same_number : (m n : ℕ) → (m == n) ≡ true → n ≡ m
      same_number m n e = sym (eqb-true m n e)

abbrev FoundOr : ℕ → Option SeatState → Type 0
FoundOr visitor None = Unit {0}
FoundOr visitor (Some s) = IsFound visitor s

found_or : (visitor : ℕ) (seats : List SeatState) → AreSeats seats → FoundOr visitor (seat_of visitor seats)
found_or visitor seats all = by_place (place_of visitor seats) refl where
  by_seat : (place : ℕ) → place_of visitor seats ≡ Some place → (o : Option SeatState) → slice_get seats place ≡ o → FoundOr visitor o
  by_seat place at None e = tt
  by_seat place at (Some s) e = found_at visitor seats place s at e all

  by_place : (o : Option ℕ) → place_of visitor seats ≡ o → FoundOr visitor (seat_by seats o)
  by_place None e = tt
  by_place (Some place) e = by_seat place e (slice_get seats place) refl

-- the seats, where that of the visitor is another
where_is : (f : SeatState → SeatState) (seats : List SeatState) (o : Option ℕ) → ((s : SeatState) → seat_by seats o ≡ Some s → IsSeat (f s)) → AreSeats seats → AreSeats (seats_by f seats o)
where_is f seats None h all = all
where_is f seats (Some place) h all = by_seat (slice_get seats place) refl where
  by_seat : (o : Option SeatState) → slice_get seats place ≡ o → AreSeats (seats_where f seats place o)
  by_seat None e = all
  by_seat (Some s) e = set_seats seats place (f s) (h s e) all

-- ---- what came of visitors

-- a visitor that comes is numbered from 1
abbrev pub IsNumbered : Visiting → Type 0
IsNumbered (desk.Came visitor guest) = 1 ≤ visitor
IsNumbered _ = Unit {0}

-- calls of others, and the seats behind them
pub record Heard (es : History) (seats : List SeatState) : Type 0 where
  pub others : AllByRecursion IsOtherEntry es
  pub are : AreSeats seats

caller_above : (agents visitor : ℕ) (s : SeatState) → 1 ≤ agents → IsFound visitor s → 2 ≤ agents + visitor
caller_above agents visitor s some f = above visitor s.visitor f.own f.seat.number where
  above : (v n : ℕ) → v ≡ n → 1 ≤ n → 2 ≤ agents + v
  above v n e h = omega (arith, some, e, h)

heard_others : (agents now visitor : ℕ) (line : List ℕ) (o : Option SeatState) (said : Said) → 1 ≤ agents → FoundOr visitor o → MeantBy o line said.meaning
    → AllByRecursion IsOtherEntry (heard_calls (agents + visitor) now o said)
heard_others agents now visitor line None said some f meant = tt
heard_others agents now visitor line (Some s) said some f meant =
    call_other (agents + visitor) now (without_await s) (said_call (without_await s) said.meaning) said.reply (caller_above agents visitor s some f) (without_is s f.seat)
    (said_range (without_await s) line said.meaning meant)

left_others : (agents now visitor : ℕ) (o : Option SeatState) (r : Reply) → 1 ≤ agents → FoundOr visitor o → AllByRecursion IsOtherEntry (left_calls (agents + visitor) now o r)
left_others agents now visitor None r some f = tt
left_others agents now visitor (Some s) r some f =
    call_other (agents + visitor) now (leaving s) (goodbye_call (leaving s)) r (caller_above agents visitor s some f) (leaving_is s f.seat) (goodbye_range (leaving s))

line_seats : (agents now visitor : ℕ) (line : List ℕ) (seats : List SeatState) (said : Said) → MeantBy (seat_of visitor seats) line said.meaning
    → AllGive (heard_calls (agents + visitor) now (seat_of visitor seats) said) → AreSeats seats
    → AreSeats (seats_by (λ s. said_seat now line (without_await s) said.meaning said.reply) seats (place_of visitor seats))
line_seats agents now visitor line seats said meant give all = where_is (λ s. said_seat now line (without_await s) said.meaning said.reply) seats (place_of visitor seats) each all where
  heard : (s : SeatState) (o : Option SeatState) → o ≡ Some s → FoundOr visitor o → MeantBy o line said.meaning → AllGive (heard_calls (agents + visitor) now o said)
      → IsSeat (said_seat now line (without_await s) said.meaning said.reply)
  heard s None e f meant give = absurd (none-some s e)
  heard s (Some t) e f meant give =
      subst (λ (x : SeatState). IsSeat (said_seat now line (without_await x) said.meaning said.reply)) (same_Some t s e)
      (said_is now line (without_await t) said.meaning said.reply meant
      (gives_at (agents + visitor) now (without_await t) (said_call (without_await t) said.meaning) said.reply give) (without_is t f.seat))

  each : (s : SeatState) → seat_of visitor seats ≡ Some s → IsSeat (said_seat now line (without_await s) said.meaning said.reply)
  each s e = heard s (seat_of visitor seats) e (found_or visitor seats all) meant give

left_seats : (visitor : ℕ) (seats : List SeatState) (r : Reply) → AreSeats seats → AreSeats (seats_by (λ s. seat_left s r) seats (place_of visitor seats))
left_seats visitor seats r all = where_is (λ s. seat_left s r) seats (place_of visitor seats) each all where
  left : (s : SeatState) (o : Option SeatState) → o ≡ Some s → FoundOr visitor o → IsSeat (seat_left s r)
  left s None e f = absurd (none-some s e)
  left s (Some t) e f = subst (λ (x : SeatState). IsSeat (seat_left x r)) (same_Some t s e) (left_is t r f.seat)

  each : (s : SeatState) → seat_of visitor seats ≡ Some s → IsSeat (seat_left s r)
  each s e = left s (seat_of visitor seats) e (found_or visitor seats all)

visit_heard : (agents now : ℕ) (seats : List SeatState) (v : Visiting) (said : Said) → 1 ≤ agents → IsNumbered v → VisitMeans seats v said → AllGive (visit_calls agents now seats v said) → AreSeats seats
    → Heard (visit_calls agents now seats v said) (seats_visited now seats v said)
visit_heard agents now seats (desk.Came visitor guest) said some number means give all = record { others = tt; are = all_append IsSeat seats (new_seat visitor guest ∷ []) all (new_is visitor guest number, tt) }
visit_heard agents now seats (desk.Line visitor line) said some number means give all = record {
  others = heard_others agents now visitor line (seat_of visitor seats) said some (found_or visitor seats all) means;
  are = line_seats agents now visitor line seats said means give all;
}
visit_heard agents now seats (desk.Left visitor) said some number means give all = record {
  others = left_others agents now visitor (seat_of visitor seats) said.reply some (found_or visitor seats all);
  are = left_seats visitor seats said.reply all;
}
visit_heard agents now seats desk.Nothing said some number means give all = record { others = tt; are = all }
visit_heard agents now seats desk.OutOfMemory said some number means give all = record { others = tt; are = all }

pub visits_heard : (vs : List Visited) (agents now : ℕ) (seats : List SeatState) → 1 ≤ agents → AllByRecursion (λ (v : Visited). IsNumbered v.visiting) vs → AllMean now seats vs
    → AllGive (all_visit_calls agents now seats vs) → AreSeats seats → Heard (all_visit_calls agents now seats vs) (seats_after now seats vs)
visits_heard [] agents now seats some number means give all = record { others = tt; are = all }
visits_heard (v ∷ vs) agents now seats some number means give all =
    let first : History = visit_calls agents now seats v.visiting v.said in
    let next : List SeatState = seats_visited now seats v.visiting v.said in
    let rest : History = all_visit_calls agents now next vs in
    let f = visit_heard agents now seats v.visiting v.said some number.0 means.0 (all_first (λ (e : Entry). GivesOthers e.reply) first rest give) all in
    let g = visits_heard vs agents now next some number.1 means.1 (all_last (λ (e : Entry). GivesOthers e.reply) first rest give) f.are in
    record { others = all_append IsOtherEntry first rest f.others g.others; are = g.are }

-- ---- seats that are seen to

tend_range : (s : SeatState) → IsSeat s → IsCallOr (tend_call s)
tend_range s h = by_left (is_left s) where
  by_left : (b : Bool) → IsCallOr (cond b (Some call.DeregisterAsa) (awaited_call s.awaits))
  by_left true = tt
  by_left false = await_range s h

tend_seat_is : (s : SeatState) → IsSeat s → IsSeat (tend_seat s)
tend_seat_is s h = either s (without_await s) (is_left s) h (without_is s h)

resumed_is : (now : ℕ) (s : SeatState) (o : Option Awaiting) (r : Reply) → IsAwait o → GivesAt (awaited_call o) r → IsSeat s → IsSeat (resumed now s o r)
resumed_is now s None r k give h = h
resumed_is now s (Some a) r k give h =
    either (awaiting (seat_after (without_await s) a.call r) a.line a.call a.until r) (seat_after (without_await s) a.call r) (waits_on now a r)
    (awaiting_is (seat_after (without_await s) a.call r) a.line a.call a.until r k (after_is (without_await s) a.call r give (without_is s h)))
    (after_is (without_await s) a.call r give (without_is s h))

tended_is : (now : ℕ) (s : SeatState) (r : Reply) → GivesAt (tend_call s) r → IsSeat s → IsSeat (tended now s r)
tended_is now s r give h = by_left (is_left s) give where
  by_left : (b : Bool) → GivesAt (cond b (Some call.DeregisterAsa) (awaited_call s.awaits)) r → IsSeat (cond b (after_goodbye s r) (resumed now s s.awaits r))
  by_left true k = goodbye_is s r h
  by_left false k = resumed_is now s s.awaits r h.awaits k h

pub tend_heard : (seats : List SeatState) (rs : List Reply) (agents now n : ℕ) → 1 ≤ agents → AllGive (each_adds (λ place. tend_calls agents now) n seats rs) → AreSeats seats
    → Heard (each_adds (λ place. tend_calls agents now) n seats rs) (each_after (tended now) seats rs)
tend_heard [] rs agents now n some give all = record { others = tt; are = tt }
tend_heard (s ∷ seats) [] agents now n some give all = record { others = tt; are = all }
tend_heard (s ∷ seats) (r ∷ rs) agents now n some give all =
    let first : History = tend_calls agents now s r in
    let rest : History = each_adds (λ place. tend_calls agents now) (n + 1) seats rs in
    let g = tend_heard seats rs agents now (n + 1) some (all_last (λ (e : Entry). GivesOthers e.reply) first rest give) all.1 in
    let number : 1 ≤ s.visitor = all.0.number in
    record {
      others =
          all_append IsOtherEntry first rest
          (call_other (agents + s.visitor) now (tend_seat s) (tend_call s) r (omega (arith, some, number)) (tend_seat_is s all.0) (tend_range s all.0)) g.others;
      are =
          (tended_is now s r (gives_at (agents + s.visitor) now (tend_seat s) (tend_call s) r (all_first (λ (e : Entry). GivesOthers e.reply) first rest give)) all.0, g.are);
    }

-- those that stay
stay_if : (b : Bool) (s : SeatState) (seats : List SeatState) → IsSeat s → AreSeats seats → AreSeats (cond b (s ∷ seats) seats)
stay_if true s seats h all = (h, all)
stay_if false s seats h all = all

pub staying : (p : SeatState → Bool) (seats : List SeatState) → AreSeats seats → AreSeats (filter p seats)
staying p [] all = tt
staying p (s ∷ seats) all = stay_if (p s) s (filter p seats) all.0 (staying p seats all.1)
