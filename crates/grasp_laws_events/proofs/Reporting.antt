-- What is reported of an event.
use Rattle.std.proofs.Common.{◌≡◌, refl, sym, ap, ◌∙◌, subst, arith, tests, ℕ, zero, suc, ◌-◌, max, nat_lt, Bool, true, false, cond, not, filter, ◌==◌, List, [], ◌∷◌, length, slice_get, slice_set, Option, Some, None, Result, Ok, Err}
use Rattle.std.proofs.lemmas.Bool.{true≢false}
use Rattle.std.proofs.lemmas.List.Elements.{Contains-push}
use Rattle.std.proofs.lemmas.Option.{none-some, same_Some}
use Rattle.grasp_agent.specs.Replies.{want_reply, return_reply, after_want, after_return}
use Rattle.grasp_agent.specs.States.{AgentState}
use Rattle.grasp_agent.specs.declared.back.Return.{Return}
use Rattle.grasp_agent.specs.declared.back.ReturnFault.{ReturnFault}
use Rattle.grasp_agent.specs.declared.back.ReturnFault.TheVariants as return_fault
use Rattle.grasp_agent.specs.declared.want.Want.{Want}
use Rattle.grasp_agent.specs.declared.want.WantFault.{WantFault}
use Rattle.grasp_agent.specs.declared.want.WantFault.TheVariants as want_fault
use Rattle.grasp_laws_network.proofs.Lists.{numbered_there}
use Rattle.grasp_laws_network.proofs.Staying.{put_here}
use Rattle.grasp_laws_node.proofs.Beginning.{beginnings_end}
use Rattle.grasp_model_network.specs.EventSteps.{agent_input, agent_seat, agent_visit, after_clock, clock_seat, sent_count, want_answer, return_answer}
use Rattle.grasp_model_network.specs.Events.{Occurs, after_event, visit_of}
use Rattle.grasp_model_network.specs.Offers.{is_offer_of}
use Rattle.grasp_model_network.specs.Reports.{report_of}
use Rattle.grasp_model_network.specs.Runs.{IsReached}
use Rattle.grasp_model_network.specs.Sending.{seat_with, stepped}
use Rattle.grasp_model_network.specs.Setting.{Setting, numbered}
use Rattle.grasp_model_network.specs.Telling.{after_told, return_told, want_told, with_return}
use Rattle.grasp_model_network.specs.Visits.{Visit, Choice, VisitStep, is_starved, visit_seat}
use Rattle.grasp_model_network.specs.World.{Offered, Seat, WorldState, present_life, seat_at, with_seat}
use Rattle.grasp_model_network.specs.declared.event.Event.{Event}
use Rattle.grasp_model_network.specs.declared.event.Event.TheVariants as event
use Rattle.grasp_model_network.specs.declared.report.Report.TheVariants as report
use Rattle.grasp_model_node.specs.Begin.{begin}
use Rattle.grasp_model_node.specs.Draining.{after_drain, drained}
use Rattle.grasp_model_node.specs.Node.{NodeState}
use Rattle.grasp_model_node.specs.Step.{Drains}
use Rattle.grasp_pool.specs.Pools.{room_of}
use Rattle.grasp_types.specs.Prefix.{AddressBlock as Prefix}
use Rattle.grasp_types.specs.declared.address.Locator.{Locator}
use Rattle.grasp_types.specs.declared.reply.Reply.{Reply}
use Rattle.grasp_types.specs.declared.reply.Reply.TheVariants as reply
use Rattle.grasp_types.specs.declared.traffic.Input.TheVariants as input
use Rattle.grasp_laws_events.proofs.Parts.{after_is, comes_is, has_seat, report_is}
use Rattle.grasp_laws_events.specs.Reporting.{ReadingIsTold, CountIsTold, CallIsTold, TellsReply, WantIsTold, ReturnIsTold, EventsAreReported}

-- ---- a clock

drained_reading : (n after : NodeState) (max : ℕ) (r : Reply) → Drains n max r after → after.reading ≡ n.reading
unfolding after_drain
drained_reading n after max (reply.Outputs outputs) d = ap (λ (m : NodeState). m.reading) d.1
drained_reading n after max reply.OutOfMemory d = ap (λ (m : NodeState). m.reading) d.1
drained_reading n after max _ d = absurd d

reading_is_told : (s : Setting) (w : WorldState) (node millis : ℕ) (c : Choice) → IsReached s w → Occurs s w (event.Clock node millis) c → ReadingIsTold s w node millis c
unfolding after_clock stepped
reading_is_told s w node millis c r o = by_seat (has_seat s w node r o.fit) where
  life : ℕ
  life = present_life w node

  by_seat : (seat : Seat) × (seat_at w life ≡ Some seat) → ReadingIsTold s w node millis c
  by_seat (seat, here) = record {
    before = seat;
    here = here;
    after = seat_with c.after seat.agent;
    there = ap (λ (x : WorldState). seat_at x life) (after_is s w (event.Clock node millis) c v visits) ∙ there;
    reading = drained_reading (begin seat.core millis) c.after 0 c.reply step.steps.acts ∙ (beginnings_end seat.core millis).0.reading;
    told = report_is s w (event.Clock node millis) c v visits;
  } where
    v : Visit
    v = record { node = life; seat = seat; now = millis; input = input.Drain 0 }

    visits : visit_of s w (event.Clock node millis) ≡ Some v
    visits = ap (clock_seat life millis) here

    step : VisitStep v c
    step = comes_is s w (event.Clock node millis) c v visits o

    there : seat_at (after_clock w v c) life ≡ Some (seat_with c.after seat.agent)
    there = put_here w.seats life seat (seat_with c.after seat.agent) here

-- ---- a drain

count_is_told : (s : Setting) (w : WorldState) (node max : ℕ) (c : Choice) → IsReached s w → Occurs s w (event.Drain node max) c → CountIsTold s w node max c
unfolding sent_count
count_is_told s w node max c r o = by_seat (has_seat s w node r o.fit) where
  life : ℕ
  life = present_life w node

  by_seat : (seat : Seat) × (seat_at w life ≡ Some seat) → CountIsTold s w node max c
  by_seat (seat, here) = by_reply c.reply refl step.steps.acts step.fed where
    v : Visit
    v = record { node = life; seat = seat; now = seat.core.reading; input = input.Drain max }

    visits : visit_of s w (event.Drain node max) ≡ Some v
    visits = ap (visit_seat life (input.Drain max)) here

    step : VisitStep v c
    step = comes_is s w (event.Drain node max) c v visits o

    count_is : sent_count v max ≡ length (drained (begin seat.core seat.core.reading) max)
    count_is = refl

    by_reply : (q : Reply) → c.reply ≡ q → Drains (begin seat.core seat.core.reading) max q c.after → is_starved q ≡ false → CountIsTold s w node max c
    by_reply (reply.Outputs outputs) is d fed = record {
      outputs = outputs;
      given = is;
      told = report_is s w (event.Drain node max) c v visits ∙ ap report.Sent (count_is ∙ ap (λ os. length os) (sym d.0));
    }
    by_reply reply.OutOfMemory is d fed = absurd (true≢false fed)
    by_reply _ is d fed = absurd d

-- ---- the agent of prefixes

call_is_told : (s : Setting) (w : WorldState) (node : ℕ) (hold : Bool) (c : Choice) → IsReached s w → Occurs s w (event.Agent node hold) c → CallIsTold s w node hold c
unfolding agent_visit
call_is_told s w node hold c r o = by_seat (has_seat s w node r o.fit) where
  life : ℕ
  life = present_life w node

  by_seat : (seat : Seat) × (seat_at w life ≡ Some seat) → CallIsTold s w node hold c
  by_seat (seat, here) = record {
    seat = seat;
    here = here;
    told = report_is s w (event.Agent node hold) c (record { node = life; seat = seat; now = seat.core.reading; input = agent_input seat.agent }) (ap (agent_seat life) here);
  }

-- ---- a reply

replies_are_told : (s : Setting) (w : WorldState) (e : Event) (c : Choice) (v : Visit) → TellsReply e → visit_of s w e ≡ Some v → report_of s w e c ≡ report.Reply c.reply
replies_are_told s w (event.Api node asa call hold) c v t is = report_is s w (event.Api node asa call hold) c v is
replies_are_told s w (event.Datagram index hold) c v t is = report_is s w (event.Datagram index hold) c v is
replies_are_told s w (event.Arrive k hold) c v t is = report_is s w (event.Arrive k hold) c v is
replies_are_told s w (event.Bytes k far count hold) c v t is = report_is s w (event.Bytes k far count hold) c v is
replies_are_told s w (event.Cut k far hold) c v t is = report_is s w (event.Cut k far hold) c v is
replies_are_told s w _ c v t is = absurd t

-- ---- an agent that stays

set_back : {A : Type 0} (xs : List A) (i : ℕ) (x : A) → slice_get xs i ≡ Some x → slice_set xs i x ≡ xs
set_back [] i x e = refl
set_back (y ∷ ys) zero x e = ap (λ z. z ∷ ys) (sym (same_Some y x e))
set_back (y ∷ ys) (suc i) x e = ap (λ zs. y ∷ zs) (set_back ys i x e)

put_back : (seats : List Seat) (life : ℕ) (seat : Seat) → numbered seats life ≡ Some seat → slice_set seats (life - 1) seat ≡ seats
put_back seats life seat e = by_zero (life == 0) refl where
  by_zero : (b : Bool) → (life == 0) ≡ b → slice_set seats (life - 1) seat ≡ seats
  by_zero true is = absurd (none-some seat (subst (λ z. cond z None (slice_get seats (life - 1)) ≡ Some seat) is e))
  by_zero false is = set_back seats (life - 1) seat (subst (λ z. cond z None (slice_get seats (life - 1)) ≡ Some seat) is e)

-- where the same agent is put back, the network is the same
same_network : (w : WorldState) (life : ℕ) (seat : Seat) → seat_at w life ≡ Some seat → record (with_seat w life (seat_with seat.core seat.agent)) { offers = w.offers } ≡ w
same_network w life seat here = ap (λ (seats : List Seat). record w { seats = seats }) (put_back w.seats life seat here)

-- ---- a want

no_room : (n : ℕ) → nat_lt 0 n ≡ false → n ≡ 0
no_room n e = grind (arith, tests)

-- what the answer says of the agent's want
abbrev WantAnswer : AgentState → Result (Unit {0}) WantFault → Type 0
WantAnswer a (Ok done) = a.want ≡ None
WantAnswer a (Err (want_fault.Busy wanted longest)) = (w : Want) × (a.want ≡ Some w) × (w.length ≡ wanted) × (w.longest ≡ longest)
WantAnswer a (Err want_fault.Full) = (a.want ≡ None) × (room_of a.pool ≡ 0)

want_answers : (a : AgentState) → WantAnswer a (want_reply a)
want_answers a = by_want a.want where
  by_room : (b : Bool) → nat_lt 0 (room_of a.pool) ≡ b → WantAnswer (record a { want = None }) (cond b (Ok tt) (Err want_fault.Full))
  by_room true e = refl
  by_room false e = (refl, no_room (room_of a.pool) e)

  by_want : (o : Option Want) → WantAnswer (record a { want = o }) (want_reply (record a { want = o }))
  by_want (Some x) = (x, refl, refl, refl)
  by_want None = by_room (nat_lt 0 (room_of a.pool)) refl

want_is_told : (s : Setting) (w : WorldState) (node wanted longest peer : ℕ) (c : Choice) → IsReached s w → Occurs s w (event.Want node wanted longest peer) c
    → WantIsTold s w node wanted longest peer (after_event s w (event.Want node wanted longest peer) c) (report_of s w (event.Want node wanted longest peer) c)
unfolding after_event report_of
want_is_told s w node wanted longest peer c r o = by_parts (has_seat s w node r o.fit.0) (numbered_there s.peers peer o.fit.1) where
  life : ℕ
  life = present_life w node

  by_parts : (seat : Seat) × (seat_at w life ≡ Some seat) → (locator : Locator) × (numbered s.peers peer ≡ Some locator)
      → WantIsTold s w node wanted longest peer (after_told w (want_told life wanted longest (numbered s.peers peer))) (report.Want (want_answer (seat_at w life)))
  by_parts (seat, here) (locator, named) = rw (named, here) (by_answer (want_reply seat.agent) (want_answers seat.agent)) where
    by_answer : (q : Result (Unit {0}) WantFault) → WantAnswer seat.agent q
        → WantIsTold s w node wanted longest peer
        (record (with_seat w life (seat_with seat.core (after_want seat.agent wanted longest locator q))) { offers = w.offers }) (report.Want q)
    by_answer (Ok done) idle = record { seat = seat; here = here; idle = idle; locator = locator; named = named; want = put_here w.seats life seat _ here }
    by_answer (Err (want_fault.Busy n m)) busy = ((seat, here, busy), same_network w life seat here)
    by_answer (Err want_fault.Full) full = ((seat, here, full), same_network w life seat here)

-- ---- a return

return_idle : (a : AgentState) (p : Prefix) → (done : Unit {0}) → return_reply a p ≡ Ok done → a.back ≡ None
return_idle a p done e = by_back a.back refl e where
  by_back : (o : Option Return) → a.back ≡ o → return_reply a p ≡ Ok done → a.back ≡ None
  by_back None is f = is
  by_back (Some b) is f = absurd (let g : return_reply a p ≡ Err (return_fault.Busy b.prefix) = rw is refl in cc)

return_is_told : (s : Setting) (w : WorldState) (node : ℕ) (p : Prefix) (peer : ℕ) (c : Choice) → IsReached s w → Occurs s w (event.Return node p peer) c
    → ReturnIsTold s w node p peer (after_event s w (event.Return node p peer) c) (report_of s w (event.Return node p peer) c)
unfolding after_event report_of
return_is_told s w node p peer c r o = by_parts (has_seat s w node r o.fit.0) (numbered_there s.peers peer o.fit.1) where
  life : ℕ
  life = present_life w node

  by_parts : (seat : Seat) × (seat_at w life ≡ Some seat) → (locator : Locator) × (numbered s.peers peer ≡ Some locator)
      → ReturnIsTold s w node p peer (after_told w (return_told life p (numbered s.peers peer))) (report.Return (return_answer p (seat_at w life)))
  by_parts (seat, here) (locator, named) = rw (named, here) (by_answer (return_reply seat.agent p) refl) where
    by_answer : (q : Result (Unit {0}) ReturnFault) → return_reply seat.agent p ≡ q
        → ReturnIsTold s w node p peer
        (record (with_seat w life (seat_with seat.core (after_return seat.agent p locator q))) { offers = with_return w.offers life p q }) (report.Return q)
    by_answer (Ok done) is = record {
      seat = seat;
      here = here;
      idle = return_idle seat.agent p done is;
      locator = locator;
      named = named;
      after = seat_with seat.core (after_return seat.agent p locator (Ok done));
      there = put_here w.seats life seat (seat_with seat.core (after_return seat.agent p locator (Ok done))) here;
      back = refl;
      offered = Contains-push (filter (λ (x : Offered). not (is_offer_of life p x)) w.offers) (record { node = life; prefix = p; talk = None });
    }
    by_answer (Err fault) is = same_network w life seat here

pub events_are_reported : EventsAreReported
events_are_reported = record {
  clocks = reading_is_told;
  drains = count_is_told;
  agents = call_is_told;
  replies = replies_are_told;
  wants = want_is_told;
  returns = return_is_told;
}
