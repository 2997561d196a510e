-- A seat stands as what came and what was answered says, and each of its calls is its own.
use Rattle.std.proofs.Common.{◌≡◌, ◌≢◌, refl, sym, ap, ◌∙◌, subst, ◌⊎◌, inl, inr, arith, ℕ, ◌+◌, ◌-◌, ◌≤◌, ◌^◌, ◌==◌, ◌&&◌, min, not, Bool, true, false, cond, List, [], ◌∷◌, Option, Some, None}
use Rattle.std.proofs.lemmas.Bool.{eq-eqb, eqb-false, eqb-true, false≢true, not-true}
use Rattle.std.specs.List.{AllByRecursion}
use Rattle.std.specs.Prelude.{nat_lt}
use Rattle.grasp_agent.specs.Replies.{is_again}
use Rattle.grasp_control.specs.Answers.{goes_on}
use Rattle.grasp_control.specs.Requests.{IsRequestLine, may_wait}
use Rattle.grasp_control.specs.declared.request.Request.{Request}
use Rattle.grasp_control.specs.declared.request.Request.TheVariants as request
use Rattle.grasp_crew.specs.Seats.{SeatState, after_goodbye, awaiting, gate_of, is_left, leaving, placed_call, polled_number, seat_after, without_await}
use Rattle.grasp_crew.specs.declared.seat.Awaiting.{Awaiting}
use Rattle.grasp_crew.specs.declared.seat.Gate.{Gate}
use Rattle.grasp_crew.specs.declared.seat.Gate.TheVariants.{Passes, Seated as Sits, Seatless}
use Rattle.grasp_desk.specs.declared.desk.Visiting.{Visiting}
use Rattle.grasp_desk.specs.declared.desk.Visiting.TheVariants as desk
use Rattle.grasp_laws_visits.proofs.Lists.{both_true}
use Rattle.grasp_laws_visits.proofs.Seats.{after_is}
use Rattle.grasp_laws_visits.proofs.Sessions.{IsOfOthers, Owns, ended_number, other_number, own_call, own_other, placed_is}
use Rattle.grasp_laws_visits.specs.Calls.{AreOwnCalls, IsOwnCall, IsPlaced, MayCall, session_named}
use Rattle.grasp_laws_visits.specs.Knowing.{HasLeft, Heard, LeavesBy, Wrote, WroteCall, agent_number, number_replied}
use Rattle.grasp_laws_visits.specs.Logs.{Happening, Log, called, heard, logged}
use Rattle.grasp_service_visits.specs.Calling.{call_at, call_made, goodbye_call, goodbye_seat, seat_at, seat_awaiting, seat_entry}
use Rattle.grasp_service_visits.specs.Serving.{call_of_request, seat_to}
use Rattle.grasp_service_visits.specs.Tending.{awaited_call, resumed, tend_calls, tended, waits_on}
use Rattle.grasp_service_visits.specs.Visits.{IsMeant, Meaning, asks, bad, said_call, said_seat, seat_left}
use Rattle.grasp_shared.specs.History.{Entry, History}
use Rattle.grasp_types.specs.declared.call.Call.{Call}
use Rattle.grasp_types.specs.declared.call.Call.TheVariants as call
use Rattle.grasp_types.specs.declared.reply.ApiAnswer.TheVariants as answer
use Rattle.grasp_types.specs.declared.reply.Reply.{Reply}
use Rattle.grasp_types.specs.declared.reply.Reply.TheVariants as reply
use Rattle.grasp_types.specs.declared.session.Handle.{Handle}
use Rattle.grasp_types.specs.declared.traffic.Input.{Input}
use Rattle.grasp_types.specs.declared.traffic.Input.TheVariants as input

-- ---- a seat

-- a call that is awaited was written so, and its visitor has an agent
abbrev pub IsAwaited : ℕ → Log → ℕ → Option Awaiting → Type 0
IsAwaited visitor log asa None = Unit {0}
IsAwaited visitor log asa (Some a) = (millis : ℕ) × Wrote visitor log (request.Await millis a.call) × (asa ≢ 0)

-- its visitor is there
pub record Stays (agents : ℕ) (log : Log) (s : SeatState) : Type 0 where
  pub here : s.leaving ≡ false
  pub stays : ¬ HasLeft s.visitor log
  pub owns : Owns (agents + s.visitor) log s
  pub awaits : IsAwaited s.visitor log s.asa s.awaits

-- its visitor left
pub record Leaves (agents : ℕ) (log : Log) (s : SeatState) : Type 0 where
  pub gone : s.leaving ≡ true
  pub left : HasLeft s.visitor log
  pub quiet : s.hears ≡ false
  pub none : s.awaits ≡ None
  pub number : (s.asa ≡ 0) ⊎ (s.asa ≡ agent_number (agents + s.visitor) log)

pub record Seated (agents count : ℕ) (log : Log) (s : SeatState) : Type 0 where
  pub came : Heard (desk.Came s.visitor s.guest) log
  pub below : s.visitor ≤ count
  pub hears : s.hears ≡ true → Wrote s.visitor log request.Events
  pub stands : Stays agents log s ⊎ Leaves agents log s

-- ---- something more in the log

pub heard_on : (v : Visiting) (h : Happening) (log : Log) → Heard v log → Heard v (h ∷ log)
heard_on v (heard x) log was = inr was
heard_on v (called e) log was = was

wrote_on : (visitor : ℕ) (h : Happening) (log : Log) (q : Request) → Wrote visitor log q → Wrote visitor (h ∷ log) q
wrote_on visitor h log q w = record { line = w.line; came = heard_on (desk.Line visitor w.line) h log w.came; means = w.means }

left_on : (visitor : ℕ) (h : Happening) (log : Log) → HasLeft visitor log → HasLeft visitor (h ∷ log)
left_on visitor (heard v) log was = inr was
left_on visitor (called e) log was = was

awaited_on : (visitor : ℕ) (h : Happening) (log : Log) (asa : ℕ) (o : Option Awaiting) → IsAwaited visitor log asa o → IsAwaited visitor (h ∷ log) asa o
awaited_on visitor h log asa None was = tt
awaited_on visitor h log asa (Some a) was = (was.0, wrote_on visitor h log (request.Await was.0 a.call) was.1, was.2)

-- the visitor doesn't leave by it
abbrev pub IsNoLeaving : ℕ → Happening → Type 0
IsNoLeaving visitor (heard (desk.Left who)) = who ≢ visitor
IsNoLeaving visitor _ = Unit {0}

leaves_not : (visitor : ℕ) (v : Visiting) (log : Log) → IsNoLeaving visitor (heard v) → ¬ LeavesBy visitor v log
leaves_not visitor (desk.Left who) log differ leaves = differ leaves.0
leaves_not visitor _ log differ leaves = leaves

stays_on : (visitor : ℕ) (h : Happening) (log : Log) → IsNoLeaving visitor h → ¬ HasLeft visitor log → ¬ HasLeft visitor (h ∷ log)
stays_on visitor (heard v) log unleft stays (inl leaves) = leaves_not visitor v log unleft leaves
stays_on visitor (heard v) log unleft stays (inr was) = stays was
stays_on visitor (called e) log unleft stays was = stays was

leaves_on : (agents : ℕ) (h : Happening) (log : Log) (s : SeatState) → IsOfOthers (agents + s.visitor) h → Leaves agents log s → Leaves agents (h ∷ log) s
leaves_on agents h log s other g = record {
  gone = g.gone;
  left = left_on s.visitor h log g.left;
  quiet = g.quiet;
  none = g.none;
  number = by_number g.number;
} where
  by_number : (s.asa ≡ 0) ⊎ (s.asa ≡ agent_number (agents + s.visitor) log) → (s.asa ≡ 0) ⊎ (s.asa ≡ agent_number (agents + s.visitor) (h ∷ log))
  by_number (inl e) = inl e
  by_number (inr e) = inr (e ∙ sym (other_number (agents + s.visitor) h log other))

stands_on : (agents : ℕ) (h : Happening) (log : Log) (s : SeatState) → IsOfOthers (agents + s.visitor) h → IsNoLeaving s.visitor h → Stays agents log s → Stays agents (h ∷ log) s
stands_on agents h log s other unleft g = record {
  here = g.here;
  stays = stays_on s.visitor h log unleft g.stays;
  owns = own_other (agents + s.visitor) h log s other g.owns;
  awaits = awaited_on s.visitor h log s.asa s.awaits g.awaits;
}

-- what is of others leaves it as it is, where its visitor doesn't leave by it or has left before
pub seated_by : (agents count : ℕ) (h : Happening) (log : Log) (s : SeatState) → IsOfOthers (agents + s.visitor) h → (s.leaving ≡ false → IsNoLeaving s.visitor h)
    → Seated agents count log s → Seated agents count (h ∷ log) s
seated_by agents count h log s other unleft g = record {
  came = heard_on (desk.Came s.visitor s.guest) h log g.came;
  below = g.below;
  hears = λ e. wrote_on s.visitor h log request.Events (g.hears e);
  stands = by_stands g.stands;
} where
  by_stands : Stays agents log s ⊎ Leaves agents log s → Stays agents (h ∷ log) s ⊎ Leaves agents (h ∷ log) s
  by_stands (inl k) = inl (stands_on agents h log s other (unleft k.here) k)
  by_stands (inr k) = inr (leaves_on agents h log s other k)

pub seated_on : (agents count : ℕ) (h : Happening) (log : Log) (s : SeatState) → IsOfOthers (agents + s.visitor) h → IsNoLeaving s.visitor h
    → Seated agents count log s → Seated agents count (h ∷ log) s
seated_on agents count h log s other unleft g = seated_by agents count h log s other (λ e. unleft) g

-- calls of others leave it
pub seated_over : (es : History) (agents count : ℕ) (log : Log) (s : SeatState) → AllByRecursion (λ (e : Entry). e.caller ≢ agents + s.visitor) es
    → Seated agents count log s → Seated agents count (logged log es) s
seated_over [] agents count log s others g = g
seated_over (e ∷ es) agents count log s others g = seated_over es agents count (called e ∷ log) s others.1 (seated_on agents count (called e) log s others.0 tt g)

pub seated_more : (agents m n : ℕ) (log : Log) (s : SeatState) → m ≤ n → Seated agents m log s → Seated agents n log s
seated_more agents m n log s least g = record { came = g.came; below = above s.visitor g.below; hears = g.hears; stands = g.stands } where
  above : (a : ℕ) → a ≤ m → a ≤ n
  above a within = omega (arith, within, least)

stays_here : (agents count : ℕ) (log : Log) (s : SeatState) → s.leaving ≡ false → Seated agents count log s → Stays agents log s
stays_here agents count log s here g = by_stands g.stands where
  by_stands : Stays agents log s ⊎ Leaves agents log s → Stays agents log s
  by_stands (inl k) = k
  by_stands (inr k) = absurd (false≢true (sym here ∙ k.gone))

-- ---- a call

-- these calls were made of a seat, each its own, and behind them it is this one
pub record Took (agents count : ℕ) (log : Log) (es : History) (t : SeatState) : Type 0 where
  pub own : AreOwnCalls agents log → AreOwnCalls agents (logged log es)
  pub seated : Seated agents count (logged log es) t

own_entry : (agents now : ℕ) (s : SeatState) (c : Call) (r : Reply) (log : Log) → s.asa ≡ agent_number (agents + s.visitor) log → MayCall s.asa (placed_call s.handles c)
    → WroteCall s.visitor log c ⊎ (HasLeft s.visitor log × (c ≡ call.DeregisterAsa)) → (HasLeft s.visitor log → c ≡ call.DeregisterAsa)
    → IsPlaced (agents + s.visitor) log c (session_named c) (placed_call s.handles c) → IsOwnCall agents log (seat_entry (agents + s.visitor) now s c r)
own_entry agents now s c r log is may cause leaves placed = record {
  visitor = s.visitor;
  caller = refl;
  call_made = placed_call s.handles c;
  input_is = ap (λ (n : ℕ). input.Api n (placed_call s.handles c)) is;
  may = subst (λ (n : ℕ). MayCall n (placed_call s.handles c)) is may;
  written = c;
  cause = cause;
  leaves = leaves;
  placed = placed;
}

-- what a gate lets pass
registers_may : (asa : ℕ) (b : Bool) → (asa == 0) ≡ b → cond b Passes Sits ≡ Passes → asa ≡ 0
registers_may asa true e passes = eqb-true asa 0 e
registers_may asa false e passes = absurd (sits passes) where
  sits : Sits ≡ Passes → ⊥
  sits p = cc

other_may : (asa : ℕ) (b : Bool) → (asa == 0) ≡ b → cond b Seatless Passes ≡ Passes → asa ≢ 0
other_may asa true e passes = absurd (seatless passes) where
  seatless : Seatless ≡ Passes → ⊥
  seatless p = cc
other_may asa false e passes = eqb-false asa 0 e

gate_may : (s : SeatState) (c : Call) (ks : List Handle) → gate_of s c ≡ Passes → MayCall s.asa (placed_call ks c)
gate_may s (call.RegisterAsa name) ks passes = registers_may s.asa (s.asa == 0) refl passes
gate_may s c ks passes = other_may s.asa (s.asa == 0) refl passes

waits_may : (asa : ℕ) (c : Call) (ks : List Handle) → may_wait c ≡ true → asa ≢ 0 → MayCall asa (placed_call ks c)
waits_may asa (call.RegisterAsa name) ks waits some = absurd (false≢true waits)
waits_may asa c ks waits some = some

waits_some : (s : SeatState) (c : Call) → may_wait c ≡ true → gate_of s c ≡ Passes → s.asa ≢ 0
waits_some s (call.RegisterAsa name) waits passes = absurd (false≢true waits)
waits_some s c waits passes = other_may s.asa (s.asa == 0) refl passes

-- the agent is the same after a reply that tells nothing yet
same_agent : (s : SeatState) (c : Call) (r : Reply) → goes_on r ≡ true → (seat_after s c r).asa ≡ s.asa
same_agent s c (reply.Api (answer.Asa n)) goes = absurd (false≢true goes)
same_agent s c (reply.Api answer.Done) goes = absurd (false≢true goes)
same_agent s c (reply.Api (answer.Polled p)) goes = ended_number s (polled_number c) p
same_agent s c (reply.Api a) goes = refl
same_agent s c r goes = refl

-- a visitor that is there called this
module _ (agents count now : ℕ) (log : Log) (s : SeatState) (g : Seated agents count log s) (k : Stays agents log s) where
  abbrev caller : ℕ
  caller = agents + s.visitor

  abbrev t : SeatState
  t = without_await s

  -- it waits for nothing
  pub silent : Took agents count log [] (without_await s)
  silent = record {
    own = λ all. all;
    seated =
        record {
          came = g.came;
          below = g.below;
          hears = g.hears;
          stands = inl (record { here = k.here; stays = k.stays; owns = record { number = k.owns.number; sessions = k.owns.sessions }; awaits = tt });
        };
  }

  abbrev behind : Call → Reply → Log
  behind c r = called (seat_entry caller now t c r) ∷ log

  still_owns : (c : Call) (r : Reply) → Owns caller (behind c r) (seat_after t c r)
  still_owns c r = own_call caller now t c r log (record { number = k.owns.number; sessions = k.owns.sessions })

  -- behind a call it stands, and where it waits, too
  after_called : (c : Call) (r : Reply) → Seated agents count (behind c r) (seat_after t c r)
  after_called c r =
      subst (Seated agents count (behind c r)) (sym (after_is t c r))
      (record {
        came = g.came;
        below = g.below;
        hears = λ e. wrote_on s.visitor (called (seat_entry caller now t c r)) log request.Events (g.hears e);
        stands =
            inl
            (record {
              here = k.here;
              stays = k.stays;
              owns = record { number = (still_owns c r).number; sessions = (still_owns c r).sessions };
              awaits = tt;
            });
      })

  after_waiting : (line : List ℕ) (millis : ℕ) (c : Call) (until : ℕ) (r : Reply) → Wrote s.visitor log (request.Await millis c) → s.asa ≢ 0 → goes_on r ≡ true
      → Seated agents count (behind c r) (awaiting (seat_after t c r) line c until r)
  after_waiting line millis c until r wrote some goes =
      subst (λ (x : SeatState). Seated agents count (behind c r) (awaiting x line c until r)) (sym (after_is t c r))
      (record {
        came = g.came;
        below = g.below;
        hears = λ e. wrote_on s.visitor (called (seat_entry caller now t c r)) log request.Events (g.hears e);
        stands =
            inl
            (record {
              here = k.here;
              stays = k.stays;
              owns = record { number = (still_owns c r).number; sessions = (still_owns c r).sessions };
              awaits = (
                millis,
                wrote_on s.visitor (called (seat_entry caller now t c r)) log (request.Await millis c) wrote,
                subst (λ (n : ℕ). n ≢ 0) (sym (same_agent t c r goes)) some,
              );
            });
      })

  own_behind : (c : Call) (r : Reply) → MayCall s.asa (placed_call s.handles c) → WroteCall s.visitor log c → AreOwnCalls agents log → AreOwnCalls agents (behind c r)
  own_behind c r may cause all =
      (own_entry agents now t c r log k.owns.number may (inl cause) (λ left. absurd (k.stays left)) (placed_is caller log s.handles k.owns.sessions c), all)

  -- a line of its visitor
  asked : (line : List ℕ) (q : Request) (r : Reply) → Heard (desk.Line s.visitor line) log → IsRequestLine line q
      → Took agents count log (call_made caller now t (call_of_request t q) r) (seat_to now line t q r)
  asked line (request.Call c) r came meant = by_gate (gate_of t c) refl where
    by_gate : (x : Gate) → gate_of t c ≡ x → Took agents count log (call_made caller now t (call_at x c) r) (seat_at x t (seat_after t c r))
    by_gate Passes e = record {
      own = own_behind c r (gate_may t c s.handles e) (inl (record { line = line; came = came; means = meant }));
      seated = after_called c r;
    }
    by_gate Seatless e = silent
    by_gate Sits e = silent
  asked line (request.Await millis c) r came meant = by_gate (gate_of t c) refl where
    wrote : Wrote s.visitor log (request.Await millis c)
    wrote = record { line = line; came = came; means = meant }

    by_reply : gate_of t c ≡ Passes → (b : Bool) → goes_on r ≡ b
        → Seated agents count (behind c r) (cond b (awaiting (seat_after t c r) line c (min (now + millis) (2 ^ 64 - 1)) r) (seat_after t c r))
    by_reply e true goes = after_waiting line millis c (min (now + millis) (2 ^ 64 - 1)) r wrote (waits_some t c meant.ranges.1 e) goes
    by_reply e false goes = after_called c r

    by_gate : (x : Gate) → gate_of t c ≡ x
        → Took agents count log (call_made caller now t (call_at x c) r) (seat_at x t (seat_awaiting now line millis c r (seat_after t c r)))
    by_gate Passes e = record {
      own = own_behind c r (gate_may t c s.handles e) (inr (millis, wrote));
      seated = by_reply e (goes_on r) refl;
    }
    by_gate Seatless e = silent
    by_gate Sits e = silent
  asked line request.Events r came meant = record {
    own = λ all. all;
    seated =
        record {
          came = g.came;
          below = g.below;
          hears = λ e. record { line = line; came = came; means = meant };
          stands = inl (record { here = k.here; stays = k.stays; owns = record { number = k.owns.number; sessions = k.owns.sessions }; awaits = tt });
        };
  }
  asked line _ r came meant = silent

  pub said_took : (line : List ℕ) (m : Meaning) (r : Reply) → Heard (desk.Line s.visitor line) log → IsMeant line m
      → Took agents count log (call_made caller now t (said_call t m) r) (said_seat now line t m r)
  said_took line (asks q) r came meant = asked line q r came meant
  said_took line (bad at) r came meant = silent

  -- what it waits for is called once more
  resumed_took : (o : Option Awaiting) (r : Reply) → s.awaits ≡ o → Took agents count log (call_made caller now t (awaited_call o) r) (resumed now s o r)
  resumed_took None r e = record { own = λ all. all; seated = g }
  resumed_took (Some a) r e = record {
    own = own_behind a.call r (waits_may s.asa a.call s.handles (was.1.means.ranges.1) was.2) (inr (was.0, was.1));
    seated = by_wait (waits_on now a r) refl;
  } where
    was : IsAwaited s.visitor log s.asa (Some a)
    was = subst (IsAwaited s.visitor log s.asa) e k.awaits

    by_wait : (b : Bool) → waits_on now a r ≡ b
        → Seated agents count (behind a.call r) (cond b (awaiting (seat_after t a.call r) a.line a.call a.until r) (seat_after t a.call r))
    by_wait true f = after_waiting a.line was.0 a.call a.until r was.1 was.2 (both_true (goes_on r) (nat_lt now a.until) f).0
    by_wait false f = after_called a.call r

  pub tended_here : (r : Reply) → Took agents count log (tend_calls agents now s r) (tended now s r)
  tended_here r =
      subst (λ (b : Bool). Took agents count log (call_made caller now (cond b s t) (cond b (Some call.DeregisterAsa) (awaited_call s.awaits)) r)
      (cond b (after_goodbye s r) (resumed now s s.awaits r))) (sym none) (resumed_took s.awaits r refl) where
        none : is_left s ≡ false
        none = ap (λ (b : Bool). b && not (s.asa == 0)) k.here

-- ---- one who left

again_number : (i : Input) (r : Reply) (n : ℕ) → is_again r ≡ true → number_replied i r n ≡ n
again_number i (reply.Api a) n again = absurd (false≢true again)
again_number i _ n again = refl

module _ (agents count now : ℕ) (log : Log) (s : SeatState) (g : Seated agents count log s) (k : Leaves agents log s) where
  abbrev who : ℕ
  who = agents + s.visitor

  abbrev goodbye : Reply → Entry
  goodbye r = seat_entry who now s call.DeregisterAsa r

  some_number : s.asa ≢ 0 → s.asa ≡ agent_number who log
  some_number some = by_number k.number where
    by_number : (s.asa ≡ 0) ⊎ (s.asa ≡ agent_number who log) → s.asa ≡ agent_number who log
    by_number (inl e) = absurd (some e)
    by_number (inr e) = e

  number_again : (r : Reply) → is_again r ≡ true → agent_number who (called (goodbye r) ∷ log) ≡ agent_number who log
  number_again r again =
      ap (λ (b : Bool). cond b (number_replied (input.Api s.asa call.DeregisterAsa) r (agent_number who log)) (agent_number who log)) (eq-eqb who who refl)
      ∙ again_number (input.Api s.asa call.DeregisterAsa) r (agent_number who log) again

  gone_stands : (r : Reply) (x : SeatState) → x.visitor ≡ s.visitor → x.guest ≡ s.guest → Leaves agents (called (goodbye r) ∷ log) x → Seated agents count (called (goodbye r) ∷ log) x
  gone_stands r x visitor guest l = record {
    came = subst (λ (n : ℕ). Heard (desk.Came n x.guest) log) (sym visitor) (subst (λ (b : Bool). Heard (desk.Came s.visitor b) log) (sym guest) g.came);
    below = subst (λ (n : ℕ). n ≤ count) (sym visitor) g.below;
    hears = λ e. absurd (false≢true (sym l.quiet ∙ e));
    stands = inr l;
  }

  leaving_called : (r : Reply) → s.asa ≢ 0 → Took agents count log (goodbye r ∷ []) (after_goodbye s r)
  leaving_called r some = record {
    own = λ all. (own_entry agents now s call.DeregisterAsa r log (some_number some) some (inr (k.left, refl)) (λ l. refl) refl, all);
    seated = by_again (is_again r) refl;
  } where
    by_again : (b : Bool) → is_again r ≡ b → Seated agents count (called (goodbye r) ∷ log) (cond b s (record s { asa = 0; handles = [] }))
    by_again true e =
        gone_stands r s refl refl
        (record { gone = k.gone; left = k.left; quiet = k.quiet; none = k.none; number = inr (some_number some ∙ sym (number_again r e)) })
    by_again false e =
        gone_stands r (record s { asa = 0; handles = [] }) refl refl
        (record { gone = k.gone; left = k.left; quiet = k.quiet; none = k.none; number = inl refl })

  some_left : is_left s ≡ true → s.asa ≢ 0
  some_left e = eqb-false s.asa 0 (not-true (s.asa == 0) (both_true s.leaving (not (s.asa == 0)) e).1)

  pub goodbye_took : (r : Reply) → Took agents count log (call_made who now s (goodbye_call s) r) (goodbye_seat s r)
  goodbye_took r = by_left (is_left s) refl where
    by_left : (b : Bool) → is_left s ≡ b → Took agents count log (call_made who now s (cond b (Some call.DeregisterAsa) None) r) (cond b (after_goodbye s r) s)
    by_left true e = leaving_called r (some_left e)
    by_left false e = record { own = λ all. all; seated = g }

  pub tended_gone : (r : Reply) → Took agents count log (tend_calls agents now s r) (tended now s r)
  tended_gone r = by_left (is_left s) refl where
    by_left : (b : Bool) → is_left s ≡ b
        → Took agents count log (call_made who now (cond b s (without_await s)) (cond b (Some call.DeregisterAsa) (awaited_call s.awaits)) r)
        (cond b (after_goodbye s r) (resumed now s s.awaits r))
    by_left true e = leaving_called r (some_left e)
    by_left false e =
        subst (λ (o : Option Awaiting). Took agents count log (call_made who now (without_await s) (awaited_call o) r) (resumed now s o r)) (sym k.none)
        (record { own = λ all. all; seated = g })

-- a seat that is seen to
pub tended_took : (agents count now : ℕ) (log : Log) (s : SeatState) (r : Reply) → Seated agents count log s → Took agents count log (tend_calls agents now s r) (tended now s r)
tended_took agents count now log s r g = by_stands g.stands where
  by_stands : Stays agents log s ⊎ Leaves agents log s → Took agents count log (tend_calls agents now s r) (tended now s r)
  by_stands (inl k) = tended_here agents count now log s g k r
  by_stands (inr k) = tended_gone agents count now log s g k r

abbrev left_log : Log → SeatState → Log
left_log log s = heard (desk.Left s.visitor) ∷ log

abbrev line_log : Log → SeatState → List ℕ → Log
line_log log s line = heard (desk.Line s.visitor line) ∷ log

-- a visitor leaves its seat
pub left_took : (agents count now : ℕ) (log : Log) (s : SeatState) (r : Reply) → s.leaving ≡ false → Seated agents count log s
    → Took agents count (heard (desk.Left s.visitor) ∷ log) (call_made (agents + s.visitor) now (leaving s) (goodbye_call (leaving s)) r) (seat_left s r)
left_took agents count now log s r here g = goodbye_took agents count now (heard (desk.Left s.visitor) ∷ log) (leaving s) seated leaves r where
  leaves : Leaves agents (left_log log s) (leaving s)
  leaves = record {
    gone = refl;
    left = inl (refl, (s.guest, g.came));
    quiet = refl;
    none = refl;
    number = inr (stays_here agents count log s here g).owns.number;
  }

  seated : Seated agents count (left_log log s) (leaving s)
  seated = record { came = inr g.came; below = g.below; hears = λ e. absurd (false≢true e); stands = inr leaves }

-- a line of a visitor that is there
pub line_took : (agents count now : ℕ) (log : Log) (s : SeatState) (line : List ℕ) (m : Meaning) (r : Reply) → s.leaving ≡ false → Seated agents count log s → IsMeant line m
    → Took agents count (heard (desk.Line s.visitor line) ∷ log)
    (call_made (agents + s.visitor) now (without_await s) (said_call (without_await s) m) r) (said_seat now line (without_await s) m r)
line_took agents count now log s line m r here g meant = said_took agents count now (line_log log s line) s heard_it (stays_here agents count (line_log log s line) s here heard_it) line m r (inl refl) meant where
  heard_it : Seated agents count (line_log log s line) s
  heard_it = seated_on agents count (heard (desk.Line s.visitor line)) log s tt tt g
