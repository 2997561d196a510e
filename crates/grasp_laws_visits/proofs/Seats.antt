-- What a request, a reply or a leaving makes of a seat: whose it is stays.
use Rattle.std.proofs.Common.{◌≡◌, refl, ap, ℕ, ◌+◌, ◌-◌, ◌^◌, min, Bool, true, false, cond, List, [], Option, Some, None}
use Rattle.grasp_agent.specs.Replies.{is_again}
use Rattle.grasp_control.specs.Answers.{goes_on}
use Rattle.grasp_control.specs.declared.request.Request.{Request}
use Rattle.grasp_control.specs.declared.request.Request.TheVariants as request
use Rattle.grasp_crew.specs.Seats.{SeatState, after_goodbye, awaiting, gate_of, is_deregistering, is_left, leaving, polled_number, seat_after, seat_ended, without_await}
use Rattle.grasp_crew.specs.declared.seat.Awaiting.{Awaiting}
use Rattle.grasp_crew.specs.declared.seat.Gate.{Gate}
use Rattle.grasp_crew.specs.declared.seat.Gate.TheVariants.{Passes, Seated, Seatless}
use Rattle.grasp_service_visits.specs.Calling.{seat_at, seat_awaiting}
use Rattle.grasp_service_visits.specs.Serving.{seat_to}
use Rattle.grasp_service_visits.specs.Tending.{resumed, tended, waits_on}
use Rattle.grasp_service_visits.specs.Visits.{Meaning, asks, bad, said_seat, seat_left}
use Rattle.grasp_types.specs.declared.call.Call.{Call}
use Rattle.grasp_types.specs.declared.reply.ApiAnswer.TheVariants as answer
use Rattle.grasp_types.specs.declared.reply.Reply.{Reply}
use Rattle.grasp_types.specs.declared.reply.Reply.TheVariants as reply
use Rattle.grasp_types.specs.declared.session.Handle.{Handle}
use Rattle.grasp_types.specs.declared.session.Progress.{Progress}
use Rattle.grasp_types.specs.declared.session.Progress.TheVariants as progress

-- ---- after a reply

-- the seat with another agent
abbrev pub with_agent : SeatState → ℕ → List Handle → SeatState
with_agent s asa ks = record s { asa = asa; handles = ks }

-- only its agent and its sessions may be others
abbrev IsOnlyAgent : SeatState → SeatState → Type 0
IsOnlyAgent s t = t ≡ with_agent s t.asa t.handles

gone_is : (s : SeatState) (b : Bool) → IsOnlyAgent s (cond b (record s { asa = 0; handles = [] }) s)
gone_is s true = refl
gone_is s false = refl

ended_is : (s : SeatState) (polled : Option ℕ) (p : Progress) → IsOnlyAgent s (seat_ended s polled p)
ended_is s polled (progress.Ended o) = refl
ended_is s polled _ = refl

pub after_is : (s : SeatState) (c : Call) (r : Reply) → seat_after s c r ≡ with_agent s (seat_after s c r).asa (seat_after s c r).handles
after_is s c (reply.Api (answer.Polled p)) = ended_is s (polled_number c) p
after_is s c (reply.Api answer.Done) = gone_is s (is_deregistering c)
after_is s c (reply.Api a) = refl
after_is s c r = refl

-- ---- whose it is

-- it is the same visitor's, who came in by the same door
pub record IsSame (s t : SeatState) : Type 0 where
  pub visitor : t.visitor ≡ s.visitor
  pub guest : t.guest ≡ s.guest

same_self : (s : SeatState) → IsSame s s
same_self s = record { visitor = refl; guest = refl }

same_if : (s t u : SeatState) (b : Bool) → IsSame s t → IsSame s u → IsSame s (cond b t u)
same_if s t u true h k = h
same_if s t u false h k = k

same_gate : (g : Gate) (s t : SeatState) → IsSame s t → IsSame s (seat_at g s t)
same_gate Passes s t h = h
same_gate Seatless s t h = same_self s
same_gate Seated s t h = same_self s

after_same : (s : SeatState) (c : Call) (r : Reply) → IsSame s (seat_after s c r)
after_same s c r = record { visitor = ap (λ (x : SeatState). x.visitor) (after_is s c r); guest = ap (λ (x : SeatState). x.guest) (after_is s c r) }

waits_same : (s t : SeatState) (line : List ℕ) (c : Call) (until : ℕ) (r : Reply) → IsSame s t → IsSame s (awaiting t line c until r)
waits_same s t line c until r h = record { visitor = h.visitor; guest = h.guest }

to_same : (now : ℕ) (line : List ℕ) (s : SeatState) (q : Request) (r : Reply) → IsSame s (seat_to now line s q r)
to_same now line s (request.Call c) r = same_gate (gate_of s c) s (seat_after s c r) (after_same s c r)
to_same now line s (request.Await millis c) r =
    same_gate (gate_of s c) s (seat_awaiting now line millis c r (seat_after s c r))
    (same_if s (awaiting (seat_after s c r) line c (min (now + millis) (2 ^ 64 - 1)) r) (seat_after s c r) (goes_on r)
    (waits_same s (seat_after s c r) line c (min (now + millis) (2 ^ 64 - 1)) r (after_same s c r)) (after_same s c r))
to_same now line s request.Events r = record { visitor = refl; guest = refl }
to_same now line s _ r = same_self s

pub said_same : (now : ℕ) (line : List ℕ) (s : SeatState) (m : Meaning) (r : Reply) → IsSame s (said_seat now line (without_await s) m r)
said_same now line s (asks q) r = from (to_same now line (without_await s) q r) where
  from : IsSame (without_await s) (seat_to now line (without_await s) q r) → IsSame s (seat_to now line (without_await s) q r)
  from h = record { visitor = h.visitor; guest = h.guest }
said_same now line s (bad at) r = record { visitor = refl; guest = refl }

goodbye_same : (s : SeatState) (r : Reply) → IsSame s (after_goodbye s r)
goodbye_same s r = same_if s s (record s { asa = 0; handles = [] }) (is_again r) (same_self s) (record { visitor = refl; guest = refl })

pub left_same : (s : SeatState) (r : Reply) → IsSame s (seat_left s r)
left_same s r = same_if s (after_goodbye (leaving s) r) (leaving s) (is_left (leaving s)) (from (goodbye_same (leaving s) r)) (record { visitor = refl; guest = refl }) where
  from : IsSame (leaving s) (after_goodbye (leaving s) r) → IsSame s (after_goodbye (leaving s) r)
  from h = record { visitor = h.visitor; guest = h.guest }

resumed_same : (now : ℕ) (s : SeatState) (o : Option Awaiting) (r : Reply) → IsSame s (resumed now s o r)
resumed_same now s None r = same_self s
resumed_same now s (Some a) r =
    let h : IsSame s (seat_after (without_await s) a.call r) = from (after_same (without_await s) a.call r) in
    same_if s (awaiting (seat_after (without_await s) a.call r) a.line a.call a.until r) (seat_after (without_await s) a.call r) (waits_on now a r)
    (waits_same s (seat_after (without_await s) a.call r) a.line a.call a.until r h) h where
      from : IsSame (without_await s) (seat_after (without_await s) a.call r) → IsSame s (seat_after (without_await s) a.call r)
      from h = record { visitor = h.visitor; guest = h.guest }

pub tended_same : (now : ℕ) (s : SeatState) (r : Reply) → IsSame s (tended now s r)
tended_same now s r = same_if s (after_goodbye s r) (resumed now s s.awaits r) (is_left s) (goodbye_same s r) (resumed_same now s s.awaits r)
