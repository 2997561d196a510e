-- What requests come to.
use Rattle.std.proofs.Common.{◌≡◌, ℕ, ◌+◌, ◌-◌, ◌^◌, List, refl, sym, ap, ◌∙◌, subst, None, Bool, true, cond, Result, Ok, Err}
use Rattle.std.specs.Prelude.{min, IfOk, MatchResult}
use Rattle.grasp_cbor.specs.declared.memory.OutOfMemory.{OutOfMemory}
use Rattle.grasp_config.specs.declared.level.LogLevel.{LogLevel}
use Rattle.grasp_control.specs.Answers.{goes_on}
use Rattle.grasp_control.specs.declared.answers.PlainAnswer.TheVariants as plain
use Rattle.grasp_control.specs.declared.request.Request.{Request}
use Rattle.grasp_control.specs.declared.request.Request.TheVariants as request
use Rattle.grasp_core.specs.declared.node_core.NodeCore.{NodeCore}
use Rattle.grasp_crew.specs.Seats.{SeatState, gate_of, seat_after, awaiting}
use Rattle.grasp_crew.specs.declared.seat.Gate.TheVariants.{Passes, Seatless, Seated}
use Rattle.grasp_types.specs.declared.address.Locator.{Locator}
use Rattle.grasp_types.specs.declared.call.Call.{Call}
use Rattle.grasp_types.specs.declared.refusal.ApiRefused.TheVariants as refusal
use Rattle.grasp_types.specs.declared.reply.Reply.{Reply}
use Rattle.grasp_types.specs.declared.reply.Reply.TheVariants as reply
use Rattle.grasp_service_visits.proofs.Going.{some_none, some_step}
use Rattle.grasp_service_visits.specs.Answers.{at_gate}
use Rattle.grasp_service_visits.specs.Calling.{GoesSome, call_at, seat_at, seat_awaiting}
use Rattle.grasp_service_visits.specs.Serving.{house_of, order_answer, house_ordered, call_of_request, answer_to, seat_to, house_to}
use Rattle.grasp_service_visits.specs.Parts.{Calls, WaitsOrTells, Awaits, GoesBy, GoesByGate, AwaitsByGate, Ordered, Serves}
use Rattle.grasp_service_visits.specs.declared.answer.Answer.{Answer}
use Rattle.grasp_service_visits.specs.declared.answer.Answer.TheVariants.{Replied, Plain, State, Wants, Reads, Counters, Version, Later}
use Rattle.grasp_service_visits.specs.declared.house.House.{House}

-- ---- calls

pub by_passes : (a b : NodeCore) (s t : SeatState) (now : ℕ) (c : Call) (r : Reply) → Passes ≡ gate_of s c → Calls a s now c r b t
    → GoesByGate a s now c (Replied r) b t
by_passes a b s t now c r g p = record {
  reply = r;
  went = subst (λ x. GoesBy a s now (call_at x c) r b) g (p.went, p.heard);
  answer = subst (λ x. Replied r ≡ at_gate x (Replied r)) g refl;
  seat = subst (λ x. t ≡ seat_at x s (seat_after s c r)) g p.seat;
}

pub by_seatless : (a : NodeCore) (s : SeatState) (now : ℕ) (c : Call) → Seatless ≡ gate_of s c
    → GoesByGate a s now c (Replied (reply.Refused refusal.NoAsa)) a s
by_seatless a s now c g = record {
  reply = reply.Taken;
  went = subst (λ x. GoesBy a s now (call_at x c) reply.Taken a) g refl;
  answer = subst (λ x. Replied (reply.Refused refusal.NoAsa) ≡ at_gate x (Replied reply.Taken)) g refl;
  seat = subst (λ x. s ≡ seat_at x s (seat_after s c reply.Taken)) g refl;
}

pub by_seated : (a : NodeCore) (s : SeatState) (now : ℕ) (c : Call) → Seated ≡ gate_of s c → GoesByGate a s now c (Plain plain.Seated) a s
by_seated a s now c g = record {
  reply = reply.Taken;
  went = subst (λ x. GoesBy a s now (call_at x c) reply.Taken a) g refl;
  answer = subst (λ x. Plain plain.Seated ≡ at_gate x (Replied reply.Taken)) g refl;
  seat = subst (λ x. s ≡ seat_at x s (seat_after s c reply.Taken)) g refl;
}

-- ---- calls that are awaited

-- a call that is awaited was made, and the seat waits or the reply is told
pub awaits_made : (x : Result Answer OutOfMemory) (a b : NodeCore) (s t u : SeatState) (now : ℕ) (line : List ℕ) (millis until : ℕ) (c : Call) (r : Reply)
    → Calls a s now c r b t
    → until ≡ min (now + millis) (2 ^ 64 - 1) → IfOk x (λ y. WaitsOrTells t line c until r y u)
    → MatchResult x (λ y. Awaits a s now line millis c y b u) (λ _. GoesSome a b)
awaits_made (Ok y) a b s t u now line millis until c r p e w = record {
  reply = r;
  went = p.went;
  heard = p.heard;
  answer = w.answer;
  seat =
      w.seat ∙ ap (λ x. cond (goes_on r) (awaiting t line c x r) t) e
      ∙ ap (λ x. cond (goes_on r) (awaiting x line c (min (now + millis) (2 ^ 64 - 1)) r) x) p.seat;
}
awaits_made (Err f) a b s t u now line millis until c r p e w = some_step a b _ p.went

pub await_passes : (a b : NodeCore) (s t : SeatState) (now : ℕ) (line : List ℕ) (millis : ℕ) (c : Call) (x : Answer) → Passes ≡ gate_of s c
    → Awaits a s now line millis c x b t
    → AwaitsByGate a s now line millis c x b t
await_passes a b s t now line millis c x g p = record {
  reply = p.reply;
  went = subst (λ y. GoesBy a s now (call_at y c) p.reply b) g (p.went, p.heard);
  answer = p.answer ∙ subst (λ y. cond (goes_on p.reply) Later (Replied p.reply) ≡ at_gate y (cond (goes_on p.reply) Later (Replied p.reply))) g refl;
  seat = p.seat ∙ subst (λ y. seat_awaiting now line millis c p.reply (seat_after s c p.reply) ≡ seat_at y s (seat_awaiting now line millis c p.reply
      (seat_after s c p.reply))) g refl;
}

pub await_seatless : (a : NodeCore) (s : SeatState) (now : ℕ) (line : List ℕ) (millis : ℕ) (c : Call) → Seatless ≡ gate_of s c
    → AwaitsByGate a s now line millis c (Replied (reply.Refused refusal.NoAsa)) a s
await_seatless a s now line millis c g = record {
  reply = reply.Taken;
  went = subst (λ x. GoesBy a s now (call_at x c) reply.Taken a) g refl;
  answer = subst (λ x. Replied (reply.Refused refusal.NoAsa) ≡ at_gate x (Replied reply.Taken)) g refl;
  seat = subst (λ x. s ≡ seat_at x s (seat_after s c reply.Taken)) g refl;
}

pub await_seated : (a : NodeCore) (s : SeatState) (now : ℕ) (line : List ℕ) (millis : ℕ) (c : Call) → Seated ≡ gate_of s c
    → AwaitsByGate a s now line millis c (Plain plain.Seated) a s
await_seated a s now line millis c g = record {
  reply = reply.Taken;
  went = subst (λ x. GoesBy a s now (call_at x c) reply.Taken a) g refl;
  answer = subst (λ x. Plain plain.Seated ≡ at_gate x (Replied reply.Taken)) g refl;
  seat = subst (λ x. s ≡ seat_at x s (seat_after s c reply.Taken)) g refl;
}

-- ---- requests

pub call_served : (a b : NodeCore) (h : House) (s t : SeatState) (now : ℕ) (line : List ℕ) (c : Call) (x : Answer) → GoesByGate a s now c x b t
    → Serves a h s now line (request.Call c) x b h t
call_served a b h s t now line c x p = record { reply = p.reply; went = p.went; answer = p.answer; seat = p.seat; house_is = refl }

pub await_served : (a b : NodeCore) (h : House) (s t : SeatState) (now : ℕ) (line : List ℕ) (millis : ℕ) (c : Call) (x : Answer)
    → AwaitsByGate a s now line millis c x b t
    → Serves a h s now line (request.Await millis c) x b h t
await_served a b h s t now line millis c x p = record { reply = p.reply; went = p.went; answer = p.answer; seat = p.seat; house_is = refl }

-- no call was to be made
pub plain_served : (a : NodeCore) (h k : House) (s t : SeatState) (now : ℕ) (line : List ℕ) (q : Request) (x : Answer) → call_of_request s q ≡ None
    → x ≡ answer_to h.crew.items s q reply.Taken → t ≡ seat_to now line s q reply.Taken → house_of k ≡ house_to s (house_of h) q
    → Serves a h s now line q x a k t
plain_served a h k s t now line q x n e o g = record {
  reply = reply.Taken;
  went = subst (λ y. GoesBy a s now y reply.Taken a)
      (sym n) refl;
  answer = e;
  seat = o;
  house_is = g;
}

-- ---- requests, one by one

pub call_answered : (x : Result Answer OutOfMemory) (a b : NodeCore) (h : House) (s t : SeatState) (now : ℕ) (line : List ℕ) (q : Request) (c : Call)
    → q ≡ request.Call c
    → MatchResult x (λ y. GoesByGate a s now c y b t) (λ _. GoesSome a b) → MatchResult x (λ y. Serves a h s now line q y b h t) (λ _. GoesSome a b)
call_answered (Ok y) a b h s t now line q c e p = subst (λ k. Serves a h s now line k y b h t) (sym e) (call_served a b h s t now line c y p)
call_answered (Err f) a b h s t now line q c e p = p

pub await_answered : (x : Result Answer OutOfMemory) (a b : NodeCore) (h : House) (s t : SeatState) (now : ℕ) (line : List ℕ) (q : Request) (millis : ℕ)
    (c : Call) → q ≡ request.Await millis c
    → MatchResult x (λ y. AwaitsByGate a s now line millis c y b t) (λ _. GoesSome a b)
    → MatchResult x (λ y. Serves a h s now line q y b h t) (λ _. GoesSome a b)
await_answered (Ok y) a b h s t now line q millis c e p = subst (λ z. Serves a h s now line z y b h t) (sym e) (await_served a b h s t now line millis c y p)
await_answered (Err f) a b h s t now line q millis c e p = p

pub state_served : (a : NodeCore) (h : House) (s : SeatState) (now : ℕ) (line : List ℕ) (q : Request) → q ≡ request.State → Serves a h s now line q State a h s
state_served a h s now line q e = subst (λ k. Serves a h s now line k State a h s) (sym e)
    (plain_served a h h s s now line request.State State refl refl refl refl)

pub wants_served : (a : NodeCore) (h : House) (s : SeatState) (now : ℕ) (line : List ℕ) (q : Request) → q ≡ request.Wants → Serves a h s now line q Wants a h s
wants_served a h s now line q e = subst (λ k. Serves a h s now line k Wants a h s) (sym e)
    (plain_served a h h s s now line request.Wants Wants refl refl refl refl)

pub reads_served : (a : NodeCore) (h : House) (s : SeatState) (now : ℕ) (line : List ℕ) (q : Request) → q ≡ request.Reads → Serves a h s now line q Reads a h s
reads_served a h s now line q e = subst (λ k. Serves a h s now line k Reads a h s) (sym e)
    (plain_served a h h s s now line request.Reads Reads refl refl refl refl)

pub events_served : (a : NodeCore) (h : House) (s t : SeatState) (now : ℕ) (line : List ℕ) (q : Request) → q ≡ request.Events → t ≡ record s { hears = true }
    → Serves a h s now line q (Plain plain.Done) a h t
events_served a h s t now line q e p = subst (λ k. Serves a h s now line k (Plain plain.Done) a h t) (sym e) (plain_served a h h s t now line request.Events
    (Plain plain.Done) refl refl p refl)

pub counters_served : (a : NodeCore) (h : House) (s : SeatState) (now : ℕ) (line : List ℕ) (q : Request) → q ≡ request.Counters
    → Serves a h s now line q Counters a h s
counters_served a h s now line q e = subst (λ k. Serves a h s now line k Counters a h s) (sym e)
    (plain_served a h h s s now line request.Counters Counters refl refl refl refl)

pub version_served : (a : NodeCore) (h : House) (s : SeatState) (now : ℕ) (line : List ℕ) (q : Request) → q ≡ request.Version
    → Serves a h s now line q Version a h s
version_served a h s now line q e = subst (λ k. Serves a h s now line k Version a h s) (sym e)
    (plain_served a h h s s now line request.Version Version refl refl refl refl)

-- ---- orders

pub want_answered : (x : Result Answer OutOfMemory) (a : NodeCore) (h k : House) (s : SeatState) (now : ℕ) (line : List ℕ) (q : Request) (least most : ℕ)
    (peer : Locator) (guest : Bool)
    → q ≡ request.Want least most peer → guest ≡ s.guest → IfOk x (λ y. Ordered guest h (request.Want least most peer) y k)
    → MatchResult x (λ y. Serves a h s now line q y a k s) (λ _. GoesSome a a)
want_answered (Ok y) a h k s now line q least most peer guest e g p =
    subst (λ z. Serves a h s now line z y a k s) (sym e) (plain_served a h k s s now line (request.Want least most peer) y refl
    (p.answer ∙ ap (λ b. cond b (Plain plain.Denied) (order_answer h.crew.items (request.Want least most peer))) g) refl
    (p.house ∙ ap (λ b. cond b (house_of h) (house_ordered (house_of h) (request.Want least most peer))) g))
want_answered (Err f) a h k s now line q least most peer guest e g p = some_none a

pub unwant_served : (a : NodeCore) (h k : House) (s : SeatState) (now : ℕ) (line : List ℕ) (q : Request) (number : ℕ) (guest : Bool) (y : Answer)
    → q ≡ request.Unwant number → guest ≡ s.guest
    → Ordered guest h (request.Unwant number) y k → Serves a h s now line q y a k s
unwant_served a h k s now line q number guest y e g p =
    subst (λ z. Serves a h s now line z y a k s) (sym e) (plain_served a h k s s now line (request.Unwant number) y refl
    (p.answer ∙ ap (λ b. cond b (Plain plain.Denied) (order_answer h.crew.items (request.Unwant number))) g) refl
    (p.house ∙ ap (λ b. cond b (house_of h) (house_ordered (house_of h) (request.Unwant number))) g))

pub level_served : (a : NodeCore) (h k : House) (s : SeatState) (now : ℕ) (line : List ℕ) (q : Request) (level : LogLevel) (guest : Bool) (y : Answer)
    → q ≡ request.Log level → guest ≡ s.guest
    → Ordered guest h (request.Log level) y k → Serves a h s now line q y a k s
level_served a h k s now line q level guest y e g p =
    subst (λ z. Serves a h s now line z y a k s) (sym e) (plain_served a h k s s now line (request.Log level) y refl
    (p.answer ∙ ap (λ b. cond b (Plain plain.Denied) (order_answer h.crew.items (request.Log level))) g) refl
    (p.house ∙ ap (λ b. cond b (house_of h) (house_ordered (house_of h) (request.Log level))) g))

pub stop_served : (a : NodeCore) (h k : House) (s : SeatState) (now : ℕ) (line : List ℕ) (q : Request) (guest : Bool) (y : Answer) → q ≡ request.Stop
    → guest ≡ s.guest
    → Ordered guest h request.Stop y k → Serves a h s now line q y a k s
stop_served a h k s now line q guest y e g p =
    subst (λ z. Serves a h s now line z y a k s) (sym e) (plain_served a h k s s now line request.Stop y refl
    (p.answer ∙ ap (λ b. cond b (Plain plain.Denied) (order_answer h.crew.items request.Stop)) g) refl
    (p.house ∙ ap (λ b. cond b (house_of h) (house_ordered (house_of h) request.Stop)) g))

pub ruleset requests_served = (
  some_none,
  call_answered,
  await_answered,
  state_served,
  wants_served,
  reads_served,
  events_served,
  counters_served,
  version_served,
  want_answered,
  unwant_served,
  level_served,
  stop_served,
)

pub ruleset by_gate = (by_passes, by_seatless, by_seated)

pub ruleset awaits_by_gate = (await_passes, await_seatless, await_seated)
