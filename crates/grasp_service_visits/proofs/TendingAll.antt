-- Seats that are seen to, one after the other.
use Rattle.std.proofs.Common.{◌≡◌, ◌<◌, ℕ, ◌+◌, List, [], ◌∷◌, ◌++◌, length, get_or, refl, sym, ap, ◌∙◌, subst, append_assoc, Some, None, true, false, cond, Result, Ok, Err}
use Rattle.std.specs.Prelude.{slice_get, slice_set, MatchResult, OnOk, if◌then◌else◌}
use Rattle.std.proofs.lemmas.List.{append-nil}
use Rattle.std.proofs.lemmas.Option.{slice_get-get_or}
use Rattle.grasp_core.specs.declared.node_core.NodeCore.{NodeCore}
use Rattle.grasp_cbor.proofs.Facts.Lists.{length_push}
use Rattle.grasp_cbor.specs.declared.memory.OutOfMemory.{OutOfMemory}
use Rattle.grasp_crew.specs.Seats.{SeatState, is_left, after_goodbye, without_await, awaiting, seat_input}
use Rattle.grasp_crew.specs.declared.seat.Awaiting.{Awaiting}
use Rattle.grasp_desk.specs.declared.desk.Told.{Told}
use Rattle.grasp_shared.proofs.Adding.{adds_on, adds_nothing}
use Rattle.grasp_shared.specs.Adding.{Adds}
use Rattle.grasp_shared.specs.Calls.{GoesOn, answered}
use Rattle.grasp_types.specs.declared.call.Call.TheVariants as call
use Rattle.grasp_types.specs.declared.reply.Reply.{Reply}
use Rattle.grasp_types.specs.declared.reply.Reply.TheVariants as reply
use Rattle.grasp_service_visits.proofs.Each.{after_none, after_next, after_more, adds_more, adds_none}
use Rattle.grasp_service_visits.proofs.Going.{by_adds, some_step}
use Rattle.grasp_service_visits.specs.Each.{each_after, each_adds}
use Rattle.grasp_service_visits.specs.Calling.{is_starved, GoesSome}
use Rattle.grasp_service_visits.specs.Tending.{TendsAll, awaited_call, waits_on, resumed, resumed_told, tended, tended_told, tend_calls, tend_call, tend_seat}
use Rattle.grasp_service_visits.specs.Parts.{GoesBy, Calls, Leaves, Tends, Resumes, ResumesWait, TendsSome}

-- none was seen to
pub tends_none : (a : NodeCore) (seats : List SeatState) (olds : List Told) (now : ℕ) → TendsSome 0 a seats olds now a seats olds
tends_none a seats olds now = record {
  replies = [];
  count_is = refl;
  adds = λ agents. subst (λ h. Adds a h a) (sym (adds_none (λ place. tend_calls agents now) 0 seats)) (adds_nothing a);
  seats_are = sym (after_none (tended now) seats);
  told = sym (ap (λ l. olds ++ l) (adds_none (λ place. tended_told now) 0 seats) ∙ append-nil olds);
}

-- one more was
tends_more : (count : ℕ) (a b c : NodeCore) (seats others news : List SeatState) (k l m : List Told) (now : ℕ) (s t : SeatState)
    → TendsSome count a seats k now b others l → slice_get seats count ≡ Some s → Tends b s l now c t m → news ≡ slice_set others count t
    → TendsSome (count + 1) a seats k now c news m
tends_more count a b c seats others news k l m now s t p g q n =
    let is : slice_get seats (length p.replies) ≡ Some s = subst (λ i. slice_get seats i ≡ Some s) (sym p.count_is) g in
    record {
      replies = p.replies ++ q.reply ∷ [];
      count_is = length_push p.replies q.reply ∙ ap (λ i. i + 1) p.count_is;
      adds = λ agents.
          subst (λ h. Adds a h c) (sym (adds_more (λ place. tend_calls agents now) 0 seats p.replies s q.reply is))
          (adds_on a b c _ _ (p.adds agents) (by_adds b c (tend_seat s) now (tend_call s) q.reply (agents + s.visitor) q.went));
      seats_are =
          n ∙ ap (λ i. slice_set others i t) (sym p.count_is) ∙ ap (λ ss. slice_set ss (length p.replies) t) p.seats_are
          ∙ ap (λ x. slice_set (each_after (tended now) seats p.replies) (length p.replies) x) q.seat
          ∙ sym (after_more (tended now) seats p.replies s q.reply is);
      told =
          q.told ∙ ap (λ x. x ++ tended_told now s q.reply) p.told
          ∙ append_assoc k (each_adds (λ place. tended_told now) 0 seats p.replies) (tended_told now s q.reply)
          ∙ ap (λ x. k ++ x) (sym (adds_more (λ place. tended_told now) 0 seats p.replies s q.reply is));
    }

-- the next one was
pub tends_next : (count : ℕ) (a b c : NodeCore) (seats others : List SeatState) (k l m : List Told) (now : ℕ) (d t : SeatState)
    → TendsSome count a seats k now b others l → count < length others → Tends b (get_or others count d) l now c t m
    → TendsSome (count + 1) a seats k now c (slice_set others count t) m
tends_next count a b c seats others k l m now d t p h q =
    let f : SeatState → Reply → SeatState = tended now in
    let is : slice_get seats count ≡ Some (get_or others count d) =
    sym (ap (λ i. slice_get seats i) p.count_is) ∙ sym (after_next f seats p.replies) ∙ ap (λ i. slice_get (each_after f seats p.replies) i) p.count_is
    ∙ ap (λ x. slice_get x count) (sym p.seats_are) ∙ slice_get-get_or others count d h in
    tends_more count a b c seats others (slice_set others count t) k l m now (get_or others count d) t p is q refl

pub tends_cut : (count : ℕ) (a b c : NodeCore) (seats others : List SeatState) (k l : List Told) (now : ℕ) → TendsSome count a seats k now b others l
    → GoesSome b c → GoesSome a c
tends_cut count a b c seats others k l now p q = record {
  calls = each_adds
      (λ place. tend_calls 0 now) 0 seats p.replies ++ q.calls;
  adds = adds_on a b c _ _ (p.adds 0) q.adds;
}

pub tends_all : (count : ℕ) (a b : NodeCore) (seats others : List SeatState) (k l : List Told) (now : ℕ) → TendsSome count a seats k now b others l
    → count ≡ length seats → TendsAll a seats k now b others l
tends_all count a b seats others k l now p e = record { replies = p.replies; count = p.count_is ∙ e; adds = p.adds; seats_are = p.seats_are; told = p.told }

-- ---- a seat

tends_left : (a b : NodeCore) (s t : SeatState) (olds : List Told) (now : ℕ) → is_left s ≡ true → Leaves a s now b t → Tends a s olds now b t olds
tends_left a b s t olds now e p = record {
  reply = p.reply;
  went =
      subst (λ x. GoesBy a (cond x s (without_await s)) now (cond x (Some call.DeregisterAsa) (awaited_call s.awaits)) p.reply b) (sym e)
      (subst (λ x. GoesBy a s now (cond x (Some call.DeregisterAsa) None) p.reply b) e p.went);
  seat = p.seat ∙ ap (λ x. cond x (after_goodbye s p.reply) s) e ∙ ap (λ x. cond x (after_goodbye s p.reply) (resumed now s s.awaits p.reply)) (sym e);
  told = sym (append-nil olds) ∙ ap (λ x. olds ++ cond x [] (resumed_told now s.visitor s.awaits p.reply)) (sym e);
}

tends_resumed : (a b : NodeCore) (s t : SeatState) (olds news : List Told) (now : ℕ) → is_left s ≡ false → Resumes a s olds now b t news
    → Tends a s olds now b t news
tends_resumed a b s t olds news now e p = record {
  reply = p.reply;
  went = subst (λ x. GoesBy a (cond x s (without_await s)) now (cond x (Some call.DeregisterAsa) (awaited_call s.awaits)) p.reply b) (sym e) p.went;
  seat = p.seat ∙ ap (λ x. cond x (after_goodbye s p.reply) (resumed now s s.awaits p.reply)) (sym e);
  told = p.told ∙ ap (λ x. olds ++ cond x [] (resumed_told now s.visitor s.awaits p.reply)) (sym e);
}

pub left_tended : (x : Result (Unit {0}) OutOfMemory) (a b : NodeCore) (s t : SeatState) (olds : List Told) (now : ℕ) → is_left s ≡ true
    → MatchResult x (λ _. Leaves a s now b t) (λ _. GoesSome a b)
    → MatchResult x (λ _. Tends a s olds now b t olds) (λ _. GoesSome a b)
left_tended (Ok u) a b s t olds now e p = tends_left a b s t olds now e p
left_tended (Err f) a b s t olds now e p = p

pub resumed_tended : (x : Result (Unit {0}) OutOfMemory) (a b : NodeCore) (s t : SeatState) (olds news : List Told) (now : ℕ) → is_left s ≡ false
    → MatchResult x (λ _. Resumes a s olds now b t news) (λ _. GoesSome a b)
    → MatchResult x (λ _. Tends a s olds now b t news) (λ _. GoesSome a b)
resumed_tended (Ok u) a b s t olds news now e p = tends_resumed a b s t olds news now e p
resumed_tended (Err f) a b s t olds news now e p = p

-- ---- goodbyes

pub left_already : (a : NodeCore) (s : SeatState) (now : ℕ) → is_left s ≡ false → Leaves a s now a s
left_already a s now e = record {
  reply = reply.Taken;
  went = subst (λ x. GoesBy a s now (cond x (Some call.DeregisterAsa) None) reply.Taken a) (sym e) refl;
  seat = ap (λ x. cond x (after_goodbye s reply.Taken) s) (sym e);
}

pub left_now : (a b : NodeCore) (s t : SeatState) (now : ℕ) (r : Reply) → is_left s ≡ true → GoesOn a (answered now (seat_input s call.DeregisterAsa) r) b
    → is_starved r ≡ false
    → t ≡ after_goodbye s r → Leaves a s now b t
left_now a b s t now r e g h p = record {
  reply = r;
  went = subst (λ x. GoesBy a s now (cond x (Some call.DeregisterAsa) None) r b) (sym e) (g, h);
  seat = p ∙ ap (λ x. cond x (after_goodbye s r) s) (sym e);
}

-- ---- calls that are awaited

pub resumes_nothing : (a : NodeCore) (s t : SeatState) (olds : List Told) (now : ℕ) → s.awaits ≡ None → t ≡ without_await s → Resumes a s olds now a t olds
resumes_nothing a s t olds now e p = record {
  reply = reply.Taken;
  went = subst (λ x. GoesBy a (without_await s) now (awaited_call x) reply.Taken a) (sym e) refl;
  seat = p ∙ ap (λ x. record s { awaits = x }) (sym e) ∙ subst (λ x. s ≡ resumed now s x reply.Taken) (sym e) refl;
  told = sym (append-nil olds) ∙ ap (λ x. olds ++ resumed_told now s.visitor x reply.Taken) (sym e);
}

-- the call was made again, and the seat waits on or the reply is told
pub waits_through : (x : Result (Unit {0}) OutOfMemory) (a b : NodeCore) (s t u : SeatState) (olds news : List Told) (now visitor : ℕ) (w : Awaiting)
    (r : Reply) → Calls a s now w.call r b t → visitor ≡ s.visitor
    → OnOk x (u ≡ (if waits_on now w r then awaiting t w.line w.call w.until r else t)) → OnOk x (news ≡ olds ++ resumed_told now visitor (Some w) r)
    → MatchResult x (λ _. ResumesWait a s olds now w b u news) (λ _. GoesSome a b)
waits_through (Ok y) a b s t u olds news now visitor w r c v o n = record {
  reply = r;
  went = c.went;
  heard = c.heard;
  seat = o ∙ ap (λ x. cond (waits_on now w r) (awaiting x w.line w.call w.until r) x) c.seat;
  told = n ∙ ap (λ x. olds ++ resumed_told now x (Some w) r) v;
}
waits_through (Err f) a b s t u olds news now visitor w r c v o n = some_step a b _ c.went

-- what the seat waited for
resumes_wait : (a b : NodeCore) (s t u : SeatState) (olds news : List Told) (now : ℕ) (w : Awaiting) → s.awaits ≡ Some w → t ≡ without_await s
    → ResumesWait a t olds now w b u news → Resumes a s olds now b u news
resumes_wait a b s t u olds news now w e p c =
    let d : ResumesWait a (without_await s) olds now w b u news = subst (λ x. ResumesWait a x olds now w b u news) p c in
    record {
      reply = d.reply;
      went = subst (λ x. GoesBy a (without_await s) now (awaited_call x) d.reply b) (sym e) (d.went, d.heard);
      seat = d.seat ∙ ap (λ x. resumed now s x d.reply) (sym e);
      told = d.told ∙ ap (λ x. olds ++ resumed_told now s.visitor x d.reply) (sym e);
    }

pub resumes_through : (x : Result (Unit {0}) OutOfMemory) (a b : NodeCore) (s t u : SeatState) (olds news : List Told) (now : ℕ) (w : Awaiting)
    → s.awaits ≡ Some w → t ≡ without_await s
    → MatchResult x (λ _. ResumesWait a t olds now w b u news) (λ _. GoesSome a b) → MatchResult x (λ _. Resumes a s olds now b u news) (λ _. GoesSome a b)
resumes_through (Ok y) a b s t u olds news now w e p c = resumes_wait a b s t u olds news now w e p c
resumes_through (Err f) a b s t u olds news now w e p c = c
