-- Visitors call as their own.
use Rattle.std.proofs.Common.{◌≡◌, refl, sym, ap, ◌∙◌, ◌⊎◌, inl, inr, ℕ, ◌+◌, ◌++◌, append_assoc, List, [], ◌∷◌}
use Rattle.std.proofs.lemmas.Bool.{false≢true}
use Rattle.std.proofs.lemmas.List.{append-nil}
use Rattle.grasp_crew.specs.Seats.{SeatState}
use Rattle.grasp_desk.specs.declared.desk.Visiting.{Visiting}
use Rattle.grasp_laws_visits.proofs.Lists.{all_map}
use Rattle.grasp_laws_visits.proofs.Seated.{Leaves, Seated, Stays}
use Rattle.grasp_laws_visits.proofs.Sittings.{Stands, none_stands, sittings_stand}
use Rattle.grasp_laws_visits.specs.Calls.{IsSeatBy, VisitorsCallAsTheirOwn, log_of}
use Rattle.grasp_laws_visits.specs.Logs.{Log, Sitting, all_sitting_calls, all_visitings, called, calls_in, heard, log_sitting, log_sittings, log_tends, log_visits, logged, seats_at_last, seats_heard, seats_left, sitting_calls, visitings_in}
use Rattle.grasp_service_visits.specs.Each.{each_adds}
use Rattle.grasp_service_visits.specs.Tending.{tend_calls}
use Rattle.grasp_service_visits.specs.Visits.{Visited, all_visit_calls, seats_visited, visit_calls, visitings}
use Rattle.grasp_shared.specs.History.{History}
use Rattle.grasp_types.specs.declared.reply.Reply.{Reply}

-- ---- a seat

seat_by_log : (agents count : ℕ) (log : Log) (s : SeatState) → Seated agents count log s → IsSeatBy log s
seat_by_log agents count log s g = by_stands g.stands where
  by_stands : Stays agents log s ⊎ Leaves agents log s → IsSeatBy log s
  by_stands (inl k) = record {
    came = g.came;
    left = (λ e. absurd (false≢true (sym k.here ∙ e)), λ left. absurd (k.stays left));
    quiet = λ e. absurd (false≢true (sym k.here ∙ e));
    hears = g.hears;
  }
  by_stands (inr k) = record { came = g.came; left = (λ e. k.left, λ left. k.gone); quiet = λ e. (k.none, k.quiet); hears = g.hears }

-- ---- the calls in the log

calls_logged : (es : History) (log : Log) → calls_in (logged log es) ≡ calls_in log ++ es
calls_logged [] log = sym (append-nil (calls_in log))
calls_logged (e ∷ es) log = calls_logged es (called e ∷ log) ∙ append_assoc (calls_in log) (e ∷ []) es

calls_visits : (vs : List Visited) (agents now : ℕ) (seats : List SeatState) (log : Log) → calls_in (log_visits agents now seats vs log) ≡ calls_in log ++ all_visit_calls agents now seats vs
calls_visits [] agents now seats log = sym (append-nil (calls_in log))
calls_visits (v ∷ vs) agents now seats log =
    let first : History = visit_calls agents now seats v.visiting v.said in
    let others : List SeatState = seats_visited now seats v.visiting v.said in
    calls_visits vs agents now others (logged (heard v.visiting ∷ log) first)
    ∙ (ap (λ (h : History). h ++ all_visit_calls agents now others vs) (calls_logged first (heard v.visiting ∷ log))
    ∙ append_assoc (calls_in log) first (all_visit_calls agents now others vs))

calls_tends : (seats : List SeatState) (rs : List Reply) (agents now n : ℕ) (log : Log)
    → calls_in (log_tends agents now seats rs log) ≡ calls_in log ++ each_adds (λ place. tend_calls agents now) n seats rs
calls_tends [] rs agents now n log = sym (append-nil (calls_in log))
calls_tends (s ∷ seats) [] agents now n log = sym (append-nil (calls_in log))
calls_tends (s ∷ seats) (r ∷ rs) agents now n log =
    let first : History = tend_calls agents now s r in
    let rest : History = each_adds (λ place. tend_calls agents now) (n + 1) seats rs in
    calls_tends seats rs agents now (n + 1) (logged log first)
    ∙ (ap (λ (h : History). h ++ rest) (calls_logged first log) ∙ append_assoc (calls_in log) first rest)

calls_sitting : (x : Sitting) (agents : ℕ) (seats : List SeatState) (log : Log) → calls_in (log_sitting agents seats x log) ≡ calls_in log ++ sitting_calls agents seats x
calls_sitting x agents seats log =
    let rest : History = each_adds (λ place. tend_calls agents x.now) 0 (seats_heard seats x) x.replies in
    calls_tends (seats_heard seats x) x.replies agents x.now 0 (log_visits agents x.now seats x.visits log)
    ∙ (ap (λ (h : History). h ++ rest) (calls_visits x.visits agents x.now seats log) ∙ append_assoc (calls_in log) (all_visit_calls agents x.now seats x.visits) rest)

calls_sittings : (xs : List Sitting) (agents : ℕ) (seats : List SeatState) (log : Log) → calls_in (log_sittings agents seats xs log) ≡ calls_in log ++ all_sitting_calls agents seats xs
calls_sittings [] agents seats log = sym (append-nil (calls_in log))
calls_sittings (x ∷ xs) agents seats log =
    let first : History = sitting_calls agents seats x in
    let rest : History = all_sitting_calls agents (seats_left seats x) xs in
    calls_sittings xs agents (seats_left seats x) (log_sitting agents seats x log)
    ∙ (ap (λ (h : History). h ++ rest) (calls_sitting x agents seats log) ∙ append_assoc (calls_in log) first rest)

-- ---- what came, in the log

came_logged : (es : History) (log : Log) → visitings_in (logged log es) ≡ visitings_in log
came_logged [] log = refl
came_logged (e ∷ es) log = came_logged es (called e ∷ log)

came_visits : (vs : List Visited) (agents now : ℕ) (seats : List SeatState) (log : Log) → visitings_in (log_visits agents now seats vs log) ≡ visitings_in log ++ visitings vs
came_visits [] agents now seats log = sym (append-nil (visitings_in log))
came_visits (v ∷ vs) agents now seats log =
    let first : History = visit_calls agents now seats v.visiting v.said in
    came_visits vs agents now (seats_visited now seats v.visiting v.said) (logged (heard v.visiting ∷ log) first)
    ∙ (ap (λ (l : List Visiting). l ++ visitings vs) (came_logged first (heard v.visiting ∷ log)) ∙ append_assoc (visitings_in log) (v.visiting ∷ []) (visitings vs))

came_tends : (seats : List SeatState) (rs : List Reply) (agents now : ℕ) (log : Log) → visitings_in (log_tends agents now seats rs log) ≡ visitings_in log
came_tends [] rs agents now log = refl
came_tends (s ∷ seats) [] agents now log = refl
came_tends (s ∷ seats) (r ∷ rs) agents now log =
    came_tends seats rs agents now (logged log (tend_calls agents now s r)) ∙ came_logged (tend_calls agents now s r) log

came_sittings : (xs : List Sitting) (agents : ℕ) (seats : List SeatState) (log : Log) → visitings_in (log_sittings agents seats xs log) ≡ visitings_in log ++ all_visitings xs
came_sittings [] agents seats log = sym (append-nil (visitings_in log))
came_sittings (x ∷ xs) agents seats log =
    came_sittings xs agents (seats_left seats x) (log_sitting agents seats x log)
    ∙ (ap (λ (l : List Visiting). l ++ all_visitings xs)
    (came_tends (seats_heard seats x) x.replies agents x.now (log_visits agents x.now seats x.visits log) ∙ came_visits x.visits agents x.now seats log)
    ∙ append_assoc (visitings_in log) (visitings x.visits) (all_visitings xs))

-- ---- the law

pub visitors_call_as_their_own : VisitorsCallAsTheirOwn
visitors_call_as_their_own = record {
  calls = λ agents xs came mean next. (sittings_stand xs agents 0 came [] [] next mean (none_stands agents)).own;
  seats = λ agents xs came mean next.
      let h : Stands agents came (log_of agents xs) (seats_at_last [] xs) = sittings_stand xs agents 0 came [] [] next mean (none_stands agents) in (
        all_map (Seated agents came (log_of agents xs)) (IsSeatBy (log_of agents xs)) (seats_at_last [] xs) (λ s g. seat_by_log agents came (log_of agents xs) s g) h.seated,
        h.apart,
      );
  whole = λ agents xs. (calls_sittings xs agents [] [], came_sittings xs agents [] []);
}
