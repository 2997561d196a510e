-- What a run comes to.
use Rattle.std.proofs.Common.{◌≡◌, ◌⊎◌, inl, inr, refl, sym, ap, ◌∙◌, subst, arith, ℕ, suc, ◌+◌, ◌<◌, ◌≤◌, ◌≢◌, ◌==◌, true, false, List, [], ◌∷◌, length, slice_get, get_or, Some, None, Result, Ok, Err}
use Rattle.std.specs.Prelude.{IfOk}
use Rattle.std.proofs.lemmas.Bool.Decides.{eqb_tells}
use Rattle.grasp_cbor.specs.declared.memory.OutOfMemory.{OutOfMemory}
use Rattle.std.proofs.lemmas.Option.{slice_get_within, slice_get_cases}
use Rattle.grasp_model_node.specs.Node.{NodeState, first_node}
use Rattle.grasp_node_main.specs.Crew.{crew_of, crew_after, AgentsMade, AllMade}
use Rattle.grasp_shared.specs.History.{History, IsLegalHistory, own_calls}
use Rattle.grasp_node_main.specs.Openings.{openings}
use Rattle.grasp_node_main.specs.Runs.{Ran, RunsNode, workers_of, AllGoing}
use Rattle.grasp_node_main.specs.Seats.{SeatStands, SeatsStand}
use Rattle.grasp_node_main.specs.Steps.{RanSeats}
use Rattle.grasp_node_main.specs.Tells.{Told}
use Rattle.grasp_node_main.specs.Workers.{after_calls}
use Rattle.grasp_node_main.specs.declared.daemon.Daemon.{Daemon}
use Rattle.grasp_node_main.specs.declared.plan.DaemonPlan.{DaemonPlan}
use Rattle.grasp_node_main.specs.declared.seated_agent.SeatedAgent.{SeatedAgent}
use Rattle.grasp_node_main.specs.declared.worker.Worker.{Worker}

-- the agent at a place, and its seat
record Found (crew : List Worker) (history : History) (count : ℕ) (seats : List SeatedAgent) (place : ℕ) (w : Worker) : Type 0 where
  seat : SeatedAgent
  at : slice_get seats place ≡ Some seat
  stands : SeatStands w (own_calls (place + 1) history) count seat

found : (crew : List Worker) (history : History) (count : ℕ) (seats : List SeatedAgent) → SeatsStand crew history count seats → (place : ℕ) (w : Worker) → slice_get crew place ≡ Some w → Found crew history count seats place w
found crew history count seats k place w atw = by (slice_get_cases seats place).1 where
  within : place < length seats
  within = let l : place < length crew = slice_get_within crew place w atw in omega (arith, k.same)

  by : ((x : SeatedAgent) × (place < length seats) × (slice_get seats place ≡ Some x) × (get_or seats place x ≡ x)) ⊎ ((length seats ≤ place) × (slice_get seats place ≡ None)) → Found crew history count seats place w
  by (inl x) = record { seat = x.0; at = x.2; stands = k.each place w x.0 atw x.2 }
  by (inr x) = let l = within in absurd (omega (arith, x.0, l))

made : (crew : List Worker) (history : History) (count : ℕ) (seats : List SeatedAgent) → SeatsStand crew history count seats → AgentsMade crew history count
made crew history count seats k place w atw = let f = found crew history count seats k place w atw in (f.stands.calls_are, f.stands.most)

all_made : (crew : List Worker) (history : History) (count : ℕ) (seats : List SeatedAgent) → SeatsStand crew history count seats → AllGoing seats → AllMade crew history count
all_made crew history count seats k going place w atw = let f = found crew history count seats k place w atw in (f.stands.going (going place f.seat f.at)).0

-- the agents in their seats are as their own calls left them
left : (c : ℕ) (crew : List Worker) (seats : List SeatedAgent) (history : History) → length seats ≡ length crew
    → ((place k : ℕ) (w : Worker) (s : SeatedAgent) → k ≡ place + c → slice_get crew place ≡ Some w → slice_get seats place ≡ Some s → s.worker ≡ after_calls w (own_calls k history))
    → workers_of seats ≡ crew_after c crew history
left c [] [] history same h = refl
left c [] (s ∷ seats) history same h = absurd (omega (arith, same))
left c (w ∷ crew) [] history same h = absurd (omega (arith, same))
left c (w ∷ crew) (s ∷ seats) history same h =
    ap (λ x. x ∷ workers_of seats) (h 0 c w s (omega arith) refl refl)
    ∙ ap (λ l. after_calls w (own_calls c history) ∷ l) (left (c + 1) crew seats history (omega (arith, same)) (λ place k v t e atv att. h (suc place) k v t (omega (arith, e)) atv att))

-- with its agents
pub ran_going : (plan : DaemonPlan) (opened : NodeState) (old new : Told) (seats : List SeatedAgent) → IsLegalHistory (first_node plan.node) openings opened → RanSeats opened (crew_of plan) plan.wait plan.turns old seats new → AllGoing seats → Ran plan old new (Some (workers_of seats))
ran_going plan opened old new seats o r going = record {
  opened = opened;
  opening = o;
  history = r.history;
  to = r.to;
  turns = r.turns;
  last = r.last;
  legal = r.legal;
  callers = r.callers;
  count = r.count_is;
  loop = r.loop;
  tells = r.tells;
  rising = r.rising;
  agents = made (crew_of plan) r.history plan.turns seats r.agents;
  ends = (
    all_made (crew_of plan) r.history plan.turns seats r.agents going,
    left 1 (crew_of plan) seats r.history r.agents.same (λ place k w s e atw ats. subst (λ c. s.worker ≡ after_calls w (own_calls c r.history)) (sym e) ((r.agents.each place w s atw ats).going (going place s ats)).1),
  );
}

-- without them
pub ran_somehow : (plan : DaemonPlan) (opened : NodeState) (old new : Told) (seats : List SeatedAgent) → IsLegalHistory (first_node plan.node) openings opened → RanSeats opened (crew_of plan) plan.wait plan.turns old seats new → Ran plan old new None
ran_somehow plan opened old new seats o r = record {
  opened = opened;
  opening = o;
  history = r.history;
  to = r.to;
  turns = r.turns;
  last = r.last;
  legal = r.legal;
  callers = r.callers;
  count = r.count_is;
  loop = r.loop;
  tells = r.tells;
  rising = r.rising;
  agents = made (crew_of plan) r.history plan.turns seats r.agents;
  ends = tt;
}

-- what a run answers
pub runs : (untouched : Type 0) (plan : DaemonPlan) (opened : NodeState) (old new : Told) (d : Daemon) (result : Result Daemon OutOfMemory) → IsLegalHistory (first_node plan.node) openings opened → RanSeats opened (crew_of plan) plan.wait plan.turns old d.seats.items new
    → IfOk result (λ r. r ≡ d) → IfOk result (λ r. AllGoing d.seats.items) → RunsNode untouched plan old result new
runs untouched plan opened old new d (Ok r) o k same going = subst (λ (x : Daemon). Ran plan old new (Some (workers_of x.seats.items))) (sym same) (ran_going plan opened old new d.seats.items o k going)
runs untouched plan opened old new d (Err fault) o k same going = inr (ran_somehow plan opened old new d.seats.items o k)

-- one more that hasn't stopped
pub going_more : (xs : List SeatedAgent) (i : ℕ) (x : SeatedAgent) → slice_get xs i ≡ Some x → x.stopped ≡ false → ((place : ℕ) (s : SeatedAgent) → place < i → slice_get xs place ≡ Some s → s.stopped ≡ false)
    → (place : ℕ) (s : SeatedAgent) → place < i + 1 → slice_get xs place ≡ Some s → s.stopped ≡ false
going_more xs i x at stays h place s lt ats = by (eqb_tells place i) where
  by : (((place == i) ≡ true) × (place ≡ i)) ⊎ (((place == i) ≡ false) × (place ≢ i)) → s.stopped ≡ false
  by (inl e) =
      let same : Some s ≡ Some x = sym ats ∙ ap (slice_get xs) e.1 ∙ at in
      let seat : s ≡ x = cc in
      ap (λ (y : SeatedAgent). y.stopped) seat ∙ stays
  by (inr e) = h place s (omega (arith, lt, e.1)) ats
