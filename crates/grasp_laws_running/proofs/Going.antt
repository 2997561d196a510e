-- A member that runs can make the next call of its agent of prefixes.
use Rattle.std.proofs.Common.{◌≡◌, ◌⊎◌, inl, inr, refl, sym, ap, ◌∙◌, subst, ℕ, Bool, true, false, length, Option, Some}
use Rattle.std.proofs.lemmas.Bool.{true≢false}
use Rattle.std.specs.Prelude.{nat_lt}
use Rattle.grasp_laws_members.proofs.Clock.{begun_at}
use Rattle.grasp_laws_members.proofs.Giving.{given, visited}
use Rattle.grasp_laws_members.proofs.Steps.{moment_is}
use Rattle.grasp_laws_members.specs.Acts.{IsTaken, Taken}
use Rattle.grasp_laws_members.specs.Courses.{after_moment, at_node}
use Rattle.grasp_laws_network.proofs.Going.{not_too_much}
use Rattle.grasp_laws_outcomes.specs.Events.{ComesOut, EventsComeOut}
use Rattle.grasp_laws_running.specs.Going.{MayCall, MembersMayCall}
use Rattle.grasp_model_network.specs.EventSteps.{after_agent, agent_input, agent_seat, agent_visit}
use Rattle.grasp_model_network.specs.Events.{Overflows, after_by, after_event, visit_of}
use Rattle.grasp_model_network.specs.Notes.{noted}
use Rattle.grasp_model_network.specs.Plans.{IsNode}
use Rattle.grasp_model_network.specs.Runs.{IsReached}
use Rattle.grasp_model_network.specs.Sending.{stepped}
use Rattle.grasp_model_network.specs.Setting.{Setting}
use Rattle.grasp_model_network.specs.Visits.{Choice, MayCome, Visit, VisitStep}
use Rattle.grasp_model_network.specs.World.{Seat, WorldState, is_too_much, most_bytes, present_life, seat_at}
use Rattle.grasp_model_network.specs.declared.event.Event.TheVariants as event

-- a call that is held sends nothing
same_bytes : (s : Setting) (w : WorldState) (node : ℕ) (v : Visit) (c : Choice) → visit_of s w (event.Agent node true) ≡ Some v → (after_event s w (event.Agent node true) c).byte_count ≡ w.byte_count
unfolding after_event after_agent noted stepped
same_bytes s w node v c is = ap (λ (o : Option Visit). (after_by s w (event.Agent node true) c o).byte_count) is

module _ (come : EventsComeOut) (runs : ℕ → Bool) (s : Setting) (w : WorldState) (r : IsReached s w) (node : ℕ) (seat : Seat) (is_running : runs node ≡ true) (member : IsNode (length s.members) node) (here : seat_at w (present_life w node) ≡ Some seat) where
  abbrev v : Visit
  v = record { node = present_life w node; seat = seat; now = seat.core.reading; input = agent_input seat.agent }

  visit_is : visit_of s w (event.Agent node true) ≡ Some v
  unfolding agent_visit
  visit_is = ap (agent_seat (present_life w node)) here

  abbrev call_taken : Choice → Taken
  call_taken c = record { own = true; now = seat.core.reading; input = agent_input seat.agent; choice = c }

  few : (n : ℕ) → n ≡ w.byte_count → nat_lt most_bytes n ≡ false
  few n e = ap (nat_lt most_bytes) e ∙ not_too_much s w r

  called : (c : Choice) → VisitStep v c → MayCall runs s w node seat
  called c steps = record { taken = call_taken c; own = refl; is_taken = is_taken; may = (is_running, refl, enough) } where
    is_taken : IsTaken seat.core seat.agent (call_taken c)
    is_taken = record { steps = steps.steps; fed = steps.fed; called = λ f. refl }

    visited_there : visit_of s (begun_at w (present_life w node) seat seat.core.reading) (event.Agent node true) ≡ Some (visited (present_life w node) seat seat.core.reading (agent_input seat.agent))
    visited_there = given s w node seat.core.reading seat here true (agent_input seat.agent) (event.Agent node true) (λ f. refl) refl

    enough : is_too_much (after_moment s w (at_node node (call_taken c) (event.Agent node true))) ≡ false
    enough =
        ap is_too_much (moment_is s w node seat here r member (call_taken c) is_taken (event.Agent node true) refl)
        ∙ few (after_event s (begun_at w (present_life w node) seat seat.core.reading) (event.Agent node true) c).byte_count
        (same_bytes s (begun_at w (present_life w node) seat seat.core.reading) node (visited (present_life w node) seat seat.core.reading (agent_input seat.agent)) c visited_there)

  may_call : MayCall runs s w node seat
  may_call = by_case (come s w (event.Agent node true) r member) where
    by_case : ComesOut s w (event.Agent node true) ⊎ Overflows s w (event.Agent node true) → MayCall runs s w node seat
    by_case (inl o) = called o.choice (subst (λ (x : Option Visit). MayCome x o.choice) visit_is o.occurs.comes)
    by_case (inr o) = absurd (true≢false (sym o.too_much ∙ few (after_event s w (event.Agent node true) o.choice).byte_count (same_bytes s w node v o.choice visit_is)))

pub members_may_call : EventsComeOut → MembersMayCall
members_may_call come runs s w r node seat is_running member here = may_call come runs s w r node seat is_running member here
