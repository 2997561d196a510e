-- Why an event may stop a network, and how much is sent in one that goes on.
use Rattle.std.proofs.Common.{◌≡◌, refl, sym, ◌∙◌, subst, arith, tests, ℕ, ◌≤◌, ◌<◌, nat_lt, true, Option, Some, None, IsSome}
use Rattle.std.proofs.lemmas.Bool.{false≢true, ltb-true, ltb-false}
use Rattle.grasp_laws_network.proofs.Counted.{bytes_are_counted}
use Rattle.grasp_laws_network.proofs.Reached.{reached_keeps}
use Rattle.grasp_laws_network.proofs.Turning.{settle_one, restart_by}
use Rattle.grasp_laws_network.specs.Lives.{TurnsKeep}
use Rattle.grasp_laws_network.specs.Telling.{OneAgent}
use Rattle.grasp_model_network.specs.Events.{Overflows, after_event}
use Rattle.grasp_model_network.specs.Runs.{IsReached, first_world}
use Rattle.grasp_model_network.specs.Setting.{Setting}
use Rattle.grasp_model_network.specs.Visits.{Choice, Visit}
use Rattle.grasp_model_network.specs.World.{WorldState, bytes_sent}
use Rattle.grasp_model_network.specs.declared.event.Event.{Event}
use Rattle.grasp_laws_events.specs.Stopping.{all_bytes, SendsMore, StopsHaveCauses}

-- ---- numbers

below : (a b : ℕ) → a < b → nat_lt a b ≡ true
below a b l = grind (arith, tests)

-- ---- too much

-- the count is that of the bytes
bytes_are : (w : WorldState) → bytes_sent w ≡ all_bytes w
unfolding bytes_sent
bytes_are w = refl

count_after : (s : Setting) (w : WorldState) (e : Event) (c : Choice) → IsReached s w → (after_event s w e c).byte_count ≡ all_bytes (after_event s w e c)
count_after s w e c r = bytes_are_counted.each s w e c (bytes_are_counted.all s w r) ∙ bytes_are (after_event s w e c)

sends_more : (s : Setting) (w : WorldState) (e : Event) → IsReached s w → Overflows s w e → SendsMore s w e
sends_more s w e r o = (o.choice, o.comes, subst (λ (n : ℕ). 268435456 < n) (count_after s w e o.choice r) (ltb-true 268435456 (after_event s w e o.choice).byte_count o.too_much))

overflows : (s : Setting) (w : WorldState) (e : Event) → IsReached s w → SendsMore s w e → Overflows s w e
overflows s w e r m = record {
  choice = m.0;
  comes = m.1;
  too_much = below 268435456 (after_event s w e m.0).byte_count (subst (λ (n : ℕ). 268435456 < n) (sym (count_after s w e m.0 r)) m.2);
}

-- ---- enough

abbrev IsFew : WorldState → Type 0
IsFew w = w.byte_count ≤ 268435456

few_first : (s : Setting) → IsFew (first_world s)
unfolding first_world
few_first s = omega arith

one_few : (w x : WorldState) → IsFew w → OneAgent w x → IsFew x
one_few w x few o = subst (λ (y : WorldState). IsFew y) (sym o.after) few

few_kept : (s : Setting) → TurnsKeep s IsFew
few_kept s = record {
  events = λ w e c o few. ltb-false 268435456 (after_event s w e c).byte_count o.enough;
  settles = λ w node p dead few. settle_one w node p IsFew few (λ x o. one_few w x few o);
  restarts = λ w node image may few. restart_by s w node image IsFew few (λ seat m here found. few);
}

few_bytes : (s : Setting) (w : WorldState) → IsReached s w → all_bytes w ≤ 268435456
few_bytes s w r = subst (λ (n : ℕ). n ≤ 268435456) (bytes_are_counted.all s w r ∙ bytes_are w) (reached_keeps s IsFew (few_first s) (few_kept s) w r)

-- ---- all of it

no_step : (o : Option Visit) → o ≡ None → IsSome o → ⊥
no_step None is some = false≢true some
no_step (Some v) is some = absurd (cc)

pub stops_have_causes : StopsHaveCauses
stops_have_causes = record {
  too_much = sends_more;
  more = overflows;
  enough = few_bytes;
  clocks = λ s w node millis may. false≢true may.0;
  wants = λ s w node wanted longest peer may. false≢true may.0;
  returns = λ s w node p peer may. false≢true may.0;
  stepless = λ s w e none may. no_step _ none may.1;
}
