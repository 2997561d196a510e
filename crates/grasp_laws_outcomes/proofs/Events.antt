-- Each event comes out, or sends too much.
use Rattle.std.proofs.Common.{◌≡◌, ◌≤◌, ◌<◌, ◌^◌, ◌⊎◌, inl, inr, ℕ, Bool, true, false, Option, Some, None, refl, sym, ap, subst, arith}
use Rattle.grasp_laws_delivery.proofs.FedNetworks.{nodes_are_fed}
use Rattle.grasp_laws_network.proofs.EachNode.{reached_each}
use Rattle.grasp_model_network.proofs.Facts.{numbered_all}
use Rattle.grasp_laws_network.proofs.Here.{visits_are_here}
use Rattle.grasp_laws_network.specs.Keeping.{IsFedVisit, IsFedWhere, IsHere}
use Rattle.grasp_laws_node.proofs.PlansStay.{step_plan}
use Rattle.grasp_laws_progress.proofs.Outcomes.{each_input}
use Rattle.grasp_laws_progress.specs.Outcomes.{HasCause, HadMemory, HasOutcome}
use Rattle.grasp_model_network.specs.Events.{visit_of, after_event, Occurs, Overflows, IsFit}
use Rattle.grasp_model_network.specs.GoodSetting.{IsGoodMember}
use Rattle.grasp_model_network.specs.Runs.{IsReached}
use Rattle.grasp_model_network.specs.Setting.{Member, Setting, numbered}
use Rattle.grasp_model_network.specs.Visits.{Visit, Choice, is_starved, is_starved_call, VisitStep, no_choice, MayCome}
use Rattle.grasp_model_network.specs.World.{Seat, WorldState, seat_at, is_too_much}
use Rattle.grasp_model_network.specs.declared.event.Event.{Event}
use Rattle.grasp_model_node.specs.Node.{first_node}
use Rattle.grasp_types.specs.declared.refusal.ApiRefused.{ApiRefused}
use Rattle.grasp_types.specs.declared.refusal.ApiRefused.TheVariants as refusal
use Rattle.grasp_types.specs.declared.reply.Reply.{Reply}
use Rattle.grasp_types.specs.declared.reply.Reply.TheVariants as reply
use Rattle.grasp_laws_outcomes.specs.Events.{ComesOut, EventsComeOut}

-- ---- memory

had_cause : (r : ApiRefused) → HasCause r → is_starved_call r ≡ false
had_cause refusal.OutOfMemory h = absurd h
had_cause _ h = refl

fed : (r : Reply) → HadMemory r → is_starved r ≡ false
fed reply.OutOfMemory h = absurd h
fed (reply.Refused refused) h = had_cause refused h
fed _ h = refl

-- ---- limits

few_bytes : (s : Setting) (w : WorldState) → IsReached s w → (node : ℕ) (seat : Seat) → seat_at w node ≡ Some seat → seat.core.plan.limit < 2 ^ 64
few_bytes s w r = reached_each (λ k n. n.plan.limit < 2 ^ 64) s w (λ k n after now i x q few step. subst (λ p. p < 2 ^ 64) (ap (λ p. p.limit) (sym (step_plan n after now i x q step))) few) first r where
  few : (m : Member) → IsGoodMember r.good.limit m → m.plan.limit < 2 ^ 64
  few m good =
      let is = good.limit_is in
      let most = r.good.most_limit in
      omega (arith, is, most)

  first : (life k : ℕ) (m : Member) → numbered s.members k ≡ Some m → (first_node m.plan).plan.limit < 2 ^ 64
  first life k m is = few m (numbered_all (IsGoodMember r.good.limit) s.members k m r.good.members is)

-- ---- the step of an event

-- the visit comes out
pub record VisitComes (o : Option Visit) : Type 0 where
  pub choice : Choice
  pub comes : MayCome o choice

visit_comes : (v : Visit) → v.seat.core.plan.limit < 2 ^ 64 → IsFedVisit v → VisitComes (Some v)
visit_comes v few h = by_outcome (each_input v.seat.core v.now v.input h.node few h.bytes) where
  by_outcome : HasOutcome v.seat.core v.now v.input → VisitComes (Some v)
  by_outcome o = record {
    choice = record { coming = o.coming; reply = o.comes_out.reply; after = o.comes_out.after };
    comes = record { steps = o.comes_out.steps; fed = fed o.comes_out.reply o.comes_out.had_memory };
  }

event_visits : (s : Setting) (w : WorldState) (e : Event) → IsReached s w → (o : Option Visit) → visit_of s w e ≡ o → IsFedWhere o → VisitComes o
event_visits s w e r None q h = record { choice = no_choice; comes = tt }
event_visits s w e r (Some v) q h = let here = visits_are_here s w e v q in visit_comes v (few_bytes s w r v.node v.seat here.stands) h

-- ---- the event

pub events_come_out : EventsComeOut
events_come_out s w e r fit = by_visit (event_visits s w e r (visit_of s w e) refl (nodes_are_fed.visits s w e r)) where
  by_bytes : (c : Choice) → MayCome (visit_of s w e) c → (b : Bool) → is_too_much (after_event s w e c) ≡ b → ComesOut s w e ⊎ Overflows s w e
  by_bytes c m true q = inr (record { choice = c; comes = m; too_much = q })
  by_bytes c m false q = inl (record { choice = c; occurs = record { fit = fit; comes = m; enough = q } })

  by_visit : VisitComes (visit_of s w e) → ComesOut s w e ⊎ Overflows s w e
  by_visit v = by_bytes v.choice v.comes (is_too_much (after_event s w e v.choice)) refl
