-- Two runs of the same events are the same.
use Rattle.std.proofs.Common.{◌≡◌, refl, sym, ap, ◌∙◌, subst, List, [], ◌∷◌}
use Rattle.grasp_laws_network.proofs.Agreeing.{outcomes_agree}
use Rattle.grasp_laws_network.proofs.Going.{reached_more}
use Rattle.grasp_laws_network.proofs.GoodPlans.{plan_reached}
use Rattle.grasp_model_network.proofs.Facts.{first_reached}
use Rattle.grasp_model_network.specs.Events.{Occurs, after_event}
use Rattle.grasp_laws_network.specs.Keeping.{IsSameOutcome}
use Rattle.grasp_model_network.specs.Reports.{report_of}
use Rattle.grasp_model_network.specs.Runs.{Happening, IsRun, IsReached, events_of, first_world, reports_from, world_after, world_of, worlds_from}
use Rattle.grasp_model_network.specs.Setting.{Setting, script_setting}
use Rattle.grasp_model_network.specs.Visits.{Choice}
use Rattle.grasp_model_network.specs.World.{WorldState}
use Rattle.grasp_model_network.specs.declared.event.Event.{Event}
use Rattle.grasp_laws_delivery.proofs.FedNetworks.{nodes_are_fed}
use Rattle.grasp_laws_reports.specs.Agree.{IsSameRun, RunsAgree}

events_agree : (s : Setting) (w : WorldState) (e : Event) (c d : Choice) → IsReached s w → Occurs s w e c → Occurs s w e d → IsSameOutcome s w e c d
events_agree s w e c d r x y = outcomes_agree s w e c d (nodes_are_fed.visits s w e r) x y

-- two events that are the same come out in one way
pub record IsSameHappening (s : Setting) (w : WorldState) (h g : Happening) : Type 0 where
  pub report : report_of s w h.event h.choice ≡ report_of s w g.event g.choice
  pub after : after_event s w h.event h.choice ≡ after_event s w g.event g.choice

pub happenings_agree : (s : Setting) (w : WorldState) (h g : Happening) → IsReached s w → Occurs s w h.event h.choice → Occurs s w g.event g.choice → h.event ≡ g.event → IsSameHappening s w h g
happenings_agree s w h g r a b same = from (events_agree s w h.event h.choice g.choice r a (subst (λ (e : Event). Occurs s w e g.choice) (sym same) b)) where
  from : IsSameOutcome s w h.event h.choice g.choice → IsSameHappening s w h g
  from o = record {
    report = o.report ∙ ap (λ (e : Event). report_of s w e g.choice) same;
    after = o.after ∙ ap (λ (e : Event). after_event s w e g.choice) same;
  }

pub heads_same : (x y : Event) (xs ys : List Event) → x ∷ xs ≡ y ∷ ys → x ≡ y
heads_same x y xs ys e = cc

pub tails_same : (x y : Event) (xs ys : List Event) → x ∷ xs ≡ y ∷ ys → xs ≡ ys
tails_same x y xs ys e = cc

none_more : (x : Event) (xs : List Event) → [] ≡ x ∷ xs → ⊥
none_more x xs e = absurd (cc)

pub more_none : (x : Event) (xs : List Event) → x ∷ xs ≡ [] → ⊥
more_none x xs e = absurd (cc)

run_then : (s : Setting) (w : WorldState) (h g : Happening) (hs gs : List Happening) → IsSameHappening s w h g → IsSameRun s (after_event s w h.event h.choice) hs gs → IsSameRun s w (h ∷ hs) (g ∷ gs)
unfolding reports_from worlds_from world_after
run_then s w h g hs gs first rest = record {
  reports = ap (λ p. p ∷ reports_from s (after_event s w h.event h.choice) hs) first.report
      ∙ ap (λ ps. report_of s w g.event g.choice ∷ ps) (rest.reports ∙ ap (λ (x : WorldState). reports_from s x gs) first.after);
  worlds = ap (λ ws. w ∷ ws) (rest.worlds ∙ ap (λ (x : WorldState). worlds_from s x gs) first.after);
  last = rest.last ∙ ap (λ (x : WorldState). world_after s x gs) first.after;
}

runs_onward : (s : Setting) (hs gs : List Happening) (w : WorldState) → IsReached s w → IsRun s w hs → IsRun s w gs → events_of hs ≡ events_of gs → IsSameRun s w hs gs
unfolding IsRun reports_from worlds_from world_after
runs_onward s [] [] w r a b e = record { reports = refl; worlds = refl; last = refl }
runs_onward s [] (g ∷ gs) w r a b e = absurd (none_more g.event (events_of gs) e)
runs_onward s (h ∷ hs) [] w r a b e = absurd (more_none h.event (events_of hs) e)
runs_onward s (h ∷ hs) (g ∷ gs) w r a b e =
    let first = happenings_agree s w h g r a.0 b.0 (heads_same h.event g.event (events_of hs) (events_of gs) e) in
    run_then s w h g hs gs first
    (runs_onward s hs gs (after_event s w h.event h.choice) (reached_more s w h.event h.choice r a.0) a.1
    (subst (λ (x : WorldState). IsRun s x gs) (sym first.after) b.1) (tails_same h.event g.event (events_of hs) (events_of gs) e))

pub runs_agree : RunsAgree
runs_agree = record {
  events = events_agree;
  onward = λ s w hs gs r a b e. runs_onward s hs gs w r a b e;
  runs = λ s hs gs good a b e. runs_onward s hs gs (first_world s) (first_reached s good) a b e;
  scripts = λ p hs gs good a b e. runs_onward (script_setting p) hs gs (world_of p) (plan_reached p good) a b e;
}
