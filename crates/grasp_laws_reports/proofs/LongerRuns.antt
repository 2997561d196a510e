-- A run of the first events of another one goes as that one does.
use Rattle.std.proofs.Common.{◌≡◌, refl, sym, ap, ◌∙◌, subst, true, false, List, [], ◌∷◌, ◌++◌}
use Rattle.grasp_laws_network.proofs.Agreeing.{IsSameBy, visits_agree}
use Rattle.grasp_laws_network.proofs.Going.{reached_more}
use Rattle.grasp_model_network.specs.Events.{visit_of, after_event, after_by}
use Rattle.grasp_laws_network.specs.Keeping.{IsLonger}
use Rattle.grasp_model_network.specs.Reports.{report_of}
use Rattle.grasp_model_network.specs.Runs.{Happening, IsRun, IsReached, events_of, reports_from, worlds_from}
use Rattle.grasp_model_network.specs.Setting.{Setting}
use Rattle.grasp_model_network.specs.World.{WorldState, is_too_much}
use Rattle.grasp_model_network.specs.declared.event.Event.{Event}
use Rattle.grasp_laws_delivery.proofs.FedNetworks.{nodes_are_fed}
use Rattle.grasp_laws_reports.proofs.SameRuns.{IsSameHappening, happenings_agree, heads_same, tails_same, more_none}
use Rattle.grasp_laws_reports.specs.Agree.{StopsAgree, GoesOn, RunsGoOn}

-- ---- an event that stops a run

both_true : (w x : WorldState) → x ≡ w → is_too_much w ≡ false → is_too_much x ≡ true → ⊥
both_true w x same e f = let both : true ≡ false = sym f ∙ (ap is_too_much same ∙ e) in absurd (cc)

pub stops_agree : StopsAgree
unfolding after_event
stops_agree s w e c r o over = from (visits_agree s w e over.choice c (visit_of s w e) (nodes_are_fed.visits s w e r) over.comes o.comes) where
  from : IsSameBy s w e over.choice c (visit_of s w e) → ⊥
  from same = both_true (after_by s w e c (visit_of s w e)) (after_by s w e over.choice (visit_of s w e)) same.after o.enough over.too_much

-- ---- a longer run

longer_by_head : {A : Type 0} (x y : A) (xs ys : List A) → x ≡ y → IsLonger xs ys → IsLonger (x ∷ xs) (y ∷ ys)
longer_by_head x y xs ys same l = (l.0, ap (λ z. z ∷ ys) (sym same) ∙ ap (λ zs. x ∷ zs) l.1)

go_then : (s : Setting) (w : WorldState) (h g : Happening) (hs gs : List Happening) → IsSameHappening s w h g → GoesOn s (after_event s w h.event h.choice) hs gs → GoesOn s w (h ∷ hs) (g ∷ gs)
unfolding reports_from worlds_from
go_then s w h g hs gs first rest = record {
  reports = longer_by_head (report_of s w h.event h.choice) (report_of s w g.event g.choice) (reports_from s (after_event s w h.event h.choice) hs) (reports_from s (after_event s w g.event g.choice) gs) first.report
      (subst (λ (x : WorldState). IsLonger (reports_from s (after_event s w h.event h.choice) hs) (reports_from s x gs)) first.after rest.reports);
  worlds = longer_by_head w w (worlds_from s (after_event s w h.event h.choice) hs) (worlds_from s (after_event s w g.event g.choice) gs) refl
      (subst (λ (x : WorldState). IsLonger (worlds_from s (after_event s w h.event h.choice) hs) (worlds_from s x gs)) first.after rest.worlds);
}

nothing_yet : (s : Setting) (w : WorldState) (gs : List Happening) → GoesOn s w [] gs
unfolding reports_from worlds_from
nothing_yet s w [] = record { reports = ([], refl); worlds = ([], refl) }
nothing_yet s w (g ∷ gs) = record {
  reports = (report_of s w g.event g.choice ∷ reports_from s (after_event s w g.event g.choice) gs, refl);
  worlds = (worlds_from s (after_event s w g.event g.choice) gs, refl);
}

goes_on : (s : Setting) (hs gs : List Happening) (more : List Event) (w : WorldState) → IsReached s w → IsRun s w hs → IsRun s w gs → events_of gs ≡ events_of hs ++ more → GoesOn s w hs gs
unfolding IsRun
goes_on s [] gs more w r a b e = nothing_yet s w gs
goes_on s (h ∷ hs) [] more w r a b e = absurd (more_none h.event (events_of hs ++ more) (sym e))
goes_on s (h ∷ hs) (g ∷ gs) more w r a b e =
    let first = happenings_agree s w h g r a.0 b.0 (sym (heads_same g.event h.event (events_of gs) (events_of hs ++ more) e)) in
    go_then s w h g hs gs first
    (goes_on s hs gs more (after_event s w h.event h.choice) (reached_more s w h.event h.choice r a.0) a.1 (subst (λ (x : WorldState). IsRun s x gs) (sym first.after) b.1)
    (tails_same g.event h.event (events_of gs) (events_of hs ++ more) e))

pub runs_go_on : RunsGoOn
runs_go_on s w hs gs r a b l = goes_on s hs gs l.0 w r a b l.1
