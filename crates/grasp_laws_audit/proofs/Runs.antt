-- The run of lines that hold.
use Rattle.std.proofs.Common.{◌≡◌, refl, sym, ◌∙◌, ℕ, List, [], ◌∷◌, ◌++◌, All}
use Rattle.std.proofs.lemmas.List.Elements.{All-nil, All-cons}
use Rattle.grasp_laws_network.proofs.Going.{reached_more}
use Rattle.grasp_laws_network.proofs.GoodPlans.{plan_reached}
use Rattle.grasp_model_network.specs.Events.{after_event}
use Rattle.grasp_model_network.specs.Plans.{IsGoodPlan}
use Rattle.grasp_model_network.specs.Runs.{Happening, IsReached, IsRun, world_after, world_of, worlds_from}
use Rattle.grasp_model_network.specs.Setting.{Setting, script_setting}
use Rattle.grasp_model_network.specs.World.{WorldState}
use Rattle.grasp_model_network.specs.declared.plan.WorldPlan.{WorldPlan}
use Rattle.grasp_model_script.specs.Laws.{EachNetworkIsSafe}
use Rattle.grasp_model_script.specs.Safe.{IsSafe}
use Rattle.grasp_model_audit.specs.Audits.{AllHoldOf, AreSafe}
use Rattle.grasp_model_audit.specs.Lines.{AllHold, AuditedLine, after_lines, run_of}
use Rattle.grasp_laws_audit.specs.Laws.{AuditedRunsAreSafe}

-- ---- one run behind the other

pub run_joined : (s : Setting) (hs gs : List Happening) (w : WorldState) → IsRun s w hs → IsRun s (world_after s w hs) gs → IsRun s w (hs ++ gs)
unfolding IsRun world_after
run_joined s [] gs w a b = b
run_joined s (h ∷ hs) gs w a b = (a.0, run_joined s hs gs (after_event s w h.event h.choice) a.1 b)

pub after_joined : (s : Setting) (hs gs : List Happening) (w : WorldState) → world_after s w (hs ++ gs) ≡ world_after s (world_after s w hs) gs
unfolding world_after
after_joined s [] gs w = refl
after_joined s (h ∷ hs) gs w = after_joined s hs gs (after_event s w h.event h.choice)

-- ---- lines

pub lines_run : (nodes : ℕ) (s : Setting) (ys : List AuditedLine) (w : WorldState) → AllHold nodes s w ys → IsRun s w (run_of ys)
unfolding AllHold run_of IsRun
lines_run nodes s [] w h = tt
lines_run nodes s (y ∷ ys) w h = run_joined s y.happened (run_of ys) w h.0.comes.run (lines_run nodes s ys (world_after s w y.happened) h.1)

pub lines_last : (s : Setting) (ys : List AuditedLine) (w : WorldState) → after_lines s w ys ≡ world_after s w (run_of ys)
unfolding after_lines run_of world_after
lines_last s [] w = refl
lines_last s (y ∷ ys) w = lines_last s ys (world_after s w y.happened) ∙ sym (after_joined s y.happened (run_of ys) w)

-- ---- safety

pub run_reached : (s : Setting) (hs : List Happening) (w : WorldState) → IsReached s w → IsRun s w hs → IsReached s (world_after s w hs)
unfolding IsRun world_after
run_reached s [] w r a = r
run_reached s (h ∷ hs) w r a = run_reached s hs (after_event s w h.event h.choice) (reached_more s w h.event h.choice r a.0) a.1

run_safe : EachNetworkIsSafe → (s : Setting) (hs : List Happening) (w : WorldState) → IsReached s w → IsRun s w hs → All (IsSafe s) (worlds_from s w hs)
unfolding IsRun worlds_from
run_safe k s [] w r a = All-cons (IsSafe s) w [] (k s w r) (All-nil (IsSafe s))
run_safe k s (h ∷ hs) w r a =
    All-cons (IsSafe s) w (worlds_from s (after_event s w h.event h.choice) hs) (k s w r) (run_safe k s hs (after_event s w h.event h.choice) (reached_more s w h.event h.choice r a.0) a.1)

lines_safe : EachNetworkIsSafe → (plan : WorldPlan) (ys : List AuditedLine) → IsGoodPlan plan → AllHoldOf plan ys → AreSafe plan ys
lines_safe k plan ys good h =
    run_safe k (script_setting plan) (run_of ys) (world_of plan) (plan_reached plan good) (lines_run plan.nodes (script_setting plan) ys (world_of plan) h)

pub audited_runs_are_safe : EachNetworkIsSafe → AuditedRunsAreSafe
audited_runs_are_safe k = record {
  run = λ nodes s w ys h. lines_run nodes s ys w h;
  last = λ s w ys. lines_last s ys w;
  safe = lines_safe k;
}
