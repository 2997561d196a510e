-- One line more of a run, and the events of a run.
use Rattle.std.proofs.Common.{◌≡◌, refl, sym, ap, ◌∙◌, subst, arith, ℕ, suc, ◌≤◌, ◌<◌, ◌^◌, List, [], ◌∷◌, ◌++◌, append_assoc, length, length-append, Option, None, Some}
use Rattle.grasp_laws_network.proofs.GoodPlans.{scripts_are_good}
use Rattle.grasp_model_network.specs.Plans.{IsGoodPlan}
use Rattle.grasp_model_network.specs.Setting.{Setting, script_setting}
use Rattle.grasp_model_network.specs.Visits.{Choice}
use Rattle.grasp_model_network.specs.declared.plan.WorldPlan.{WorldPlan}
use Rattle.grasp_script_kept.specs.declared.line.KeptLine.{KeptLine}
use Rattle.grasp_model_kept.specs.Runs.{IsKeptRun, KeptHappening}
use Rattle.grasp_model_kept.specs.World.{KeptState}
use Rattle.grasp_model_kept.specs.declared.event.KeptEvent.{KeptEvent}
use Rattle.grasp_laws_kept.specs.Laws.{KeptNetworksAreSafe}
use Rattle.grasp_model_script_kept.specs.LineRuns.{KeptLineRun, MayHappen, MayRunKept, after_kept_line, happening_of, kept_line_told, line_event, state_then}
use Rattle.grasp_model_script_kept.specs.ScriptRuns.{MayRunAllKept, RunsKeptSafely, kept_happenings, kept_lines_of, kept_of, kept_told_from, state_after}

pub lines_more : (xs : List KeptLineRun) (x : KeptLineRun) → kept_lines_of (xs ++ x ∷ []) ≡ kept_lines_of xs ++ x.line ∷ []
lines_more [] x = refl
lines_more (y ∷ ys) x = ap (λ (ls : List KeptLine). y.line ∷ ls) (lines_more ys x)

pub may_run_more : (s : Setting) (xs : List KeptLineRun) (x : KeptLineRun) (k : KeptState) → MayRunAllKept s k xs → MayRunKept s (state_after s k xs) x → MayRunAllKept s k (xs ++ x ∷ [])
unfolding MayRunAllKept state_after
may_run_more s [] x k all one = (one, tt)
may_run_more s (y ∷ ys) x k all one = (all.0, may_run_more s ys x (after_kept_line s k y) all.1 one)

pub state_more : (s : Setting) (xs : List KeptLineRun) (x : KeptLineRun) (k : KeptState) → state_after s k (xs ++ x ∷ []) ≡ after_kept_line s (state_after s k xs) x
unfolding state_after
state_more s [] x k = refl
state_more s (y ∷ ys) x k = state_more s ys x (after_kept_line s k y)

pub told_more : (s : Setting) (xs : List KeptLineRun) (x : KeptLineRun) (k : KeptState)
    → kept_told_from s k (xs ++ x ∷ []) ≡ kept_told_from s k xs ++ (kept_line_told s (state_after s k xs) x ++ 10 ∷ [])
unfolding state_after kept_told_from
told_more s [] x k = refl
told_more s (y ∷ ys) x k =
    ap (λ (t : List ℕ). kept_line_told s k y ++ 10 ∷ t) (told_more s ys x (after_kept_line s k y))
    ∙ sym (append_assoc (kept_line_told s k y) (10 ∷ kept_told_from s (after_kept_line s k y) ys) (kept_line_told s (state_after s (after_kept_line s k y) ys) x ++ 10 ∷ []))

-- ---- the events of lines are a run of a network whose nodes crash

runs_then : (s : Setting) (k : KeptState) (o : Option KeptEvent) (c : Choice) (hs : List KeptHappening) → MayHappen s k o c → IsKeptRun s (state_then s k o c) hs → IsKeptRun s k (happening_of o c ++ hs)
unfolding IsKeptRun
runs_then s k None c hs one all = all
runs_then s k (Some e) c hs one all = (one, all)

pub lines_are_runs : (s : Setting) (xs : List KeptLineRun) (k : KeptState) → MayRunAllKept s k xs → IsKeptRun s k (kept_happenings s k xs)
unfolding IsKeptRun MayRunAllKept kept_happenings
lines_are_runs s [] k all = tt
lines_are_runs s (x ∷ xs) k all = runs_then s k (line_event k.world x.line) x.choice (kept_happenings s (after_kept_line s k x) xs) all.0 (lines_are_runs s xs (after_kept_line s k x) all.1)

one_at_most : (o : Option KeptEvent) (c : Choice) → length (happening_of o c) ≤ 1
one_at_most None c = omega arith
one_at_most (Some e) c = omega arith

few_events : (s : Setting) (xs : List KeptLineRun) (k : KeptState) → length (kept_happenings s k xs) ≤ length xs
unfolding kept_happenings
few_events s [] k = omega arith
few_events s (x ∷ xs) k =
    omega (arith, length-append (happening_of (line_event k.world x.line) x.choice) (kept_happenings s (after_kept_line s k x) xs), one_at_most (line_event k.world x.line) x.choice, few_events s xs (after_kept_line s k x))

pub runs_safely : KeptNetworksAreSafe → (plan : WorldPlan) (run : List KeptLineRun) → IsGoodPlan plan → length run < 2 ^ 32 → MayRunAllKept (script_setting plan) (kept_of plan) run → RunsKeptSafely plan run
runs_safely safe plan run good few may = record {
  may_run = may;
  safe = safe (script_setting plan) (kept_happenings (script_setting plan) (kept_of plan) run) (scripts_are_good plan good)
      (omega (arith, few, few_events (script_setting plan) run (kept_of plan))) (lines_are_runs (script_setting plan) run (kept_of plan) may);
}

pub as_many : (xs : List KeptLineRun) → length (kept_lines_of xs) ≡ length xs
as_many [] = refl
as_many (x ∷ xs) = ap (λ (n : ℕ). suc n) (as_many xs)
