-- Laws on the runs of scripts.
use Rattle.std.proofs.Common.{◌≡◌, refl, ap, ◌∙◌, List, [], ◌∷◌, ◌++◌, All}
use Rattle.std.proofs.lemmas.List.Elements.{All-nil, All-cons}
use Rattle.grasp_laws_network.proofs.Going.{reached_more}
use Rattle.grasp_laws_network.proofs.GoodPlans.{member_count, plan_reached}
use Rattle.grasp_laws_network.specs.Lives.{EventsKeepLives}
use Rattle.grasp_model_network.specs.Plans.{IsGoodPlan}
use Rattle.grasp_model_network.specs.Runs.{Happening, IsRun, IsReached, world_after, world_of, first_world}
use Rattle.grasp_model_network.specs.Setting.{Setting, numbers_from, script_setting}
use Rattle.grasp_model_network.specs.Visits.{Choice}
use Rattle.grasp_model_network.specs.World.{WorldState}
use Rattle.grasp_model_network.specs.declared.plan.WorldPlan.{WorldPlan}
use Rattle.grasp_laws_floods.specs.Laws.{ReadFloodsAreReal}
use Rattle.grasp_script.specs.declared.line.LineAct.{LineAct}
use Rattle.grasp_script.specs.declared.line.LineAct.TheVariants as act
use Rattle.grasp_laws_prefixes.specs.Apart.{PrefixesStayApart}
use Rattle.grasp_laws_negotiation.specs.Safe.{TalksAreSafe}
use Rattle.grasp_model_script.specs.Laws.{RunsOfLinesAreRuns, EachRunIsSafe, EachNetworkIsSafe, ScriptsRestartNobody}
use Rattle.grasp_model_script.specs.LineRuns.{LineRun, placed_event, MayComeOut, after_act, after_line}
use Rattle.grasp_model_script.specs.Safe.{IsSafe}
use Rattle.grasp_model_script.specs.ScriptRuns.{MayRunAll, networks_from, network_after, happening_of, happenings_from, RunsSafely}

-- ---- events

run_behind : (s : Setting) (w : WorldState) (a : LineAct) (c : Choice) (hs : List Happening) → MayComeOut s w a c → IsRun s (after_act s w a c) hs → IsRun s w (happening_of w a c ++ hs)
unfolding IsRun
run_behind s w (act.Event e) c hs h r = (h, r)
run_behind s w (act.State node) c hs h r = r

last_behind : (s : Setting) (w : WorldState) (a : LineAct) (c : Choice) (hs : List Happening) → world_after s (after_act s w a c) hs ≡ world_after s w (happening_of w a c ++ hs)
unfolding world_after
last_behind s w (act.Event e) c hs = refl
last_behind s w (act.State node) c hs = refl

pub runs_are_runs : RunsOfLinesAreRuns
unfolding MayRunAll network_after happenings_from IsRun world_after
runs_are_runs s w [] h = record { run = tt; last = refl }
runs_are_runs s w (x ∷ xs) h =
    let more = runs_are_runs s (after_line s w x) xs h.1 in
    record {
      run = run_behind s w x.line.act x.choice (happenings_from s (after_line s w x) xs) h.0 more.run;
      last = more.last ∙ last_behind s w x.line.act x.choice (happenings_from s (after_line s w x) xs);
    }

-- ---- safety

pub act_reached : (s : Setting) (w : WorldState) (a : LineAct) (c : Choice) → IsReached s w → MayComeOut s w a c → IsReached s (after_act s w a c)
act_reached s w (act.Event e) c r h = reached_more s w (placed_event w e) c r h
act_reached s w (act.State node) c r h = r

-- what is so of every network that turns lead to
pub record Grounds : Type 0 where
  pub negotiations : TalksAreSafe
  pub floods : ReadFloodsAreReal
  pub prefixes : PrefixesStayApart

is_safe : (s : Setting) (w : WorldState) → Grounds → IsReached s w → IsSafe s w
is_safe s w k r = record { reached = r; negotiations = k.negotiations.reached s w r; floods = k.floods.reached s w r; prefixes = k.prefixes.reached s w r }

pub each_network_is_safe : Grounds → EachNetworkIsSafe
each_network_is_safe k s w r = is_safe s w k r

all_safe : Grounds → (s : Setting) (w : WorldState) (xs : List LineRun) → IsReached s w → MayRunAll s w xs → All (IsSafe s) (networks_from s w xs)
unfolding MayRunAll networks_from
all_safe k s w [] r h = All-cons (IsSafe s) w [] (is_safe s w k r) (All-nil (IsSafe s))
all_safe k s w (x ∷ xs) r h =
    All-cons (IsSafe s) w (networks_from s (after_line s w x) xs) (is_safe s w k r) (all_safe k s (after_line s w x) xs (act_reached s w x.line.act x.choice r h.0) h.1)

pub run_safely : Grounds → (plan : WorldPlan) (xs : List LineRun) → IsGoodPlan plan → MayRunAll (script_setting plan) (world_of plan) xs → RunsSafely plan xs
run_safely k plan xs good h = record { may_run = h; safe = all_safe k (script_setting plan) (world_of plan) xs (plan_reached plan good) h }

pub each_run_is_safe : Grounds → EachRunIsSafe
each_run_is_safe k plan xs good h = run_safely k plan xs good h

-- ---- lives

act_lives : EventsKeepLives → (s : Setting) (w : WorldState) (a : LineAct) (c : Choice) → (after_act s w a c).lives ≡ w.lives
act_lives k s w (act.Event e) c = k.lives s w (placed_event w e) c
act_lives k s w (act.State node) c = refl

act_settled : EventsKeepLives → (s : Setting) (w : WorldState) (a : LineAct) (c : Choice) → (after_act s w a c).settled ≡ w.settled
act_settled k s w (act.Event e) c = k.settled s w (placed_event w e) c
act_settled k s w (act.State node) c = refl

lines_lives : EventsKeepLives → (s : Setting) (w : WorldState) (xs : List LineRun) → (network_after s w xs).lives ≡ w.lives
unfolding network_after
lines_lives k s w [] = refl
lines_lives k s w (x ∷ xs) = lines_lives k s (after_line s w x) xs ∙ act_lives k s w x.line.act x.choice

lines_settled : EventsKeepLives → (s : Setting) (w : WorldState) (xs : List LineRun) → (network_after s w xs).settled ≡ w.settled
unfolding network_after
lines_settled k s w [] = refl
lines_settled k s w (x ∷ xs) = lines_settled k s (after_line s w x) xs ∙ act_settled k s w x.line.act x.choice

-- each node of a plan begins with its first life
first_lives : (plan : WorldPlan) → (world_of plan).lives ≡ numbers_from 1 plan.nodes
unfolding first_world script_setting
first_lives plan = ap (numbers_from 1) (member_count plan)

first_settled : (plan : WorldPlan) → (world_of plan).settled ≡ []
unfolding first_world
first_settled plan = refl

pub scripts_restart_nobody : EventsKeepLives → ScriptsRestartNobody
scripts_restart_nobody k = record {
  lives = λ plan xs. lines_lives k (script_setting plan) (world_of plan) xs ∙ first_lives plan;
  settled = λ plan xs. lines_settled k (script_setting plan) (world_of plan) xs ∙ first_settled plan;
}
