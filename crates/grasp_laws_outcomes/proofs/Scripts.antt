-- Each script has a run.
use Rattle.std.proofs.Common.{◌≡◌, ◌⊎◌, inl, inr, refl, sym, ap, ◌∙◌, subst, ℕ, List, [], ◌∷◌, ◌++◌, length}
use Rattle.std.specs.List.{AllByRecursion}
use Rattle.grasp_laws_network.proofs.GoodPlans.{member_count, plan_reached}
use Rattle.grasp_model_network.specs.Plans.{IsGoodPlan, IsNode}
use Rattle.grasp_model_network.specs.Runs.{IsReached, world_of}
use Rattle.grasp_model_network.specs.Setting.{Setting, script_setting}
use Rattle.grasp_model_network.specs.Visits.{Choice, no_choice}
use Rattle.grasp_model_network.specs.World.{WorldState}
use Rattle.grasp_model_network.specs.declared.plan.WorldPlan.{WorldPlan}
use Rattle.grasp_script.specs.Acts.{IsAct}
use Rattle.grasp_script.specs.Scripts.{IsItsLine, IsScript}
use Rattle.grasp_script.specs.declared.line.Line.{Line}
use Rattle.grasp_script.specs.declared.line.LineAct.{LineAct}
use Rattle.grasp_script.specs.declared.line.LineAct.TheVariants as act
use Rattle.grasp_model_script.proofs.RunLaws.{act_reached}
use Rattle.grasp_model_script.specs.Laws.{EachRunIsSafe}
use Rattle.grasp_model_script.specs.LineRuns.{LineRun, MayComeOut, MayRun, after_line, placed_event}
use Rattle.grasp_model_script.specs.ScriptRuns.{lines_of, MayRunAll, network_after, told_of, IsRunText, Replays}
use Rattle.grasp_model_script.specs.Stops.{LineOverflows, SendsTooMuch, IsStoppedText, TextSendsTooMuch}
use Rattle.grasp_model_script.specs.Summary.{summary_of, IsSummary}
use Rattle.grasp_laws_outcomes.proofs.Events.{events_come_out}
use Rattle.grasp_laws_outcomes.proofs.Fitting.{script_events_fit}
use Rattle.grasp_laws_outcomes.specs.Events.{ComesOut}
use Rattle.grasp_laws_outcomes.specs.Scripts.{SomeText, ScriptsRun}
use Rattle.grasp_model_network.specs.Events.{Overflows}

-- ---- a line

-- the line comes out, or sends too much
pub record LineComes (s : Setting) (w : WorldState) (a : LineAct) : Type 0 where
  pub choice : Choice
  pub comes : MayComeOut s w a choice

act_comes : (plan : WorldPlan) (w : WorldState) (a : LineAct) → IsReached (script_setting plan) w → IsAct plan.nodes a → LineComes (script_setting plan) w a ⊎ LineOverflows (script_setting plan) w a
unfolding script_setting
act_comes plan w (act.State node) r is = inl (record { choice = no_choice; comes = there }) where
  there : IsNode (length (script_setting plan).members) node
  there = subst (λ (k : ℕ). IsNode k node) (sym (member_count plan)) is
act_comes plan w (act.Event e) r is = by (events_come_out (script_setting plan) w (placed_event w e) r (script_events_fit plan w e is)) where
  by : ComesOut (script_setting plan) w (placed_event w e) ⊎ Overflows (script_setting plan) w (placed_event w e)
      → LineComes (script_setting plan) w (act.Event e) ⊎ LineOverflows (script_setting plan) w (act.Event e)
  by (inl c) = inl (record { choice = c.choice; comes = c.occurs })
  by (inr o) = inr o

-- ---- lines

-- all of these lines run from here on
pub record LinesRun (s : Setting) (w : WorldState) (lines : List Line) : Type 0 where
  pub run : List LineRun
  pub is_run : lines_of run ≡ lines
  pub may_run : MayRunAll s w run

-- some of them do, and the next one sends too much
pub record LinesStop (s : Setting) (w : WorldState) (lines : List Line) : Type 0 where
  pub run : List LineRun
  pub line : Line
  pub rest : List Line
  pub is_run : lines_of run ++ line ∷ rest ≡ lines
  pub may_run : MayRunAll s w run
  pub overflows : LineOverflows s (network_after s w run) line.act

run_on : (s : Setting) (w : WorldState) (line : Line) (lines : List Line) (c : Choice) → MayComeOut s w line.act c
    → LinesRun s (after_line s w (record { line = line; choice = c })) lines ⊎ LinesStop s (after_line s w (record { line = line; choice = c })) lines
    → LinesRun s w (line ∷ lines) ⊎ LinesStop s w (line ∷ lines)
unfolding MayRunAll network_after
run_on s w line lines c m (inl r) = inl (record { run = record { line = line; choice = c } ∷ r.run; is_run = ap (λ ls. line ∷ ls) r.is_run; may_run = (m, r.may_run) })
run_on s w line lines c m (inr r) = inr (record {
  run = record { line = line; choice = c } ∷ r.run;
  line = r.line;
  rest = r.rest;
  is_run = ap (λ ls. line ∷ ls) r.is_run;
  may_run = (m, r.may_run);
  overflows = r.overflows;
})

stop_here : (s : Setting) (w : WorldState) (line : Line) (lines : List Line) → LineOverflows s w line.act → LinesStop s w (line ∷ lines)
unfolding MayRunAll network_after
stop_here s w line lines o = record { run = []; line = line; rest = lines; is_run = refl; may_run = tt; overflows = o }

lines_run : (plan : WorldPlan) (w : WorldState) (lines : List Line) → IsReached (script_setting plan) w → AllByRecursion (IsItsLine plan.nodes) lines
    → LinesRun (script_setting plan) w lines ⊎ LinesStop (script_setting plan) w lines
unfolding MayRunAll
lines_run plan w [] r h = inl (record { run = []; is_run = refl; may_run = tt })
lines_run plan w (line ∷ lines) r h = by (act_comes plan w line.act r h.0.ranges) (λ x q. lines_run plan x lines q h.1) where
  by : LineComes (script_setting plan) w line.act ⊎ LineOverflows (script_setting plan) w line.act
      → ((x : WorldState) → IsReached (script_setting plan) x → LinesRun (script_setting plan) x lines ⊎ LinesStop (script_setting plan) x lines)
      → LinesRun (script_setting plan) w (line ∷ lines) ⊎ LinesStop (script_setting plan) w (line ∷ lines)
  by (inl c) more =
      run_on (script_setting plan) w line lines c.choice c.comes
      (more (after_line (script_setting plan) w (record { line = line; choice = c.choice })) (act_reached (script_setting plan) w line.act c.choice r c.comes))
  by (inr o) more = inr (stop_here (script_setting plan) w line lines o)

-- ---- scripts

-- the run of a script
runs : (text : List ℕ) (plan : WorldPlan) (lines : List Line) → IsScript text plan lines
    → LinesRun (script_setting plan) (world_of plan) lines ⊎ LinesStop (script_setting plan) (world_of plan) lines
runs text plan lines x = lines_run plan (world_of plan) lines (plan_reached plan x.is_header.good) x.meant

too_much : EachRunIsSafe → (plan : WorldPlan) (lines : List Line) → IsGoodPlan plan → LinesStop (script_setting plan) (world_of plan) lines → SendsTooMuch plan lines
too_much safe plan lines good r =
    record { run = r.run; line = r.line; rest = r.rest; is_run = r.is_run; safely = safe plan r.run good r.may_run; overflows = r.overflows }

text_of : EachRunIsSafe → (plan : WorldPlan) (lines : List Line) → IsGoodPlan plan → LinesRun (script_setting plan) (world_of plan) lines → SomeText (IsRunText plan lines)
text_of safe plan lines good r = (told_of plan r.run, record { run = r.run; is_run = r.is_run; safely = safe plan r.run good r.may_run; told = refl })

pub scripts_run : EachRunIsSafe → ScriptsRun
scripts_run safe = record { lines = of_lines; replays = of_texts; summaries = of_numbers; stopped = λ plan lines stops. (told_of plan stops.run, record { stops = stops; told = refl }) } where
  of_lines : (text : List ℕ) (plan : WorldPlan) (lines : List Line) → IsScript text plan lines → SomeText (IsRunText plan lines) ⊎ SendsTooMuch plan lines
  of_lines text plan lines x = by (runs text plan lines x) where
    by : LinesRun (script_setting plan) (world_of plan) lines ⊎ LinesStop (script_setting plan) (world_of plan) lines → SomeText (IsRunText plan lines) ⊎ SendsTooMuch plan lines
    by (inl r) = inl (text_of safe plan lines x.is_header.good r)
    by (inr r) = inr (too_much safe plan lines x.is_header.good r)

  of_texts : (text : List ℕ) (plan : WorldPlan) (lines : List Line) → IsScript text plan lines → SomeText (Replays text) ⊎ TextSendsTooMuch text
  of_texts text plan lines x = by (of_lines text plan lines x) where
    by : SomeText (IsRunText plan lines) ⊎ SendsTooMuch plan lines → SomeText (Replays text) ⊎ TextSendsTooMuch text
    by (inl t) = inl (t.0, record { plan = plan; lines = lines; script = x; run = t.1 })
    by (inr stops) = inr (record { plan = plan; lines = lines; script = x; stops = stops })

  of_numbers : (text : List ℕ) (number : ℕ) (plan : WorldPlan) (lines : List Line) → IsScript text plan lines → SomeText (IsSummary text number) ⊎ TextSendsTooMuch text
  of_numbers text number plan lines x = by (runs text plan lines x) where
    by : LinesRun (script_setting plan) (world_of plan) lines ⊎ LinesStop (script_setting plan) (world_of plan) lines → SomeText (IsSummary text number) ⊎ TextSendsTooMuch text
    by (inl r) = inl (summary_of number plan r.run, record { plan = plan; lines = lines; script = x; run = r.run; is_run = r.is_run; safely = safe plan r.run x.is_header.good r.may_run; told = refl })
    by (inr r) = inr (record { plan = plan; lines = lines; script = x; stops = too_much safe plan lines x.is_header.good r })
