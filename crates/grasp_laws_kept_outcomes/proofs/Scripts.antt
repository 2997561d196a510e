-- Each script with crashes has a run.
use Rattle.std.proofs.Common.{◌≡◌, ◌≤◌, ◌<◌, ◌⊎◌, inl, inr, refl, sym, ap, subst, arith, ℕ, ◌+◌, ◌-◌, ◌*◌, ◌^◌, List, [], ◌∷◌, ◌++◌, length, Option, None, Some}
use Rattle.std.specs.List.{AllByRecursion}
use Rattle.std.proofs.lemmas.Option.{none-some, same_Some}
use Rattle.grasp_laws_kept.proofs.First.{first_stands}
use Rattle.grasp_laws_kept.proofs.Runs.{stands_more, steps}
use Rattle.grasp_laws_kept.specs.Laws.{KeptStands}
use Rattle.grasp_laws_network.proofs.GoodPlans.{member_count, scripts_are_good}
use Rattle.grasp_laws_outcomes.specs.Scripts.{ScriptEventsFit, SomeText}
use Rattle.grasp_model_kept.specs.Runs.{IsKeptFit, KeptOverflows}
use Rattle.grasp_model_kept.specs.World.{KeptState}
use Rattle.grasp_model_kept.specs.declared.event.KeptEvent.{KeptEvent}
use Rattle.grasp_model_kept.specs.declared.event.KeptEvent.TheVariants as kept
use Rattle.grasp_model_network.specs.Plans.{IsGoodPlan, IsNode}
use Rattle.grasp_model_network.specs.Setting.{Setting, script_setting}
use Rattle.grasp_model_network.specs.Visits.{Choice, no_choice}
use Rattle.grasp_model_network.specs.declared.plan.WorldPlan.{WorldPlan}
use Rattle.grasp_model_script.specs.LineRuns.{placed_event}
use Rattle.grasp_model_script_kept.specs.Laws.{EachKeptRunIsSafe}
use Rattle.grasp_model_script_kept.specs.LineRuns.{KeptLineOverflows, KeptLineRun, MayHappen, MayRunKept, Oversends, act_event, after_kept_line, line_event, state_then}
use Rattle.grasp_model_script_kept.specs.ScriptRuns.{IsKeptRunText, KeepsReporting, KeepsTooMuch, KeptSendsTooMuch, MayRunAllKept, kept_lines_of, kept_of, kept_told_of, state_after}
use Rattle.grasp_script.specs.Acts.{IsAct}
use Rattle.grasp_script.specs.declared.line.LineAct.{LineAct}
use Rattle.grasp_script.specs.declared.line.LineAct.TheVariants as act
use Rattle.grasp_script_kept.specs.Lines.{IsKeptLine}
use Rattle.grasp_script_kept.specs.Scripts.{IsKeptScript}
use Rattle.grasp_script_kept.specs.declared.line.KeptLine.{KeptLine}
use Rattle.grasp_script_kept.specs.declared.line.KeptLine.TheVariants as line
use Rattle.grasp_laws_kept_outcomes.proofs.Events.{kept_events_come_out}
use Rattle.grasp_laws_kept_outcomes.specs.Events.{KeptComesOut}
use Rattle.grasp_laws_kept_outcomes.specs.Scripts.{KeptScriptEventsFit, KeptScriptsRun}

-- ---- which events may be asked for

crash_fits : (plan : WorldPlan) (node : ℕ) → IsNode plan.nodes node → IsNode (length (script_setting plan).members) node
unfolding script_setting
crash_fits plan node is = subst (λ (n : ℕ). IsNode n node) (sym (member_count plan)) is

act_fits : ScriptEventsFit → (plan : WorldPlan) (k : KeptState) (a : LineAct) (e : KeptEvent) → IsAct plan.nodes a → act_event k.world a ≡ Some e → IsKeptFit (script_setting plan) k e
act_fits fits plan k (act.Event x) e is same =
    subst (λ (y : KeptEvent). IsKeptFit (script_setting plan) k y) (same_Some (kept.Plain (placed_event k.world x)) e same) (fits plan k.world x is)
act_fits fits plan k (act.State node) e is same = absurd (none-some e same)

pub kept_script_events_fit : ScriptEventsFit → KeptScriptEventsFit
kept_script_events_fit fits plan k (line.Plain x) e is same = act_fits fits plan k x.act e is.ranges same
kept_script_events_fit fits plan k (line.Crash text node calls left) e is same =
    subst (λ (y : KeptEvent). IsKeptFit (script_setting plan) k y) (same_Some (kept.Crash node calls left) e same) (crash_fits plan node is.is_node)

-- ---- a line

record LineComes (s : Setting) (k : KeptState) (o : Option KeptEvent) : Type 0 where
  choice : Choice
  comes : MayHappen s k o choice

event_comes : (s : Setting) (k : KeptState) (most : ℕ) → KeptStands s most k → (o : Option KeptEvent) → ((e : KeptEvent) → o ≡ Some e → IsKeptFit s k e) → LineComes s k o ⊎ Oversends s k o
event_comes s k most stands None fit = inl (record { choice = no_choice; comes = tt })
event_comes s k most stands (Some e) fit = by (kept_events_come_out s k e stands.reached (fit e refl)) where
  by : KeptComesOut s k e ⊎ KeptOverflows s k e → LineComes s k (Some e) ⊎ Oversends s k (Some e)
  by (inl c) = inl (record { choice = c.choice; comes = c.occurs })
  by (inr o) = inr o

-- what stood stands after it
stands_then : (s : Setting) (k : KeptState) (most : ℕ) → KeptStands s most k → most + 2 < 2 ^ 64 - 1 → (o : Option KeptEvent) (c : Choice) → MayHappen s k o c → KeptStands s (most + 2) (state_then s k o c)
stands_then s k most stands below None c may = stands_more s k most (most + 2) (omega arith) stands
stands_then s k most stands below (Some e) c may = (steps s k most stands below e c may).then_stands

-- ---- lines

-- all of these lines run from here on
record LinesRun (s : Setting) (k : KeptState) (lines : List KeptLine) : Type 0 where
  run : List KeptLineRun
  is_run : kept_lines_of run ≡ lines
  short : length run ≤ length lines
  may_run : MayRunAllKept s k run

-- some of them do, and the next one sends too much
record LinesStop (s : Setting) (k : KeptState) (lines : List KeptLine) : Type 0 where
  run : List KeptLineRun
  next : KeptLine
  rest : List KeptLine
  is_run : kept_lines_of run ++ next ∷ rest ≡ lines
  short : length run ≤ length lines
  may_run : MayRunAllKept s k run
  overflows : KeptLineOverflows s (state_after s k run) next

run_on : (s : Setting) (k : KeptState) (x : KeptLine) (lines : List KeptLine) (c : Choice) → MayRunKept s k (record { line = x; choice = c })
    → LinesRun s (after_kept_line s k (record { line = x; choice = c })) lines ⊎ LinesStop s (after_kept_line s k (record { line = x; choice = c })) lines
    → LinesRun s k (x ∷ lines) ⊎ LinesStop s k (x ∷ lines)
unfolding MayRunAllKept state_after
run_on s k x lines c may (inl r) =
    let few = r.short in inl (record { run = record { line = x; choice = c } ∷ r.run; is_run = ap (λ (xs : List KeptLine). x ∷ xs) r.is_run; short = omega (arith, few); may_run = (may, r.may_run) })
run_on s k x lines c may (inr r) = let few = r.short in inr (record {
  run = record { line = x; choice = c } ∷ r.run;
  next = r.next;
  rest = r.rest;
  is_run = ap (λ (xs : List KeptLine). x ∷ xs) r.is_run;
  short = omega (arith, few);
  may_run = (may, r.may_run);
  overflows = r.overflows;
})

stop_here : (s : Setting) (k : KeptState) (x : KeptLine) (lines : List KeptLine) → KeptLineOverflows s k x → LinesStop s k (x ∷ lines)
unfolding MayRunAllKept state_after
stop_here s k x lines o = record { run = []; next = x; rest = lines; is_run = refl; short = omega arith; may_run = tt; overflows = o }

module _ (fits : ScriptEventsFit) (plan : WorldPlan) where
  abbrev s : Setting
  s = script_setting plan

  line_comes : (k : KeptState) (most : ℕ) (x : KeptLine) → KeptStands s most k → IsKeptLine plan.nodes x → LineComes s k (line_event k.world x) ⊎ KeptLineOverflows s k x
  line_comes k most x stands is = event_comes s k most stands (line_event k.world x) (λ e same. kept_script_events_fit fits plan k x e is same)

  lines_run : (k : KeptState) (most : ℕ) (lines : List KeptLine) → KeptStands s most k → most + 2 * length lines < 2 ^ 64 - 1 → AllByRecursion (IsKeptLine plan.nodes) lines
      → LinesRun (script_setting plan) k lines ⊎ LinesStop (script_setting plan) k lines
  unfolding MayRunAllKept
  lines_run k most [] stands below is = inl (record { run = []; is_run = refl; short = omega arith; may_run = tt })
  lines_run k most (x ∷ lines) stands below is =
      by (line_comes k most x stands is.0) (λ y more. lines_run y (most + 2) lines more (omega (arith, below)) is.1) where
        by : LineComes s k (line_event k.world x) ⊎ KeptLineOverflows s k x
            → ((y : KeptState) → KeptStands s (most + 2) y → LinesRun s y lines ⊎ LinesStop s y lines) → LinesRun s k (x ∷ lines) ⊎ LinesStop s k (x ∷ lines)
        by (inl c) more =
            run_on s k x lines c.choice c.comes
            (more (after_kept_line s k (record { line = x; choice = c.choice })) (stands_then s k most stands (omega (arith, below)) (line_event k.world x) c.choice c.comes))
        by (inr o) more = inr (stop_here s k x lines o)

-- ---- scripts

module _ (fits : ScriptEventsFit) (safe : EachKeptRunIsSafe) where
  -- the run of a script
  runs : (text : List ℕ) (plan : WorldPlan) (lines : List KeptLine) → IsKeptScript text plan lines → length lines < 2 ^ 32
      → LinesRun (script_setting plan) (kept_of plan) lines ⊎ LinesStop (script_setting plan) (kept_of plan) lines
  runs text plan lines x few = lines_run fits plan (kept_of plan) 0 lines (first_stands (script_setting plan) (scripts_are_good plan x.is_header.good)) (omega (arith, few)) x.meant

  text_of : (plan : WorldPlan) (lines : List KeptLine) → IsGoodPlan plan → length lines < 2 ^ 32 → LinesRun (script_setting plan) (kept_of plan) lines → SomeText (IsKeptRunText plan lines)
  text_of plan lines good few r =
      let short = r.short in (kept_told_of plan r.run, record { run = r.run; is_run = r.is_run; safely = safe plan r.run good (omega (arith, short, few)) r.may_run; told = refl })

  too_much : (plan : WorldPlan) (lines : List KeptLine) → IsGoodPlan plan → length lines < 2 ^ 32 → LinesStop (script_setting plan) (kept_of plan) lines → KeptSendsTooMuch plan lines
  too_much plan lines good few r =
      let short = r.short in record { run = r.run; line = r.next; rest = r.rest; is_run = r.is_run; safely = safe plan r.run good (omega (arith, short, few)) r.may_run; overflows = r.overflows }

  of_lines : (text : List ℕ) (plan : WorldPlan) (lines : List KeptLine) → IsKeptScript text plan lines → length lines < 2 ^ 32 → SomeText (IsKeptRunText plan lines) ⊎ KeptSendsTooMuch plan lines
  of_lines text plan lines x few = by (runs text plan lines x few) where
    by : LinesRun (script_setting plan) (kept_of plan) lines ⊎ LinesStop (script_setting plan) (kept_of plan) lines → SomeText (IsKeptRunText plan lines) ⊎ KeptSendsTooMuch plan lines
    by (inl r) = inl (text_of plan lines x.is_header.good few r)
    by (inr r) = inr (too_much plan lines x.is_header.good few r)

  of_texts : (text : List ℕ) (plan : WorldPlan) (lines : List KeptLine) → IsKeptScript text plan lines → length lines < 2 ^ 32 → SomeText (KeepsReporting text) ⊎ KeepsTooMuch text
  of_texts text plan lines x few = by (of_lines text plan lines x few) where
    by : SomeText (IsKeptRunText plan lines) ⊎ KeptSendsTooMuch plan lines → SomeText (KeepsReporting text) ⊎ KeepsTooMuch text
    by (inl t) = inl (t.0, record { plan = plan; lines = lines; script = x; run = t.1 })
    by (inr stops) = inr (record { plan = plan; lines = lines; script = x; stops = stops })

  pub kept_scripts_run : KeptScriptsRun
  kept_scripts_run = record { lines = of_lines; reports = of_texts; stopped = λ plan lines stops. (kept_told_of plan stops.run, record { stops = stops; told = refl }) }
