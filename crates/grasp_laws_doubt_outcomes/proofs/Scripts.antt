-- Each script of doubters has a run.
use Rattle.std.proofs.Common.{◌≡◌, ◌⊎◌, inl, inr, refl, ap, ℕ, List, [], ◌∷◌, ◌++◌, Option, None, Some}
use Rattle.std.specs.List.{AllByRecursion}
use Rattle.grasp_laws_outcomes.specs.Scripts.{SomeText}
use Rattle.grasp_model_doubts.specs.Events.{DoubtMayStop, IsDoubtFit}
use Rattle.grasp_model_doubts.specs.Runs.{IsDoubted}
use Rattle.grasp_model_doubts.specs.World.{DoubtState}
use Rattle.grasp_model_doubts.specs.declared.event.DoubtEvent.{DoubtEvent}
use Rattle.grasp_model_network.specs.Plans.{IsGoodPlan}
use Rattle.grasp_model_network.specs.Setting.{Setting, script_setting}
use Rattle.grasp_model_network.specs.Visits.{Choice, no_choice}
use Rattle.grasp_model_network.specs.declared.plan.WorldPlan.{WorldPlan}
use Rattle.grasp_model_network.specs.declared.report.WorldStop.TheVariants.{TooMuch}
use Rattle.grasp_model_script_doubts.proofs.Safely.{first_led, led_further}
use Rattle.grasp_model_script_doubts.specs.Laws.{EachDoubtRunIsSafe}
use Rattle.grasp_model_script_doubts.specs.LineRuns.{DoubtLineOverflows, DoubtLineRun, MayHappen, MayRunDoubts, Oversends, act_event, after_doubt_line, state_then}
use Rattle.grasp_model_script_doubts.specs.ScriptRuns.{DoubtsSendTooMuch, IsDoubtRunText, MayRunAllDoubts, Resolves, ResolvesTooMuch, doubt_lines_of, doubt_told_of, doubts_of, state_after}
use Rattle.grasp_script_doubts.specs.Lines.{IsDoubtAct}
use Rattle.grasp_script_doubts.specs.Scripts.{IsDoubtScript, IsItsDoubtLine}
use Rattle.grasp_script_doubts.specs.declared.line.DoubtLine.{DoubtLine}
use Rattle.grasp_script_doubts.specs.declared.line.DoubtLineAct.{DoubtLineAct}
use Rattle.grasp_laws_doubt_outcomes.specs.Events.{DoubtComesOut, DoubtEventsComeOut}
use Rattle.grasp_laws_doubt_outcomes.specs.Scripts.{DoubtScriptEventsFit, DoubtScriptsRun}

-- ---- a line

record LineComes (s : Setting) (x : DoubtState) (o : Option DoubtEvent) : Type 0 where
  choice : Choice
  comes : MayHappen s x o choice

event_comes : DoubtEventsComeOut → (s : Setting) (x : DoubtState) → IsDoubted s x → (o : Option DoubtEvent) → ((e : DoubtEvent) → o ≡ Some e → IsDoubtFit s x e) → LineComes s x o ⊎ Oversends s x o
event_comes come s x h None fit = inl (record { choice = no_choice; comes = tt })
event_comes come s x h (Some e) fit = by (come s x e h (fit e refl)) where
  by : DoubtComesOut s x e ⊎ DoubtMayStop s x e TooMuch → LineComes s x (Some e) ⊎ Oversends s x (Some e)
  by (inl c) = inl (record { choice = c.choice; comes = c.occurs })
  by (inr o) = inr o

-- events lead on behind it
led_then : (s : Setting) (x : DoubtState) → IsDoubted s x → (o : Option DoubtEvent) (c : Choice) → MayHappen s x o c → IsDoubted s (state_then s x o c)
led_then s x h None c may = h
led_then s x h (Some e) c may = led_further s x e c h may

-- ---- lines

-- all of these lines run from here on
record LinesRun (s : Setting) (x : DoubtState) (lines : List DoubtLine) : Type 0 where
  run : List DoubtLineRun
  is_run : doubt_lines_of run ≡ lines
  may_run : MayRunAllDoubts s x run

-- some of them do, and the next one sends too much
record LinesStop (s : Setting) (x : DoubtState) (lines : List DoubtLine) : Type 0 where
  run : List DoubtLineRun
  next : DoubtLine
  rest : List DoubtLine
  is_run : doubt_lines_of run ++ next ∷ rest ≡ lines
  may_run : MayRunAllDoubts s x run
  overflows : DoubtLineOverflows s (state_after s x run) next.act

run_on : (s : Setting) (x : DoubtState) (l : DoubtLine) (lines : List DoubtLine) (c : Choice) → MayRunDoubts s x (record { line = l; choice = c })
    → LinesRun s (after_doubt_line s x (record { line = l; choice = c })) lines ⊎ LinesStop s (after_doubt_line s x (record { line = l; choice = c })) lines
    → LinesRun s x (l ∷ lines) ⊎ LinesStop s x (l ∷ lines)
unfolding MayRunAllDoubts state_after
run_on s x l lines c may (inl r) = inl (record { run = record { line = l; choice = c } ∷ r.run; is_run = ap (λ (ls : List DoubtLine). l ∷ ls) r.is_run; may_run = (may, r.may_run) })
run_on s x l lines c may (inr r) = inr (record {
  run = record { line = l; choice = c } ∷ r.run;
  next = r.next;
  rest = r.rest;
  is_run = ap (λ (ls : List DoubtLine). l ∷ ls) r.is_run;
  may_run = (may, r.may_run);
  overflows = r.overflows;
})

stop_here : (s : Setting) (x : DoubtState) (l : DoubtLine) (lines : List DoubtLine) → DoubtLineOverflows s x l.act → LinesStop s x (l ∷ lines)
unfolding MayRunAllDoubts state_after
stop_here s x l lines o = record { run = []; next = l; rest = lines; is_run = refl; may_run = tt; overflows = o }

module _ (come : DoubtEventsComeOut) (fits : DoubtScriptEventsFit) (plan : WorldPlan) where
  abbrev s : Setting
  s = script_setting plan

  line_comes : (x : DoubtState) (a : DoubtLineAct) → IsDoubted s x → IsDoubtAct plan.nodes a → LineComes s x (act_event x.world a) ⊎ DoubtLineOverflows s x a
  line_comes x a h is = event_comes come s x h (act_event x.world a) (λ e same. fits plan x a e is same)

  lines_run : (x : DoubtState) (lines : List DoubtLine) → IsDoubted s x → AllByRecursion (IsItsDoubtLine plan.nodes) lines → LinesRun (script_setting plan) x lines ⊎ LinesStop (script_setting plan) x lines
  unfolding MayRunAllDoubts
  lines_run x [] h is = inl (record { run = []; is_run = refl; may_run = tt })
  lines_run x (l ∷ lines) h is = by (line_comes x l.act h is.0.ranges) (λ y more. lines_run y lines more is.1) where
    by : LineComes s x (act_event x.world l.act) ⊎ DoubtLineOverflows s x l.act
        → ((y : DoubtState) → IsDoubted s y → LinesRun s y lines ⊎ LinesStop s y lines) → LinesRun s x (l ∷ lines) ⊎ LinesStop s x (l ∷ lines)
    by (inl c) more =
        run_on s x l lines c.choice c.comes
        (more (after_doubt_line s x (record { line = l; choice = c.choice })) (led_then s x h (act_event x.world l.act) c.choice c.comes))
    by (inr o) more = inr (stop_here s x l lines o)

-- ---- scripts

module _ (come : DoubtEventsComeOut) (fits : DoubtScriptEventsFit) (safe : EachDoubtRunIsSafe) where
  -- the run of a script
  runs : (text : List ℕ) (plan : WorldPlan) (lines : List DoubtLine) → IsDoubtScript text plan lines
      → LinesRun (script_setting plan) (doubts_of plan) lines ⊎ LinesStop (script_setting plan) (doubts_of plan) lines
  runs text plan lines x = lines_run come fits plan (doubts_of plan) lines (first_led plan x.is_header.good) x.meant

  text_of : (plan : WorldPlan) (lines : List DoubtLine) → IsGoodPlan plan → LinesRun (script_setting plan) (doubts_of plan) lines → SomeText (IsDoubtRunText plan lines)
  text_of plan lines good r = (doubt_told_of plan r.run, record { run = r.run; is_run = r.is_run; safely = safe plan r.run good r.may_run; told = refl })

  too_much : (plan : WorldPlan) (lines : List DoubtLine) → IsGoodPlan plan → LinesStop (script_setting plan) (doubts_of plan) lines → DoubtsSendTooMuch plan lines
  too_much plan lines good r = record { run = r.run; line = r.next; rest = r.rest; is_run = r.is_run; safely = safe plan r.run good r.may_run; overflows = r.overflows }

  of_lines : (text : List ℕ) (plan : WorldPlan) (lines : List DoubtLine) → IsDoubtScript text plan lines → SomeText (IsDoubtRunText plan lines) ⊎ DoubtsSendTooMuch plan lines
  of_lines text plan lines x = by (runs text plan lines x) where
    by : LinesRun (script_setting plan) (doubts_of plan) lines ⊎ LinesStop (script_setting plan) (doubts_of plan) lines → SomeText (IsDoubtRunText plan lines) ⊎ DoubtsSendTooMuch plan lines
    by (inl r) = inl (text_of plan lines x.is_header.good r)
    by (inr r) = inr (too_much plan lines x.is_header.good r)

  of_texts : (text : List ℕ) (plan : WorldPlan) (lines : List DoubtLine) → IsDoubtScript text plan lines → SomeText (Resolves text) ⊎ ResolvesTooMuch text
  of_texts text plan lines x = by (of_lines text plan lines x) where
    by : SomeText (IsDoubtRunText plan lines) ⊎ DoubtsSendTooMuch plan lines → SomeText (Resolves text) ⊎ ResolvesTooMuch text
    by (inl t) = inl (t.0, record { plan = plan; lines = lines; script = x; run = t.1 })
    by (inr stops) = inr (record { plan = plan; lines = lines; script = x; stops = stops })

  pub doubt_scripts_run : DoubtScriptsRun
  doubt_scripts_run = record { lines = of_lines; reports = of_texts; stopped = λ plan lines stops. (doubt_told_of plan stops.run, record { stops = stops; told = refl }) }
