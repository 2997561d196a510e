-- What is counted of a run.
use Rattle.std.proofs.Common.{◌≡◌, ◌<◌, ◌≤◌, ◌+◌, ◌-◌, ◌^◌, refl, sym, subst, arith, ℕ, List, [], ◌∷◌, ◌++◌, length, length-append, take, drop, Some, Ok, Err}
use Rattle.std.proofs.lemmas.List.{append-nil, take_all}
use Rattle.std.specs.List.{slice_get}
use Rattle.grasp_text.proofs.Pushed.{one_pushed, some_pushed}
use Rattle.grasp_model_network.specs.Runs.{reports_from, world_of}
use Rattle.grasp_model_network.specs.Setting.{Setting, script_setting}
use Rattle.grasp_model_network.specs.Visits.{Choice, no_choice}
use Rattle.grasp_model_network.specs.World.{WorldState}
use Rattle.grasp_model_network.specs.declared.event.Event.{Event}
use Rattle.grasp_model_network.specs.declared.plan.WorldPlan.{WorldPlan}
use Rattle.grasp_model_network.specs.declared.report.Report.{Report}
use Rattle.grasp_model_network.specs.declared.report.WorldStop.{WorldStop}
use Rattle.grasp_model_network.specs.declared.report.WorldStop.TheVariants as stop
use Rattle.grasp_script.specs.declared.line.Line.{Line}
use Rattle.grasp_script.specs.declared.line.LineAct.{LineAct}
use Rattle.grasp_script.specs.declared.line.LineAct.TheVariants as act
use Rattle.grasp_script.specs.declared.script.Script.{Script}
use Rattle.grasp_model_script.proofs.MoreLines.{reports_more}
use Rattle.grasp_model_script.specs.LineRuns.{LineRun, placed_event}
use Rattle.grasp_simulator.specs.Contract.{Reported}
use Rattle.grasp_model_script.specs.ScriptRuns.{network_after, happenings_from}
use Rattle.grasp_model_script.specs.Summary.{reports_of}
use Rattle.grasp_simulator.specs.WorldStands.{WorldStands}
use Rattle.grasp_simulator.specs.declared.world.World.{World}
use Rattle.grasp_runner.specs.Lines.{MeetsLine, RunsEvent}
use Rattle.grasp_runner.specs.Passing.{IsReady}
use Rattle.grasp_runner.specs.Scripts.{IsRead, fault_of}
use Rattle.grasp_runner.specs.Tallies.{ActCounted, ActCounts, CanCount, CountsAct, CountsLines, HasCounted, IsTally, act_reports}
use Rattle.grasp_runner.specs.declared.fault.RunFault.{RunFault}
use Rattle.grasp_runner.specs.declared.fault.RunFault.TheVariants as fault
use Rattle.grasp_runner.specs.declared.tally.Tally.{Tally}
use Rattle.grasp_runner.proofs.Passed.{meets_next, nothing_run, run_next, stops_here, take_next}

pub ruleset pushes = (one_pushed, some_pushed)

-- ---- a line

-- what is reported of the event was counted
counted_report : (new : World) (s : Setting) (w : WorldState) (e : Event) (report : Report) (before after : Tally) → ((rs : List Report) → IsTally before rs → IsTally after (rs ++ report ∷ []))
    → Reported (WorldStands new) s w (placed_event w e) report → ActCounted new s w (act.Event e) before after
unfolding reports_from
counted_report new s w e report before after counts d = record {
  choice = d.choice;
  comes = d.occurs;
  stands = d.stands;
  counts = λ rs is. subst (λ (r : Report). IsTally after (rs ++ r ∷ [])) d.report_is (counts rs is);
}

count_event : (code new : World) (e : Event) (report : Report) (before after : Tally) → RunsEvent code new e (Ok report) → ((rs : List Report) → IsTally before rs → IsTally after (rs ++ report ∷ []))
    → CountsAct code new (act.Event e) before (Ok after)
count_event code new e report before after runs counts = λ s w met. counted_report new s w e report before after counts (runs.goes s w met)

pub event_counts : (code new : World) (a : LineAct) (e : Event) (report : Report) (before after : Tally) → a ≡ act.Event e → RunsEvent code new e (Ok report) → ((rs : List Report) → IsTally before rs → IsTally after (rs ++ report ∷ []))
    → CountsAct code new a before (Ok after)
event_counts code new a e report before after is runs counts = subst (λ (x : LineAct). CountsAct code new x before (Ok after)) (sym is) (count_event code new e report before after runs counts)

stop_counts : (code new : World) (e : Event) (before : Tally) (why : WorldStop) → RunsEvent code new e (Err why) → CountsAct code new (act.Event e) before (Err (fault_of why))
stop_counts code new e before stop.TooMuch runs = λ s w met. (runs.goes s w met).overflows
stop_counts code new e before stop.OutOfMemory runs = λ s w met. tt

-- the event stopped the network
pub event_halts : (code new : World) (a : LineAct) (e : Event) (before : Tally) (why : WorldStop) (f : RunFault) → a ≡ act.Event e → f ≡ fault_of why → RunsEvent code new e (Err why) → CountsAct code new a before (Err f)
event_halts code new a e before why f is same runs =
    subst (λ (x : LineAct). CountsAct code new x before (Err f)) (sym is) (subst (λ (x : RunFault). CountsAct code new (act.Event e) before (Err x)) (sym same) (stop_counts code new e before why runs))

-- a look is counted as nothing
look_counted : (code : World) (s : Setting) (w : WorldState) (node : ℕ) (t : Tally) → MeetsLine code s w (act.State node) → ActCounted code s w (act.State node) t t
unfolding reports_from
look_counted code s w node t met = record {
  choice = no_choice;
  comes = met.fit;
  stands = met.stands;
  counts = λ rs is. subst (IsTally t) (sym (append-nil rs)) is;
}

look_counts : (code : World) (node : ℕ) (t : Tally) → CountsAct code code (act.State node) t (Ok t)
look_counts code node t = λ s w met. look_counted code s w node t met

pub looks_count : (code : World) (a : LineAct) (node : ℕ) (t : Tally) → a ≡ act.State node → CountsAct code code a t (Ok t)
looks_count code a node t is = subst (λ (x : LineAct). CountsAct code code x t (Ok t)) (sym is) (look_counts code node t)

-- ---- the lines of a script

-- no line is reported more than once
act_few : (s : Setting) (w : WorldState) (a : LineAct) (c : Choice) → length (act_reports s w a c) ≤ 1
unfolding reports_from
act_few s w (act.Event e) c = omega arith
act_few s w (act.State node) c = omega arith

-- as far as it is counted, with no more reports than lines
pub record CountsFirst (plan : WorldPlan) (lines : List Line) (code : World) (tally : Tally) (count : ℕ) : Type 0 where
  pub counted : HasCounted plan lines code tally
  pub few : length (reports_of plan counted.run) ≤ count

nothing_reported : (plan : WorldPlan) → reports_of plan [] ≡ []
unfolding reports_from happenings_from
nothing_reported plan = refl

pub begin_counting : (script : Script) (code : World) (t : Tally) → IsReady code script → IsTally t [] → CountsFirst script.plan (take 0 script.lines) code t 0
begin_counting script code t h is = record {
  counted = record { run = []; has_run = nothing_run script.plan code h.opened; is = subst (IsTally t) (sym (nothing_reported script.plan)) is };
  few = subst (λ (rs : List Report). length rs ≤ 0) (sym (nothing_reported script.plan)) (omega arith);
}

pub can_count : (plan : WorldPlan) (lines : List Line) (code : World) (tally : Tally) (count : ℕ) → CountsFirst plan lines code tally count → count < 2 ^ 64 - 1 → CanCount tally
can_count plan lines code tally count h below = record { reports = reports_of plan h.counted.run; is = h.counted.is; few = let few : length (reports_of plan h.counted.run) ≤ count = h.few in omega (arith, few, below) }

reported_next : (plan : WorldPlan) (run : List LineRun) (line : Line) (c : Choice)
    → reports_of plan (run ++ record { line = line; choice = c } ∷ []) ≡ reports_of plan run ++ act_reports (script_setting plan) (network_after (script_setting plan) (world_of plan) run) line.act c
reported_next plan run line c = reports_more (script_setting plan) run (record { line = line; choice = c }) (world_of plan)

count_one : (script : Script) (code new : World) (i : ℕ) (line : Line) (before after : Tally) (h : CountsFirst script.plan (take i script.lines) code before i) → slice_get script.lines i ≡ Some line
    → ActCounted new (script_setting script.plan) (network_after (script_setting script.plan) (world_of script.plan) h.counted.run) line.act before after
    → CountsFirst script.plan (take i script.lines ++ line ∷ []) new after (i + 1)
count_one script code new i line before after h e d =
    let s : Setting = script_setting script.plan in
    let w : WorldState = network_after s (world_of script.plan) h.counted.run in
    let more : List Report = act_reports s w line.act d.choice in
    let few : length (reports_of script.plan h.counted.run) ≤ i = h.few in
    record {
      counted = record {
        run = h.counted.run ++ record { line = line; choice = d.choice } ∷ [];
        has_run = run_next script.plan (take i script.lines) code new h.counted.run line d.choice h.counted.has_run d.comes d.stands;
        is = subst (IsTally after) (sym (reported_next script.plan h.counted.run line d.choice)) (d.counts (reports_of script.plan h.counted.run) h.counted.is);
      };
      few = subst (λ (rs : List Report). length rs ≤ i + 1) (sym (reported_next script.plan h.counted.run line d.choice))
          (omega (arith, few, act_few s w line.act d.choice, length-append (reports_of script.plan h.counted.run) more));
    }

pub count_next : (script : Script) (code new : World) (i : ℕ) (line : Line) (before after : Tally) → IsRead script → CountsFirst script.plan (take i script.lines) code before i → slice_get script.lines i ≡ Some line
    → CountsAct code new line.act before (Ok after) → CountsFirst script.plan (take (i + 1) script.lines) new after (i + 1)
count_next script code new i line before after read h e counts =
    subst (λ (ls : List Line). CountsFirst script.plan ls new after (i + 1)) (sym (take_next script.lines i line e))
    (count_one script code new i line before after h e
    (counts (script_setting script.plan) (network_after (script_setting script.plan) (world_of script.plan) h.counted.run) (meets_next script code h.counted.run i line read h.counted.has_run e)))

pub all_counted : (script : Script) (code : World) (i : ℕ) (t : Tally) → CountsFirst script.plan (take i script.lines) code t i → length script.lines ≤ i → HasCounted script.plan script.lines code t
all_counted script code i t h all = subst (λ (ls : List Line). HasCounted script.plan ls code t) (take_all i script.lines all) h.counted

-- a line stopped the network
stopped_here : (script : Script) (code new : World) (i : ℕ) (line : Line) (before : Tally) (f : RunFault) (h : CountsFirst script.plan (take i script.lines) code before i) → slice_get script.lines i ≡ Some line
    → ActCounts new (script_setting script.plan) (network_after (script_setting script.plan) (world_of script.plan) h.counted.run) line.act before (Err f)
    → CountsLines script.plan script.lines new (Err f)
stopped_here script code new i line before fault.TooMuch h e d = record {
  run = h.counted.run;
  line = line;
  rest = drop (i + 1) script.lines;
  is_run = stops_here script code h.counted.run i line h.counted.has_run e;
  may_run = h.counted.has_run.may_run;
  overflows = d;
}
stopped_here script code new i line before fault.OutOfMemory h e d = tt
stopped_here script code new i line before fault.WriteFault h e d = d

pub count_stops : (script : Script) (code new : World) (i : ℕ) (line : Line) (before : Tally) (f : RunFault) → IsRead script → CountsFirst script.plan (take i script.lines) code before i → slice_get script.lines i ≡ Some line
    → CountsAct code new line.act before (Err f) → CountsLines script.plan script.lines new (Err f)
count_stops script code new i line before f read h e counts =
    stopped_here script code new i line before f h e
    (counts (script_setting script.plan) (network_after (script_setting script.plan) (world_of script.plan) h.counted.run) (meets_next script code h.counted.run i line read h.counted.has_run e))
