-- What is written of the reports of lines while they run.
use Rattle.std.proofs.Common.{◌≡◌, ◌<◌, ◌≤◌, ◌+◌, ◌^◌, refl, sym, ap, ◌∙◌, subst, arith, ℕ, zero, suc, List, [], ◌∷◌, ◌++◌, append_assoc, length, length-append, take, drop, take-append-drop, Option, None, Some, Result, Ok, Err, OnOk, IfErr}
use Rattle.std.proofs.lemmas.List.{take_all, take_more}
use Rattle.std.proofs.lemmas.Option.{slice_get_within, get_or_from_slice_get}
use Rattle.std.specs.List.{slice_get, AllByRecursion}
use Rattle.grasp_io.specs.Known.{AppendsFront, Passes}
use Rattle.grasp_io.proofs.Streams.{passes_held, passes_more, passes_then_front}
use Rattle.grasp_model_network.specs.Setting.{Setting, script_setting}
use Rattle.grasp_model_network.specs.Visits.{Choice}
use Rattle.grasp_model_network.specs.declared.plan.WorldPlan.{WorldPlan}
use Rattle.grasp_model_network.specs.declared.report.WorldStop.{WorldStop}
use Rattle.grasp_model_network.specs.declared.report.WorldStop.TheVariants as stop
use Rattle.grasp_script_kept.specs.Lines.{IsKeptLine}
use Rattle.grasp_script_kept.specs.declared.line.KeptLine.{KeptLine}
use Rattle.grasp_script_kept.specs.declared.line.KeptLine.TheVariants as kept_line
use Rattle.grasp_script_kept.specs.declared.script.KeptScript.{KeptScript}
use Rattle.grasp_model_kept.specs.World.{KeptState}
use Rattle.grasp_kept.specs.Contract.{kept_network_of}
use Rattle.grasp_kept.specs.Stands.{KeptWorldStands, steps_of}
use Rattle.grasp_kept.specs.declared.kept_world.KeptWorld.{KeptWorld}
use Rattle.grasp_runner.specs.Scripts.{fault_of}
use Rattle.grasp_runner.specs.declared.fault.RunFault.{RunFault}
use Rattle.grasp_runner.specs.declared.fault.RunFault.TheVariants as fault
use Rattle.grasp_runner.proofs.Passed.{passes_front}
use Rattle.grasp_runner.proofs.Placing.{plan_members}
use Rattle.grasp_model_script_kept.specs.LineRuns.{KeptLineRun, MayHappen, line_event, state_then}
use Rattle.grasp_runner_kept.specs.Lines.{CanHave, CanRunKept, KeptLineReported, MeetsKeptLine, RunsKeptLine, kept_at}
use Rattle.grasp_runner_kept.specs.Passing.{AllWritten, HasRun, HasWritten, IsReady, LinePassed, LineBegun, LinePasses, PassesLine, WritesLines, ended_told}
use Rattle.grasp_model_script_kept.specs.ScriptRuns.{MayRunAllKept, kept_lines_of, kept_of, kept_told_from, kept_told_of, state_after}
use Rattle.grasp_runner_kept.specs.Scripts.{IsKeptRead}
use Rattle.grasp_model_script_kept.proofs.MoreLines.{lines_more, may_run_more, state_more, told_more}

-- ---- one line

-- the report was put into the buffer
pub line_put : (code new : KeptWorld) (line : KeptLine) (told : List ℕ) (a b : Option (List ℕ)) (held left : List ℕ) → RunsKeptLine code new line (Ok told) → Passes a b left (held ++ (told ++ 10 ∷ []))
    → (done : Unit {0}) → PassesLine code new line a held b left (Ok done)
line_put code new line told a b held left runs p done = λ s k met. put (runs s k met) where
  put : {s : Setting} {k : KeptState} → KeptLineReported new s k line told → LinePassed new s k line a held b left
  put d = record { choice = d.choice; comes = d.comes; stands = d.stands; passes = subst (λ (t : List ℕ). Passes a b left (held ++ (t ++ 10 ∷ []))) d.told_is p }

-- a write failed
pub line_cut : (code new : KeptWorld) (line : KeptLine) (told : List ℕ) (a b : Option (List ℕ)) (held left : List ℕ) (f : RunFault) → RunsKeptLine code new line (Ok told) → f ≡ fault.WriteFault
    → AppendsFront a b (held ++ (told ++ 10 ∷ [])) → PassesLine code new line a held b left (Err f)
line_cut code new line told a b held left f runs is p =
    subst (λ (x : RunFault). PassesLine code new line a held b left (Err x)) (sym is) (λ s k met. cut (runs s k met)) where
      cut : {s : Setting} {k : KeptState} → KeptLineReported new s k line told → LineBegun s k line a held b
      cut d = record { choice = d.choice; comes = d.comes; front = subst (λ (t : List ℕ). AppendsFront a b (held ++ (t ++ 10 ∷ []))) d.told_is p }

-- however it went
pub line_tried : (code new : KeptWorld) (line : KeptLine) (told : List ℕ) (a b : Option (List ℕ)) (held left : List ℕ) (r : Result (Unit {0}) RunFault) → RunsKeptLine code new line (Ok told)
    → OnOk r (Passes a b left (held ++ (told ++ 10 ∷ []))) → AppendsFront a b (held ++ (told ++ 10 ∷ [])) → IfErr r (λ f. f ≡ fault.WriteFault) → PassesLine code new line a held b left r
line_tried code new line told a b held left (Ok done) runs passed front stop = line_put code new line told a b held left runs passed done
line_tried code new line told a b held left (Err f) runs passed front stop = line_cut code new line told a b held left f runs stop front

-- the line stopped the network
line_stops : (code new : KeptWorld) (line : KeptLine) (a : Option (List ℕ)) (held : List ℕ) (why : WorldStop) → RunsKeptLine code new line (Err why) → PassesLine code new line a held a held (Err (fault_of why))
line_stops code new line a held stop.TooMuch runs = λ s k met. record { overflows = (runs s k met).overflows; written = refl; left_is = refl }
line_stops code new line a held stop.OutOfMemory runs = λ s k met. refl

pub line_stopped : (code new : KeptWorld) (line : KeptLine) (a : Option (List ℕ)) (held : List ℕ) (why : WorldStop) (f : RunFault) → RunsKeptLine code new line (Err why) → f ≡ fault_of why → PassesLine code new line a held a held (Err f)
line_stopped code new line a held why f runs is = subst (λ (x : RunFault). PassesLine code new line a held a held (Err x)) (sym is) (line_stops code new line a held why runs)

-- ---- the lines of a script

its_line : (nodes : ℕ) (lines : List KeptLine) (i : ℕ) (line : KeptLine) → AllByRecursion (IsKeptLine nodes) lines → slice_get lines i ≡ Some line → IsKeptLine nodes line
its_line nodes [] i line all e = absurd cc
its_line nodes (x ∷ xs) zero line all e =
    let same : x ≡ line = cc in
    subst (IsKeptLine nodes) same all.0
its_line nodes (x ∷ xs) (suc i) line all e = its_line nodes xs i line all.1 e

can_have : (nodes : ℕ) (x : KeptLine) → IsKeptLine nodes x → CanHave nodes x
can_have nodes (kept_line.Plain x) h = h.ranges
can_have nodes (kept_line.Crash text node calls left) h = h.is_node

pub line_there : (lines : List KeptLine) (i : ℕ) → i < length lines → slice_get lines i ≡ None → ⊥
line_there [] i few e = absurd (omega (arith, few))
line_there (x ∷ xs) zero few e = absurd (cc e)
line_there (x ∷ xs) (suc i) few e = line_there xs i (omega (arith, few)) e

pub take_next : (lines : List KeptLine) (i : ℕ) (line : KeptLine) → slice_get lines i ≡ Some line → take (i + 1) lines ≡ take i lines ++ line ∷ []
take_next lines i line e = take_more lines i line (slice_get_within lines i line e) ∙ ap (λ (l : KeptLine). take i lines ++ l ∷ []) (get_or_from_slice_get lines i line line e)

-- the code goes on for the network after these lines, in which the script's next line can be run
pub meets_next : (script : KeptScript) (code : KeptWorld) (run : List KeptLineRun) (i : ℕ) (line : KeptLine) → IsKeptRead script → HasRun script.plan (take i script.lines) code run → slice_get script.lines i ≡ Some line
    → MeetsKeptLine code (script_setting script.plan) (state_after (script_setting script.plan) (kept_of script.plan) run) line
meets_next script code run i line read h e =
    record {
      stands = h.stands;
      fit = subst (λ (n : ℕ). CanHave n line) (sym (plan_members script.plan)) (can_have script.plan.nodes line (its_line script.plan.nodes script.lines i line read.1.meant e));
    }

pub can_run_next : (script : KeptScript) (code : KeptWorld) (run : List KeptLineRun) (i : ℕ) (line : KeptLine) → IsKeptRead script → HasRun script.plan (take i script.lines) code run → slice_get script.lines i ≡ Some line
    → CanRunKept code line
can_run_next script code run i line read h e = record {
  setting = script_setting script.plan;
  state = state_after (script_setting script.plan) (kept_of script.plan) run;
  meets = meets_next script code run i line read h e;
}

-- one line more was run
pub run_next : (plan : WorldPlan) (lines : List KeptLine) (code new : KeptWorld) (run : List KeptLineRun) (line : KeptLine) (c : Choice) → HasRun plan lines code run
    → MayHappen (script_setting plan) (state_after (script_setting plan) (kept_of plan) run) (line_event (state_after (script_setting plan) (kept_of plan) run).world line) c
    → steps_of new ≤ steps_of code + 1
    → KeptWorldStands new (kept_at (script_setting plan) (state_then (script_setting plan) (state_after (script_setting plan) (kept_of plan) run) (line_event (state_after (script_setting plan) (kept_of plan) run).world line) c))
    → HasRun plan (lines ++ line ∷ []) new (run ++ record { line = line; choice = c } ∷ [])
run_next plan lines code new run line c h comes counts stands =
    let s : Setting = script_setting plan in
    let x : KeptLineRun = record { line = line; choice = c } in
    record {
      is_run = lines_more run x ∙ ap (λ (ls : List KeptLine). ls ++ line ∷ []) h.is_run;
      may_run = may_run_more s run x (kept_of plan) h.may_run comes;
      steps = omega (arith, counts, h.steps, length-append lines (line ∷ []));
      stands = subst (λ (k : KeptState). KeptWorldStands new (kept_at s k)) (sym (state_more s run x (kept_of plan))) stands;
    }

told_next : (plan : WorldPlan) (run : List KeptLineRun) (line : KeptLine) (c : Choice)
    → kept_told_of plan (run ++ record { line = line; choice = c } ∷ []) ≡ kept_told_of plan run ++ ended_told (script_setting plan) (state_after (script_setting plan) (kept_of plan) run) line c
told_next plan run line c = told_more (script_setting plan) run (record { line = line; choice = c }) (kept_of plan)

passes_next : (plan : WorldPlan) (run : List KeptLineRun) (line : KeptLine) (c : Choice) (start now later : Option (List ℕ)) (held left : List ℕ) → Passes start now held (kept_told_of plan run)
    → Passes now later left (held ++ ended_told (script_setting plan) (state_after (script_setting plan) (kept_of plan) run) line c)
    → Passes start later left (kept_told_of plan (run ++ record { line = line; choice = c } ∷ []))
passes_next plan run line c start now later held left p q =
    subst (Passes start later left) (sym (told_next plan run line c))
    (passes_more start now later held (kept_told_of plan run) left (ended_told (script_setting plan) (state_after (script_setting plan) (kept_of plan) run) line c) p q)

front_next : (plan : WorldPlan) (run : List KeptLineRun) (line : KeptLine) (c : Choice) (start now later : Option (List ℕ)) (held : List ℕ) → Passes start now held (kept_told_of plan run)
    → AppendsFront now later (held ++ ended_told (script_setting plan) (state_after (script_setting plan) (kept_of plan) run) line c)
    → AppendsFront start later (kept_told_of plan (run ++ record { line = line; choice = c } ∷ []))
front_next plan run line c start now later held p q =
    subst (AppendsFront start later) (sym (told_next plan run line c))
    (passes_then_front start now later held (kept_told_of plan run) (ended_told (script_setting plan) (state_after (script_setting plan) (kept_of plan) run) line c) p q)

-- ---- the loop

pub nothing_run : (plan : WorldPlan) (code : KeptWorld) → steps_of code ≡ 0 → KeptWorldStands code (kept_network_of plan) → HasRun plan [] code []
unfolding MayRunAllKept state_after
nothing_run plan code none h = record { is_run = refl; may_run = tt; steps = omega (arith, none); stands = h }

nothing_told : (plan : WorldPlan) → kept_told_of plan [] ≡ []
unfolding kept_told_from
nothing_told plan = refl

-- before the first line
pub begin_writing : (script : KeptScript) (code : KeptWorld) (start : Option (List ℕ)) (held : List ℕ) → IsReady code script → held ≡ [] → HasWritten script.plan (take 0 script.lines) code start start held
begin_writing script code start held h none = record {
  run = [];
  has_run = nothing_run script.plan code h.none_made h.opened;
  passes = subst (λ (t : List ℕ). Passes start start held t) (none ∙ sym (nothing_told script.plan)) (passes_held start held);
}

-- after one more
pub write_next : (script : KeptScript) (code new : KeptWorld) (i : ℕ) (line : KeptLine) (start now later : Option (List ℕ)) (held left : List ℕ) → IsKeptRead script → HasWritten script.plan (take i script.lines) code start now held
    → slice_get script.lines i ≡ Some line → steps_of new ≤ steps_of code + 1 → (done : Unit {0}) → PassesLine code new line now held later left (Ok done) → HasWritten script.plan (take (i + 1) script.lines) new start later left
write_next script code new i line start now later held left read h e counts done passes =
    subst (λ (ls : List KeptLine). HasWritten script.plan ls new start later left) (sym (take_next script.lines i line e))
    (written (passes (script_setting script.plan) (state_after (script_setting script.plan) (kept_of script.plan) h.run) (meets_next script code h.run i line read h.has_run e))) where
      written : LinePassed new (script_setting script.plan) (state_after (script_setting script.plan) (kept_of script.plan) h.run) line now held later left
          → HasWritten script.plan (take i script.lines ++ line ∷ []) new start later left
      written d = record {
        run = h.run ++ record { line = line; choice = d.choice } ∷ [];
        has_run = run_next script.plan (take i script.lines) code new h.run line d.choice h.has_run d.comes counts d.stands;
        passes = passes_next script.plan h.run line d.choice start now later held left h.passes d.passes;
      }

-- there are few steps before a line
pub few_steps : (script : KeptScript) (code : KeptWorld) (i : ℕ) (run : List KeptLineRun) → length script.lines < 2 ^ 32 → HasRun script.plan (take i script.lines) code run → steps_of code < 2 ^ 32
few_steps script code i run few h = omega (arith, few, h.steps, length-append (take i script.lines) (drop i script.lines), ap (λ (l : List KeptLine). length l) (take-append-drop i script.lines))

-- after all
pub all_written : (script : KeptScript) (code : KeptWorld) (i : ℕ) (start now : Option (List ℕ)) (held : List ℕ) → HasWritten script.plan (take i script.lines) code start now held → length script.lines ≤ i
    → AllWritten script.plan script.lines start now held
all_written script code i start now held h all =
    record { run = h.run; is_run = h.has_run.is_run ∙ take_all i script.lines all; may_run = h.has_run.may_run; passes = h.passes }

-- ---- where a line isn't written

split_lines : (lines : List KeptLine) (i : ℕ) (line : KeptLine) → slice_get lines i ≡ Some line → take i lines ++ line ∷ drop (i + 1) lines ≡ lines
split_lines lines i line e =
    sym (append_assoc (take i lines) (line ∷ []) (drop (i + 1) lines)) ∙ ap (λ (ls : List KeptLine). ls ++ drop (i + 1) lines) (sym (take_next lines i line e)) ∙ take-append-drop (i + 1) lines

pub stops_here : (script : KeptScript) (code : KeptWorld) (run : List KeptLineRun) (i : ℕ) (line : KeptLine) → HasRun script.plan (take i script.lines) code run → slice_get script.lines i ≡ Some line
    → kept_lines_of run ++ line ∷ drop (i + 1) script.lines ≡ script.lines
stops_here script code run i line h e = ap (λ (ls : List KeptLine). ls ++ line ∷ drop (i + 1) script.lines) h.is_run ∙ split_lines script.lines i line e

fault_written : (script : KeptScript) (code new : KeptWorld) (i : ℕ) (line : KeptLine) (start now later : Option (List ℕ)) (held left : List ℕ) (f : RunFault)
    → slice_get script.lines i ≡ Some line → (h : HasWritten script.plan (take i script.lines) code start now held)
    → LinePasses new (script_setting script.plan) (state_after (script_setting script.plan) (kept_of script.plan) h.run) line now held later left (Err f)
    → WritesLines script.plan script.lines start later left (Err f)
fault_written script code new i line start now later held left fault.TooMuch e h d = record {
  stops = record {
    run = h.run;
    line = line;
    rest = drop (i + 1) script.lines;
    is_run = stops_here script code h.run i line h.has_run e;
    may_run = h.has_run.may_run;
    overflows = d.overflows;
  };
  passes = subst (λ (t : Option (List ℕ)). Passes start t left (kept_told_of script.plan h.run)) (sym d.written) (subst (λ (l : List ℕ). Passes start now l (kept_told_of script.plan h.run)) (sym d.left_is) h.passes);
}
fault_written script code new i line start now later held left fault.OutOfMemory e h d = record {
  run = h.run;
  rest = line ∷ drop (i + 1) script.lines;
  is_run = stops_here script code h.run i line h.has_run e;
  may_run = h.has_run.may_run;
  front = subst (λ (t : Option (List ℕ)). AppendsFront start t (kept_told_of script.plan h.run)) (sym d) (passes_front start now held (kept_told_of script.plan h.run) h.passes);
}
fault_written script code new i line start now later held left fault.WriteFault e h d =
    let x : KeptLineRun = record { line = line; choice = d.choice } in
    record {
      run = h.run ++ x ∷ [];
      rest = drop (i + 1) script.lines;
      is_run = ap (λ (ls : List KeptLine). ls ++ drop (i + 1) script.lines) (lines_more h.run x ∙ ap (λ (ls : List KeptLine). ls ++ line ∷ []) h.has_run.is_run)
          ∙ append_assoc (take i script.lines) (line ∷ []) (drop (i + 1) script.lines) ∙ split_lines script.lines i line e;
      may_run = may_run_more (script_setting script.plan) h.run x (kept_of script.plan) h.has_run.may_run d.comes;
      front = front_next script.plan h.run line d.choice start now later held h.passes d.front;
    }

pub faults_written : (script : KeptScript) (code new : KeptWorld) (i : ℕ) (line : KeptLine) (start now later : Option (List ℕ)) (held left : List ℕ) (f : RunFault) → IsKeptRead script
    → HasWritten script.plan (take i script.lines) code start now held → slice_get script.lines i ≡ Some line → PassesLine code new line now held later left (Err f)
    → WritesLines script.plan script.lines start later left (Err f)
faults_written script code new i line start now later held left f read h e passes =
    fault_written script code new i line start now later held left f e h
    (passes (script_setting script.plan) (state_after (script_setting script.plan) (kept_of script.plan) h.run) (meets_next script code h.run i line read h.has_run e))
