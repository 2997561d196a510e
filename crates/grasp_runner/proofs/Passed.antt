-- What is written of the reports of lines while they run.
use Rattle.std.proofs.Common.{◌≡◌, ◌<◌, ◌≤◌, ◌+◌, refl, sym, ap, ◌∙◌, subst, arith, ℕ, zero, suc, List, [], ◌∷◌, ◌++◌, append_assoc, length, take, drop, take-append-drop, Option, None, Some, Result, Ok, Err, OnOk, IfErr}
use Rattle.std.proofs.lemmas.List.{take_all, take_more}
use Rattle.std.proofs.lemmas.Option.{slice_get_within, get_or_from_slice_get}
use Rattle.std.specs.List.{slice_get, AllByRecursion}
use Rattle.grasp_io.specs.Known.{AppendsFront, Passes}
use Rattle.grasp_io.proofs.Streams.{passes_held, passes_more, passes_then_front}
use Rattle.grasp_model_network.specs.Runs.{world_of}
use Rattle.grasp_model_network.specs.Setting.{Setting, script_setting}
use Rattle.grasp_model_network.specs.Visits.{Choice}
use Rattle.grasp_model_network.specs.World.{WorldState}
use Rattle.grasp_model_network.specs.declared.plan.WorldPlan.{WorldPlan}
use Rattle.grasp_model_network.specs.declared.report.WorldStop.{WorldStop}
use Rattle.grasp_model_network.specs.declared.report.WorldStop.TheVariants as stop
use Rattle.grasp_script.specs.Acts.{IsAct}
use Rattle.grasp_script.specs.Scripts.{IsItsLine}
use Rattle.grasp_script.specs.declared.line.Line.{Line}
use Rattle.grasp_script.specs.declared.script.Script.{Script}
use Rattle.grasp_model_script.proofs.MoreLines.{lines_more, may_run_more, network_more, told_more}
use Rattle.grasp_model_script.specs.LineRuns.{LineRun, MayComeOut, after_act}
use Rattle.grasp_model_script.specs.ScriptRuns.{MayRunAll, lines_of, network_after, told_from, told_of}
use Rattle.grasp_simulator.specs.Contract.{going, network_of}
use Rattle.grasp_simulator.specs.WorldStands.{WorldStands}
use Rattle.grasp_simulator.specs.declared.world.World.{World}
use Rattle.grasp_runner.specs.Lines.{CanRunLine, LineReported, MeetsLine, RunsLine, network_at}
use Rattle.grasp_runner.specs.Passing.{AllWritten, HasRun, HasWritten, IsReady, LinePassed, LineBegun, LinePasses, PassesLine, WritesLines, ended_told}
use Rattle.grasp_runner.specs.Scripts.{IsRead, fault_of}
use Rattle.grasp_runner.specs.declared.fault.RunFault.{RunFault}
use Rattle.grasp_runner.specs.declared.fault.RunFault.TheVariants as fault
use Rattle.grasp_runner.proofs.Placing.{plan_members}

-- ---- a report and its end, in two pieces

two_pieces : (old line spelled : List ℕ) → line ≡ spelled → (old ++ line) ++ 10 ∷ [] ≡ old ++ (spelled ++ 10 ∷ [])
two_pieces old line spelled e = append_assoc old line (10 ∷ []) ∙ ap (λ (l : List ℕ). old ++ (l ++ 10 ∷ [])) e

pub line_passes : (a b c : Option (List ℕ)) (old held later line spelled : List ℕ) → line ≡ spelled → Passes a b held (old ++ line) → Passes b c later (held ++ 10 ∷ [])
    → Passes a c later (old ++ (spelled ++ 10 ∷ []))
line_passes a b c old held later line spelled e p q = subst (Passes a c later) (two_pieces old line spelled e) (passes_more a b c held (old ++ line) later (10 ∷ []) p q)

pub line_front : (a b c : Option (List ℕ)) (old held line spelled : List ℕ) → line ≡ spelled → Passes a b held (old ++ line) → AppendsFront b c (held ++ 10 ∷ [])
    → AppendsFront a c (old ++ (spelled ++ 10 ∷ []))
line_front a b c old held line spelled e p q = subst (AppendsFront a c) (two_pieces old line spelled e) (passes_then_front a b c held (old ++ line) (10 ∷ []) p q)

-- ---- one line

-- the report was put into the buffer
pub line_put : (code new : World) (line : Line) (told : List ℕ) (a b : Option (List ℕ)) (held left : List ℕ) → RunsLine code new line (Ok told) → Passes a b left (held ++ (told ++ 10 ∷ []))
    → (done : Unit {0}) → PassesLine code new line a held b left (Ok done)
line_put code new line told a b held left runs p done = λ s w met. put (runs.answers s w met) where
  put : {s : Setting} {w : WorldState} → LineReported new s w line.text line.act told → LinePassed new s w line a held b left
  put d = record { choice = d.choice; comes = d.comes; stands = d.stands; passes = subst (λ (t : List ℕ). Passes a b left (held ++ (t ++ 10 ∷ []))) d.told_is p }

-- a write failed
pub line_cut : (code new : World) (line : Line) (told : List ℕ) (a b : Option (List ℕ)) (held left : List ℕ) (f : RunFault) → RunsLine code new line (Ok told) → f ≡ fault.WriteFault
    → AppendsFront a b (held ++ (told ++ 10 ∷ [])) → PassesLine code new line a held b left (Err f)
line_cut code new line told a b held left f runs is p =
    subst (λ (x : RunFault). PassesLine code new line a held b left (Err x)) (sym is) (λ s w met. cut (runs.answers s w met)) where
      cut : {s : Setting} {w : WorldState} → LineReported new s w line.text line.act told → LineBegun s w line a held b
      cut d = record { choice = d.choice; comes = d.comes; front = subst (λ (t : List ℕ). AppendsFront a b (held ++ (t ++ 10 ∷ []))) d.told_is p }

-- however it went
pub line_tried : (code new : World) (line : Line) (told : List ℕ) (a b : Option (List ℕ)) (held left : List ℕ) (r : Result (Unit {0}) RunFault) → RunsLine code new line (Ok told)
    → OnOk r (Passes a b left (held ++ (told ++ 10 ∷ []))) → AppendsFront a b (held ++ (told ++ 10 ∷ [])) → IfErr r (λ f. f ≡ fault.WriteFault) → PassesLine code new line a held b left r
line_tried code new line told a b held left (Ok done) runs passed front stop = line_put code new line told a b held left runs passed done
line_tried code new line told a b held left (Err f) runs passed front stop = line_cut code new line told a b held left f runs stop front

-- the line stopped the network
line_stops : (code new : World) (line : Line) (a : Option (List ℕ)) (held : List ℕ) (why : WorldStop) → RunsLine code new line (Err why) → PassesLine code new line a held a held (Err (fault_of why))
line_stops code new line a held stop.TooMuch runs = λ s w met. record { overflows = (runs.answers s w met).overflows; written = refl; left_is = refl }
line_stops code new line a held stop.OutOfMemory runs = λ s w met. refl

pub line_stopped : (code new : World) (line : Line) (a : Option (List ℕ)) (held : List ℕ) (why : WorldStop) (f : RunFault) → RunsLine code new line (Err why) → f ≡ fault_of why → PassesLine code new line a held a held (Err f)
line_stopped code new line a held why f runs is = subst (λ (x : RunFault). PassesLine code new line a held a held (Err x)) (sym is) (line_stops code new line a held why runs)

-- ---- the lines of a script

its_line : (nodes : ℕ) (lines : List Line) (i : ℕ) (line : Line) → AllByRecursion (IsItsLine nodes) lines → slice_get lines i ≡ Some line → IsItsLine nodes line
its_line nodes [] i line all e = absurd cc
its_line nodes (x ∷ xs) zero line all e =
    let same : x ≡ line = cc in
    subst (IsItsLine nodes) same all.0
its_line nodes (x ∷ xs) (suc i) line all e = its_line nodes xs i line all.1 e

pub line_there : (lines : List Line) (i : ℕ) → i < length lines → slice_get lines i ≡ None → ⊥
line_there [] i few e = absurd (omega (arith, few))
line_there (x ∷ xs) zero few e = absurd (cc e)
line_there (x ∷ xs) (suc i) few e = line_there xs i (omega (arith, few)) e

pub take_next : (lines : List Line) (i : ℕ) (line : Line) → slice_get lines i ≡ Some line → take (i + 1) lines ≡ take i lines ++ line ∷ []
take_next lines i line e = take_more lines i line (slice_get_within lines i line e) ∙ ap (λ (l : Line). take i lines ++ l ∷ []) (get_or_from_slice_get lines i line line e)

-- the code goes on for the network after these lines, in which the script's next line can be run
pub meets_next : (script : Script) (code : World) (run : List LineRun) (i : ℕ) (line : Line) → IsRead script → HasRun script.plan (take i script.lines) code run → slice_get script.lines i ≡ Some line
    → MeetsLine code (script_setting script.plan) (network_after (script_setting script.plan) (world_of script.plan) run) line.act
meets_next script code run i line read h e =
    let own : IsItsLine script.plan.nodes line = its_line script.plan.nodes script.lines i line read.1.meant e in
    record { stands = h.stands; fit = subst (λ (n : ℕ). IsAct n line.act) (sym (plan_members script.plan)) own.ranges }

pub can_run_next : (script : Script) (code : World) (run : List LineRun) (i : ℕ) (line : Line) → IsRead script → HasRun script.plan (take i script.lines) code run → slice_get script.lines i ≡ Some line
    → CanRunLine code line.act
can_run_next script code run i line read h e =
    let met = meets_next script code run i line read h e in
    record {
      setting = script_setting script.plan;
      standing = going (network_after (script_setting script.plan) (world_of script.plan) run);
      stands = met.stands;
      fit = met.fit;
    }

-- one line more was run
pub run_next : (plan : WorldPlan) (lines : List Line) (code new : World) (run : List LineRun) (line : Line) (c : Choice) → HasRun plan lines code run
    → MayComeOut (script_setting plan) (network_after (script_setting plan) (world_of plan) run) line.act c
    → WorldStands new (network_at (script_setting plan) (after_act (script_setting plan) (network_after (script_setting plan) (world_of plan) run) line.act c))
    → HasRun plan (lines ++ line ∷ []) new (run ++ record { line = line; choice = c } ∷ [])
run_next plan lines code new run line c h comes stands =
    let s : Setting = script_setting plan in
    let x : LineRun = record { line = line; choice = c } in
    record {
      is_run = lines_more run x ∙ ap (λ (ls : List Line). ls ++ line ∷ []) h.is_run;
      may_run = may_run_more s run x (world_of plan) h.may_run comes;
      stands = subst (λ (w : WorldState). WorldStands new (network_at s w)) (sym (network_more s run x (world_of plan))) stands;
    }

told_next : (plan : WorldPlan) (run : List LineRun) (line : Line) (c : Choice)
    → told_of plan (run ++ record { line = line; choice = c } ∷ []) ≡ told_of plan run ++ ended_told (script_setting plan) (network_after (script_setting plan) (world_of plan) run) line c
told_next plan run line c = told_more (script_setting plan) run (record { line = line; choice = c }) (world_of plan)

passes_next : (plan : WorldPlan) (run : List LineRun) (line : Line) (c : Choice) (start now later : Option (List ℕ)) (held left : List ℕ) → Passes start now held (told_of plan run)
    → Passes now later left (held ++ ended_told (script_setting plan) (network_after (script_setting plan) (world_of plan) run) line c)
    → Passes start later left (told_of plan (run ++ record { line = line; choice = c } ∷ []))
passes_next plan run line c start now later held left p q =
    subst (Passes start later left) (sym (told_next plan run line c))
    (passes_more start now later held (told_of plan run) left (ended_told (script_setting plan) (network_after (script_setting plan) (world_of plan) run) line c) p q)

front_next : (plan : WorldPlan) (run : List LineRun) (line : Line) (c : Choice) (start now later : Option (List ℕ)) (held : List ℕ) → Passes start now held (told_of plan run)
    → AppendsFront now later (held ++ ended_told (script_setting plan) (network_after (script_setting plan) (world_of plan) run) line c)
    → AppendsFront start later (told_of plan (run ++ record { line = line; choice = c } ∷ []))
front_next plan run line c start now later held p q =
    subst (AppendsFront start later) (sym (told_next plan run line c))
    (passes_then_front start now later held (told_of plan run) (ended_told (script_setting plan) (network_after (script_setting plan) (world_of plan) run) line c) p q)

-- ---- the loop

pub nothing_run : (plan : WorldPlan) (code : World) → WorldStands code (network_of plan) → HasRun plan [] code []
unfolding MayRunAll network_after
nothing_run plan code h = record { is_run = refl; may_run = tt; stands = h }

nothing_told : (plan : WorldPlan) → told_of plan [] ≡ []
unfolding told_from
nothing_told plan = refl

-- before the first line
pub begin_writing : (script : Script) (code : World) (start : Option (List ℕ)) (held : List ℕ) → IsReady code script → held ≡ [] → HasWritten script.plan (take 0 script.lines) code start start held
begin_writing script code start held h none = record {
  run = [];
  has_run = nothing_run script.plan code h.opened;
  passes = subst (λ (t : List ℕ). Passes start start held t) (none ∙ sym (nothing_told script.plan)) (passes_held start held);
}

-- after one more
pub write_next : (script : Script) (code new : World) (i : ℕ) (line : Line) (start now later : Option (List ℕ)) (held left : List ℕ) → IsRead script → HasWritten script.plan (take i script.lines) code start now held
    → slice_get script.lines i ≡ Some line → (done : Unit {0}) → PassesLine code new line now held later left (Ok done) → HasWritten script.plan (take (i + 1) script.lines) new start later left
write_next script code new i line start now later held left read h e done passes =
    subst (λ (ls : List Line). HasWritten script.plan ls new start later left) (sym (take_next script.lines i line e))
    (written (passes (script_setting script.plan) (network_after (script_setting script.plan) (world_of script.plan) h.run) (meets_next script code h.run i line read h.has_run e))) where
      written : LinePassed new (script_setting script.plan) (network_after (script_setting script.plan) (world_of script.plan) h.run) line now held later left
          → HasWritten script.plan (take i script.lines ++ line ∷ []) new start later left
      written d = record {
        run = h.run ++ record { line = line; choice = d.choice } ∷ [];
        has_run = run_next script.plan (take i script.lines) code new h.run line d.choice h.has_run d.comes d.stands;
        passes = passes_next script.plan h.run line d.choice start now later held left h.passes d.passes;
      }

-- after all
pub all_written : (script : Script) (code : World) (i : ℕ) (start now : Option (List ℕ)) (held : List ℕ) → HasWritten script.plan (take i script.lines) code start now held → length script.lines ≤ i
    → AllWritten script.plan script.lines start now held
all_written script code i start now held h all =
    record { run = h.run; is_run = h.has_run.is_run ∙ take_all i script.lines all; may_run = h.has_run.may_run; passes = h.passes }

-- ---- where a line isn't written

split_lines : (lines : List Line) (i : ℕ) (line : Line) → slice_get lines i ≡ Some line → take i lines ++ line ∷ drop (i + 1) lines ≡ lines
split_lines lines i line e =
    sym (append_assoc (take i lines) (line ∷ []) (drop (i + 1) lines)) ∙ ap (λ (ls : List Line). ls ++ drop (i + 1) lines) (sym (take_next lines i line e)) ∙ take-append-drop (i + 1) lines

pub stops_here : (script : Script) (code : World) (run : List LineRun) (i : ℕ) (line : Line) → HasRun script.plan (take i script.lines) code run → slice_get script.lines i ≡ Some line
    → lines_of run ++ line ∷ drop (i + 1) script.lines ≡ script.lines
stops_here script code run i line h e = ap (λ (ls : List Line). ls ++ line ∷ drop (i + 1) script.lines) h.is_run ∙ split_lines script.lines i line e

pub passes_front : (a b : Option (List ℕ)) (held bytes : List ℕ) → Passes a b held bytes → AppendsFront a b bytes
passes_front None b held bytes p = tt
passes_front (Some x) None held bytes p = absurd p
passes_front (Some x) (Some y) held bytes p = p.0

fault_written : (script : Script) (code new : World) (i : ℕ) (line : Line) (start now later : Option (List ℕ)) (held left : List ℕ) (f : RunFault)
    → slice_get script.lines i ≡ Some line → (h : HasWritten script.plan (take i script.lines) code start now held)
    → LinePasses new (script_setting script.plan) (network_after (script_setting script.plan) (world_of script.plan) h.run) line now held later left (Err f)
    → WritesLines script.plan script.lines start later left (Err f)
fault_written script code new i line start now later held left fault.TooMuch e h d = record {
  stops = record {
    run = h.run;
    line = line;
    rest = drop (i + 1) script.lines;
    is_run = stops_here script code h.run i line h.has_run e;
    may_run = h.has_run.may_run;
    overflows = d.overflows;
  };
  passes = subst (λ (t : Option (List ℕ)). Passes start t left (told_of script.plan h.run)) (sym d.written) (subst (λ (l : List ℕ). Passes start now l (told_of script.plan h.run)) (sym d.left_is) h.passes);
}
fault_written script code new i line start now later held left fault.OutOfMemory e h d = record {
  run = h.run;
  rest = line ∷ drop (i + 1) script.lines;
  is_run = stops_here script code h.run i line h.has_run e;
  may_run = h.has_run.may_run;
  front = subst (λ (t : Option (List ℕ)). AppendsFront start t (told_of script.plan h.run)) (sym d) (passes_front start now held (told_of script.plan h.run) h.passes);
}
fault_written script code new i line start now later held left fault.WriteFault e h d =
    let x : LineRun = record { line = line; choice = d.choice } in
    record {
      run = h.run ++ x ∷ [];
      rest = drop (i + 1) script.lines;
      is_run = ap (λ (ls : List Line). ls ++ drop (i + 1) script.lines) (lines_more h.run x ∙ ap (λ (ls : List Line). ls ++ line ∷ []) h.has_run.is_run)
          ∙ append_assoc (take i script.lines) (line ∷ []) (drop (i + 1) script.lines) ∙ split_lines script.lines i line e;
      may_run = may_run_more (script_setting script.plan) h.run x (world_of script.plan) h.has_run.may_run d.comes;
      front = front_next script.plan h.run line d.choice start now later held h.passes d.front;
    }

pub faults_written : (script : Script) (code new : World) (i : ℕ) (line : Line) (start now later : Option (List ℕ)) (held left : List ℕ) (f : RunFault) → IsRead script
    → HasWritten script.plan (take i script.lines) code start now held → slice_get script.lines i ≡ Some line → PassesLine code new line now held later left (Err f)
    → WritesLines script.plan script.lines start later left (Err f)
faults_written script code new i line start now later held left f read h e passes =
    fault_written script code new i line start now later held left f e h
    (passes (script_setting script.plan) (network_after (script_setting script.plan) (world_of script.plan) h.run) (meets_next script code h.run i line read h.has_run e))
