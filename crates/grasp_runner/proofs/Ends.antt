-- How the run of a script ends.
use Rattle.std.proofs.Common.{◌≡◌, refl, ◌∙◌, ℕ, List, [], ◌∷◌, ◌++◌, Option, None, Some, Result, Ok, Err, OnErr}
use Rattle.std.proofs.lemmas.List.{append-nil}
use Rattle.std.specs.Io.KnownBytes.{Appends}
use Rattle.grasp_io.specs.Known.{AppendsFront}
use Rattle.grasp_io.proofs.Streams.{passes_held, passes_then_all, passes_then_held}
use Rattle.grasp_model_network.specs.Plans.{IsGoodPlan}
use Rattle.grasp_model_network.specs.Runs.{world_of}
use Rattle.grasp_model_network.specs.Setting.{script_setting}
use Rattle.grasp_script.specs.declared.line.Line.{Line}
use Rattle.grasp_script.specs.declared.script.Script.{Script}
use Rattle.grasp_model_script.specs.Laws.{EachRunIsSafe}
use Rattle.grasp_model_script.specs.LineRuns.{LineRun}
use Rattle.grasp_model_script.specs.ScriptRuns.{MayRunAll, RunsSafely, IsRunText, lines_of, told_of}
use Rattle.grasp_model_script.specs.Stops.{SendsTooMuch, IsStoppedText}
use Rattle.grasp_runner.specs.Passing.{AllWritten, BegunWritten, StopsSo, StoppedWritten}
use Rattle.grasp_runner.specs.Scripts.{IsRead, IsBegun}
use Rattle.grasp_runner.specs.Written.{Writes, Begins}

pub good_plan : (script : Script) → IsRead script → IsGoodPlan script.plan
good_plan script read = read.1.is_header.good

pub runs_safely : EachRunIsSafe → (script : Script) (run : List LineRun) → IsRead script → MayRunAll (script_setting script.plan) (world_of script.plan) run → RunsSafely script.plan run
runs_safely safe script run read may = safe script.plan run (good_plan script read) may

-- some of the lines were run, and a front of their reports was written
pub begun : EachRunIsSafe → (script : Script) (run : List LineRun) (rest : List Line) (a b : Option (List ℕ)) → IsRead script → lines_of run ++ rest ≡ script.lines
    → MayRunAll (script_setting script.plan) (world_of script.plan) run → AppendsFront a b (told_of script.plan run) → Begins (IsBegun script.plan script.lines) a b
begun safe script run rest a b read is may front =
    record { output = told_of script.plan run; made = (rest, record { run = run; is_run = is; safely = runs_safely safe script run read may; told = refl }); written = front }

pub nothing_front : (a : Option (List ℕ)) (bytes : List ℕ) → AppendsFront a a bytes
nothing_front None bytes = tt
nothing_front (Some x) bytes = (passes_held (Some x) bytes).0

-- none was
pub begun_nothing : EachRunIsSafe → (script : Script) (a : Option (List ℕ)) → IsRead script → Begins (IsBegun script.plan script.lines) a a
unfolding MayRunAll
begun_nothing safe script a read = begun safe script [] script.lines a a read refl tt (nothing_front a (told_of script.plan []))

pub begun_some : EachRunIsSafe → (script : Script) (a b : Option (List ℕ)) → IsRead script → BegunWritten script.plan script.lines a b → Begins (IsBegun script.plan script.lines) a b
begun_some safe script a b read h = begun safe script h.run h.rest a b read h.is_run h.may_run h.front

-- all were, and all is written
pub all_done : EachRunIsSafe → (script : Script) (a b c : Option (List ℕ)) (held : List ℕ) → IsRead script → AllWritten script.plan script.lines a b held → Appends b c held
    → Writes (IsRunText script.plan script.lines) a c
all_done safe script a b c held read h rest = record {
  output = told_of script.plan h.run;
  made = record { run = h.run; is_run = h.is_run; safely = runs_safely safe script h.run read h.may_run; told = refl };
  written = passes_then_all a b c held (told_of script.plan h.run) h.passes rest;
}

-- or a front of it
pub all_begun : EachRunIsSafe → (script : Script) (a b c : Option (List ℕ)) (held : List ℕ) → IsRead script → AllWritten script.plan script.lines a b held → AppendsFront b c held
    → Begins (IsBegun script.plan script.lines) a c
all_begun safe script a b c held read h front =
    begun safe script h.run [] a c read (append-nil (lines_of h.run) ∙ h.is_run) h.may_run (passes_then_held a b c held (told_of script.plan h.run) h.passes front)

-- a line sends too much
pub sends_too_much : EachRunIsSafe → (script : Script) → IsRead script → StopsSo script.plan script.lines → SendsTooMuch script.plan script.lines
sends_too_much safe script read h =
    record { run = h.run; line = h.line; rest = h.rest; is_run = h.is_run; safely = runs_safely safe script h.run read h.may_run; overflows = h.overflows }

pub stop_done : EachRunIsSafe → (script : Script) (a b c : Option (List ℕ)) (held : List ℕ) → IsRead script → StoppedWritten script.plan script.lines a b held → Appends b c held
    → Writes (IsStoppedText script.plan script.lines) a c
stop_done safe script a b c held read h rest =
    let x = h.stops in
    record {
      output = told_of script.plan x.run;
      made = record {
        stops = record { run = x.run; line = x.line; rest = x.rest; is_run = x.is_run; safely = runs_safely safe script x.run read x.may_run; overflows = x.overflows };
        told = refl;
      };
      written = passes_then_all a b c held (told_of script.plan x.run) h.passes rest;
    }

pub stop_begun : EachRunIsSafe → (script : Script) (a b c : Option (List ℕ)) (held : List ℕ) → IsRead script → StoppedWritten script.plan script.lines a b held → AppendsFront b c held
    → Begins (IsBegun script.plan script.lines) a c
stop_begun safe script a b c held read h front =
    let x = h.stops in
    begun safe script x.run (x.line ∷ x.rest) a c read x.is_run x.may_run (passes_then_held a b c held (told_of script.plan x.run) h.passes front)

pub on_err : {A E : Type 0} (r : Result A E) (X : Type 0) → X → OnErr r X
on_err (Ok x) X fact = tt
on_err (Err e) X fact = fact
