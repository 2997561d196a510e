-- Inside: what is written of the record of a script while it runs.
use Rattle.std.specs.Prelude.{◌≡◌, ◌-◌, ℕ, List, ◌++◌, length, take, Option, Result, Ok, Err}
use Rattle.grasp_io.specs.Known.{AppendsFront, Passes}
use Rattle.grasp_model_network.specs.Runs.{world_of}
use Rattle.grasp_model_network.specs.Setting.{Setting, script_setting}
use Rattle.grasp_model_network.specs.Visits.{Choice}
use Rattle.grasp_model_network.specs.World.{WorldState}
use Rattle.grasp_model_network.specs.declared.plan.WorldPlan.{WorldPlan}
use Rattle.grasp_script.specs.Scripts.{text_lines}
use Rattle.grasp_script.specs.declared.line.Line.{Line}
use Rattle.grasp_model_script.specs.LineRuns.{LineRun, MayComeOut, after_act}
use Rattle.grasp_model_script.specs.ScriptRuns.{MayRunAll, lines_of, network_after}
use Rattle.grasp_model_script.specs.Stops.{LineOverflows}
use Rattle.grasp_model_audit.specs.Recording.{record_text}
use Rattle.grasp_model_audit.specs.RecordRuns.{recorded_from}
use Rattle.grasp_simulator.specs.WorldStands.{WorldStands}
use Rattle.grasp_simulator.specs.declared.world.World.{World}
use Rattle.grasp_runner.specs.Lines.{network_at}
use Rattle.grasp_runner.specs.Passing.{HasRun, StopsSo}
use Rattle.grasp_runner.specs.declared.fault.RunFault.{RunFault}
use Rattle.grasp_runner.specs.declared.fault.RunFault.TheVariants as fault
use Rattle.grasp_recorder.specs.Lines.{KnowsReadings, MeetsRecord}
use Rattle.grasp_recorder.specs.declared.recorder.Recorder.{Recorder}

-- ---- a line

-- the line came out so, the code stands for the network after it, and of what was held and its record lines a front was written and the rest is held
pub record LinePassed (recorder : Recorder) (code : World) (s : Setting) (w : WorldState) (line : Line) (before : Option (List ℕ)) (held : List ℕ) (after : Option (List ℕ)) (left : List ℕ) : Type 0 where
  pub choice : Choice
  pub comes : MayComeOut s w line.act choice
  pub stands : WorldStands code (network_at s (after_act s w line.act choice))
  pub knows : KnowsReadings recorder s (after_act s w line.act choice)
  pub passes : Passes before after left (held ++ record_text s w line.act choice)

-- the line came out so, and of what was held and its record lines a front was written
pub record LineBegun (s : Setting) (w : WorldState) (line : Line) (before : Option (List ℕ)) (held : List ℕ) (after : Option (List ℕ)) : Type 0 where
  pub choice : Choice
  pub comes : MayComeOut s w line.act choice
  pub front : AppendsFront before after (held ++ record_text s w line.act choice)

-- the line's event sends too much, and nothing was written
pub record LineStopped (s : Setting) (w : WorldState) (line : Line) (before : Option (List ℕ)) (held : List ℕ) (after : Option (List ℕ)) (left : List ℕ) : Type 0 where
  pub overflows : LineOverflows s w line.act
  pub written : after ≡ before
  pub left_is : left ≡ held

abbrev pub LinePasses : Recorder → World → Setting → WorldState → Line → Option (List ℕ) → List ℕ → Option (List ℕ) → List ℕ → Result (Unit {0}) RunFault → Type 0
LinePasses recorder code s w line before held after left (Ok done) = LinePassed recorder code s w line before held after left
LinePasses recorder code s w line before held after left (Err fault.TooMuch) = LineStopped s w line before held after left
LinePasses recorder code s w line before held after left (Err fault.OutOfMemory) = after ≡ before
LinePasses recorder code s w line before held after left (Err fault.WriteFault) = LineBegun s w line before held after

-- for each network for which the code went on, and of which the recorder knew the readings
abbrev pub PassesLine : Recorder → World → Recorder → World → Line → Option (List ℕ) → List ℕ → Option (List ℕ) → List ℕ → Result (Unit {0}) RunFault → Type 0
PassesLine recorder code then new line before held after left result =
    (s : Setting) (w : WorldState) → MeetsRecord recorder code s w line.act → LinePasses then new s w line before held after left result

-- ---- the header

-- the lines of the text before the last ones, which are as many as these
abbrev pub header_in : List ℕ → List Line → List (List ℕ)
header_in text lines = take (length (text_lines text) - length lines) (text_lines text)

-- ---- the lines of a script

-- the record lines of the lines that were run, from the opening of a network of the plan on
abbrev pub recorded_of : WorldPlan → List LineRun → List ℕ
recorded_of plan run = recorded_from (script_setting plan) (world_of plan) run

-- the lines were run, the recorder knows the readings behind them, and of what was held and their record lines a front was written and the
-- rest is held
pub record HasRecorded (plan : WorldPlan) (lines : List Line) (recorder : Recorder) (code : World) (before : Option (List ℕ)) (held : List ℕ) (after : Option (List ℕ)) (left : List ℕ) : Type 0 where
  pub run : List LineRun
  pub has_run : HasRun plan lines code run
  pub knows : KnowsReadings recorder (script_setting plan) (network_after (script_setting plan) (world_of plan) run)
  pub passes : Passes before after left (held ++ recorded_of plan run)

-- all lines may run so, and of what was held and their record lines a front was written and the rest is held
pub record AllRecorded (plan : WorldPlan) (lines : List Line) (before : Option (List ℕ)) (held : List ℕ) (after : Option (List ℕ)) (left : List ℕ) : Type 0 where
  pub run : List LineRun
  pub is_run : lines_of run ≡ lines
  pub may_run : MayRunAll (script_setting plan) (world_of plan) run
  pub passes : Passes before after left (held ++ recorded_of plan run)

-- the event of some line sends too much, and of what was held and the record lines of the lines that were run before it a front was written
-- and the rest is held
pub record StoppedRecorded (plan : WorldPlan) (lines : List Line) (before : Option (List ℕ)) (held : List ℕ) (after : Option (List ℕ)) (left : List ℕ) : Type 0 where
  pub stops : StopsSo plan lines
  pub passes : Passes before after left (held ++ recorded_of plan stops.run)

-- the first lines may run so, and of what was held and the record lines of these a front was written
pub record BegunRecorded (plan : WorldPlan) (lines : List Line) (before : Option (List ℕ)) (held : List ℕ) (after : Option (List ℕ)) : Type 0 where
  pub run : List LineRun
  pub rest : List Line
  pub is_run : lines_of run ++ rest ≡ lines
  pub may_run : MayRunAll (script_setting plan) (world_of plan) run
  pub front : AppendsFront before after (held ++ recorded_of plan run)

abbrev pub RecordsLines : WorldPlan → List Line → Option (List ℕ) → List ℕ → Option (List ℕ) → List ℕ → Result (Unit {0}) RunFault → Type 0
RecordsLines plan lines before held after left (Ok done) = AllRecorded plan lines before held after left
RecordsLines plan lines before held after left (Err fault.TooMuch) = StoppedRecorded plan lines before held after left
RecordsLines plan lines before held after left (Err fault.OutOfMemory) = BegunRecorded plan lines before held after
RecordsLines plan lines before held after left (Err fault.WriteFault) = BegunRecorded plan lines before held after
