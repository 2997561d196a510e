-- Inside: what is written of the reports of lines while they run.
use Rattle.std.specs.Prelude.{◌≡◌, ℕ, List, [], ◌∷◌, ◌++◌, Option, Result, Ok, Err}
use Rattle.grasp_io.specs.Known.{AppendsFront, Passes}
use Rattle.grasp_model_network.specs.Runs.{world_of}
use Rattle.grasp_model_network.specs.Setting.{Setting, script_setting}
use Rattle.grasp_model_network.specs.Visits.{Choice}
use Rattle.grasp_model_network.specs.World.{WorldState}
use Rattle.grasp_model_network.specs.declared.plan.WorldPlan.{WorldPlan}
use Rattle.grasp_script.specs.declared.line.Line.{Line}
use Rattle.grasp_script.specs.declared.script.Script.{Script}
use Rattle.grasp_model_script.specs.LineRuns.{LineRun, MayComeOut, act_told, after_act}
use Rattle.grasp_model_script.specs.ScriptRuns.{MayRunAll, lines_of, network_after, told_of}
use Rattle.grasp_model_script.specs.Stops.{LineOverflows}
use Rattle.grasp_simulator.specs.Contract.{network_of}
use Rattle.grasp_simulator.specs.WorldStands.{WorldStands}
use Rattle.grasp_simulator.specs.declared.world.World.{World}
use Rattle.grasp_runner.specs.Lines.{MeetsLine, network_at}
use Rattle.grasp_runner.specs.Scripts.{IsRead}
use Rattle.grasp_runner.specs.declared.fault.RunFault.{RunFault}
use Rattle.grasp_runner.specs.declared.fault.RunFault.TheVariants as fault

-- ---- a line

-- the line's report and LF
abbrev pub ended_told : Setting → WorldState → Line → Choice → List ℕ
ended_told s w line c = act_told s w line.text line.act c ++ 10 ∷ []

-- the line came out so, the code stands for the network after it, and of what was held and its report a front was written and the rest is held
pub record LinePassed (code : World) (s : Setting) (w : WorldState) (line : Line) (before : Option (List ℕ)) (held : List ℕ) (after : Option (List ℕ)) (left : List ℕ) : Type 0 where
  pub choice : Choice
  pub comes : MayComeOut s w line.act choice
  pub stands : WorldStands code (network_at s (after_act s w line.act choice))
  pub passes : Passes before after left (held ++ ended_told s w line choice)

-- the line came out so, and of what was held and its report a front was written
pub record LineBegun (s : Setting) (w : WorldState) (line : Line) (before : Option (List ℕ)) (held : List ℕ) (after : Option (List ℕ)) : Type 0 where
  pub choice : Choice
  pub comes : MayComeOut s w line.act choice
  pub front : AppendsFront before after (held ++ ended_told s w line choice)

-- the line's event sends too much, and nothing was written
pub record LineStopped (s : Setting) (w : WorldState) (line : Line) (before : Option (List ℕ)) (held : List ℕ) (after : Option (List ℕ)) (left : List ℕ) : Type 0 where
  pub overflows : LineOverflows s w line.act
  pub written : after ≡ before
  pub left_is : left ≡ held

abbrev pub LinePasses : World → Setting → WorldState → Line → Option (List ℕ) → List ℕ → Option (List ℕ) → List ℕ → Result (Unit {0}) RunFault → Type 0
LinePasses code s w line before held after left (Ok done) = LinePassed code s w line before held after left
LinePasses code s w line before held after left (Err fault.TooMuch) = LineStopped s w line before held after left
LinePasses code s w line before held after left (Err fault.OutOfMemory) = after ≡ before
LinePasses code s w line before held after left (Err fault.WriteFault) = LineBegun s w line before held after

-- for each network for which the code went on
abbrev pub PassesLine : World → World → Line → Option (List ℕ) → List ℕ → Option (List ℕ) → List ℕ → Result (Unit {0}) RunFault → Type 0
PassesLine code new line before held after left result = (s : Setting) (w : WorldState) → MeetsLine code s w line.act → LinePasses new s w line before held after left result

-- ---- the lines of a script

-- the code stands for the network of the script's plan, in which nothing has happened
pub record IsReady (code : World) (script : Script) : Type 0 where
  pub read : IsRead script
  pub opened : WorldStands code (network_of script.plan)

-- the lines of a script came out so one after the other, and the code stands for the network after them
pub record HasRun (plan : WorldPlan) (lines : List Line) (code : World) (run : List LineRun) : Type 0 where
  pub is_run : lines_of run ≡ lines
  pub may_run : MayRunAll (script_setting plan) (world_of plan) run
  pub stands : WorldStands code (network_at (script_setting plan) (network_after (script_setting plan) (world_of plan) run))

-- the lines were run, and of the bytes of their reports a prefix was written and the rest is held
pub record HasWritten (plan : WorldPlan) (lines : List Line) (code : World) (before after : Option (List ℕ)) (left : List ℕ) : Type 0 where
  pub run : List LineRun
  pub has_run : HasRun plan lines code run
  pub passes : Passes before after left (told_of plan run)

-- all lines may run so, and of their reports a front was written and the rest is held
pub record AllWritten (plan : WorldPlan) (lines : List Line) (before after : Option (List ℕ)) (left : List ℕ) : Type 0 where
  pub run : List LineRun
  pub is_run : lines_of run ≡ lines
  pub may_run : MayRunAll (script_setting plan) (world_of plan) run
  pub passes : Passes before after left (told_of plan run)

-- the first lines may run so, and then the event of the next one sends too much
pub record StopsSo (plan : WorldPlan) (lines : List Line) : Type 0 where
  pub run : List LineRun
  pub line : Line
  pub rest : List Line
  pub is_run : lines_of run ++ line ∷ rest ≡ lines
  pub may_run : MayRunAll (script_setting plan) (world_of plan) run
  pub overflows : LineOverflows (script_setting plan) (network_after (script_setting plan) (world_of plan) run) line.act

-- the event of some line sends too much, and of the bytes of the reports of the lines that were run before it a prefix was written and the
-- rest is held
pub record StoppedWritten (plan : WorldPlan) (lines : List Line) (before after : Option (List ℕ)) (left : List ℕ) : Type 0 where
  pub stops : StopsSo plan lines
  pub passes : Passes before after left (told_of plan stops.run)

-- the first lines may run so, and of their reports a front was written
pub record BegunWritten (plan : WorldPlan) (lines : List Line) (before after : Option (List ℕ)) : Type 0 where
  pub run : List LineRun
  pub rest : List Line
  pub is_run : lines_of run ++ rest ≡ lines
  pub may_run : MayRunAll (script_setting plan) (world_of plan) run
  pub front : AppendsFront before after (told_of plan run)

abbrev pub WritesLines : WorldPlan → List Line → Option (List ℕ) → Option (List ℕ) → List ℕ → Result (Unit {0}) RunFault → Type 0
WritesLines plan lines before after left (Ok done) = AllWritten plan lines before after left
WritesLines plan lines before after left (Err fault.TooMuch) = StoppedWritten plan lines before after left
WritesLines plan lines before after left (Err fault.OutOfMemory) = BegunWritten plan lines before after
WritesLines plan lines before after left (Err fault.WriteFault) = BegunWritten plan lines before after
