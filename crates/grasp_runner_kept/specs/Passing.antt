-- Inside: what is written of the reports of lines while they run.
use Rattle.std.specs.Prelude.{◌≡◌, ℕ, ◌<◌, ◌≤◌, ◌^◌, List, [], ◌∷◌, ◌++◌, length, Option, Result, Ok, Err}
use Rattle.grasp_io.specs.Known.{AppendsFront, Passes}
use Rattle.grasp_model_network.specs.Setting.{Setting, script_setting}
use Rattle.grasp_model_network.specs.Visits.{Choice}
use Rattle.grasp_model_network.specs.declared.plan.WorldPlan.{WorldPlan}
use Rattle.grasp_script_kept.specs.declared.line.KeptLine.{KeptLine}
use Rattle.grasp_script_kept.specs.declared.script.KeptScript.{KeptScript}
use Rattle.grasp_model_kept.specs.World.{KeptState}
use Rattle.grasp_kept.specs.Contract.{kept_network_of}
use Rattle.grasp_kept.specs.Stands.{KeptWorldStands, steps_of}
use Rattle.grasp_kept.specs.declared.kept_world.KeptWorld.{KeptWorld}
use Rattle.grasp_runner.specs.declared.fault.RunFault.{RunFault}
use Rattle.grasp_runner.specs.declared.fault.RunFault.TheVariants as fault
use Rattle.grasp_model_script_kept.specs.LineRuns.{KeptLineOverflows, KeptLineRun, MayHappen, kept_told, line_event, state_then}
use Rattle.grasp_runner_kept.specs.Lines.{MeetsKeptLine, kept_at}
use Rattle.grasp_model_script_kept.specs.ScriptRuns.{MayRunAllKept, kept_lines_of, kept_of, kept_told_of, state_after}
use Rattle.grasp_runner_kept.specs.Scripts.{IsKeptRead}

-- ---- a line

-- the line's report and LF
abbrev pub ended_told : Setting → KeptState → KeptLine → Choice → List ℕ
ended_told s k line c = kept_told s k line c ++ 10 ∷ []

-- the line came out so, the code stands for the network after it, and of what was held and its report a front was written and the rest is held
pub record LinePassed (code : KeptWorld) (s : Setting) (k : KeptState) (line : KeptLine) (before : Option (List ℕ)) (held : List ℕ) (after : Option (List ℕ)) (left : List ℕ) : Type 0 where
  pub choice : Choice
  pub comes : MayHappen s k (line_event k.world line) choice
  pub stands : KeptWorldStands code (kept_at s (state_then s k (line_event k.world line) choice))
  pub passes : Passes before after left (held ++ ended_told s k line choice)

-- the line came out so, and of what was held and its report a front was written
pub record LineBegun (s : Setting) (k : KeptState) (line : KeptLine) (before : Option (List ℕ)) (held : List ℕ) (after : Option (List ℕ)) : Type 0 where
  pub choice : Choice
  pub comes : MayHappen s k (line_event k.world line) choice
  pub front : AppendsFront before after (held ++ ended_told s k line choice)

-- the line's event sends too much, and nothing was written
pub record LineStopped (s : Setting) (k : KeptState) (line : KeptLine) (before : Option (List ℕ)) (held : List ℕ) (after : Option (List ℕ)) (left : List ℕ) : Type 0 where
  pub overflows : KeptLineOverflows s k line
  pub written : after ≡ before
  pub left_is : left ≡ held

abbrev pub LinePasses : KeptWorld → Setting → KeptState → KeptLine → Option (List ℕ) → List ℕ → Option (List ℕ) → List ℕ → Result (Unit {0}) RunFault → Type 0
LinePasses code s k line before held after left (Ok done) = LinePassed code s k line before held after left
LinePasses code s k line before held after left (Err fault.TooMuch) = LineStopped s k line before held after left
LinePasses code s k line before held after left (Err fault.OutOfMemory) = after ≡ before
LinePasses code s k line before held after left (Err fault.WriteFault) = LineBegun s k line before held after

-- for each network for which the code went on
abbrev pub PassesLine : KeptWorld → KeptWorld → KeptLine → Option (List ℕ) → List ℕ → Option (List ℕ) → List ℕ → Result (Unit {0}) RunFault → Type 0
PassesLine code new line before held after left result = (s : Setting) (k : KeptState) → MeetsKeptLine code s k line → LinePasses new s k line before held after left result

-- ---- the lines of a script

-- the code stands for the network of the script's plan, in which nothing has happened, and the script has few enough lines
pub record IsReady (code : KeptWorld) (script : KeptScript) : Type 0 where
  pub read : IsKeptRead script
  pub few : length script.lines < 2 ^ 32
  pub none_made : steps_of code ≡ 0
  pub opened : KeptWorldStands code (kept_network_of script.plan)

-- the lines of a script came out so one after the other, and the code stands for the network after them
pub record HasRun (plan : WorldPlan) (lines : List KeptLine) (code : KeptWorld) (run : List KeptLineRun) : Type 0 where
  pub is_run : kept_lines_of run ≡ lines
  pub may_run : MayRunAllKept (script_setting plan) (kept_of plan) run
  pub steps : steps_of code ≤ length lines
  pub stands : KeptWorldStands code (kept_at (script_setting plan) (state_after (script_setting plan) (kept_of plan) run))

-- the lines were run, and of the bytes of their reports a prefix was written and the rest is held
pub record HasWritten (plan : WorldPlan) (lines : List KeptLine) (code : KeptWorld) (before after : Option (List ℕ)) (left : List ℕ) : Type 0 where
  pub run : List KeptLineRun
  pub has_run : HasRun plan lines code run
  pub passes : Passes before after left (kept_told_of plan run)

-- all lines may run so, and of their reports a front was written and the rest is held
pub record AllWritten (plan : WorldPlan) (lines : List KeptLine) (before after : Option (List ℕ)) (left : List ℕ) : Type 0 where
  pub run : List KeptLineRun
  pub is_run : kept_lines_of run ≡ lines
  pub may_run : MayRunAllKept (script_setting plan) (kept_of plan) run
  pub passes : Passes before after left (kept_told_of plan run)

-- the first lines may run so, and then the event of the next one sends too much
pub record StopsSo (plan : WorldPlan) (lines : List KeptLine) : Type 0 where
  pub run : List KeptLineRun
  pub line : KeptLine
  pub rest : List KeptLine
  pub is_run : kept_lines_of run ++ line ∷ rest ≡ lines
  pub may_run : MayRunAllKept (script_setting plan) (kept_of plan) run
  pub overflows : KeptLineOverflows (script_setting plan) (state_after (script_setting plan) (kept_of plan) run) line

-- the event of some line sends too much, and of the bytes of the reports of the lines that were run before it a prefix was written and the
-- rest is held
pub record StoppedWritten (plan : WorldPlan) (lines : List KeptLine) (before after : Option (List ℕ)) (left : List ℕ) : Type 0 where
  pub stops : StopsSo plan lines
  pub passes : Passes before after left (kept_told_of plan stops.run)

-- the first lines may run so, and of their reports a front was written
pub record BegunWritten (plan : WorldPlan) (lines : List KeptLine) (before after : Option (List ℕ)) : Type 0 where
  pub run : List KeptLineRun
  pub rest : List KeptLine
  pub is_run : kept_lines_of run ++ rest ≡ lines
  pub may_run : MayRunAllKept (script_setting plan) (kept_of plan) run
  pub front : AppendsFront before after (kept_told_of plan run)

abbrev pub WritesLines : WorldPlan → List KeptLine → Option (List ℕ) → Option (List ℕ) → List ℕ → Result (Unit {0}) RunFault → Type 0
WritesLines plan lines before after left (Ok done) = AllWritten plan lines before after left
WritesLines plan lines before after left (Err fault.TooMuch) = StoppedWritten plan lines before after left
WritesLines plan lines before after left (Err fault.OutOfMemory) = BegunWritten plan lines before after
WritesLines plan lines before after left (Err fault.WriteFault) = BegunWritten plan lines before after
