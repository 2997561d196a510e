-- Inside: what is written of the reports of lines while they run.
use Rattle.std.specs.Prelude.{◌≡◌, ℕ, List, [], ◌∷◌, ◌++◌, Option, Result, Ok, Err}
use Rattle.grasp_io.specs.Known.{AppendsFront, Passes}
use Rattle.grasp_model_network.specs.Setting.{Setting, script_setting}
use Rattle.grasp_model_network.specs.Visits.{Choice}
use Rattle.grasp_model_network.specs.declared.plan.WorldPlan.{WorldPlan}
use Rattle.grasp_script_doubts.specs.declared.line.DoubtLine.{DoubtLine}
use Rattle.grasp_script_doubts.specs.declared.script.DoubtScript.{DoubtScript}
use Rattle.grasp_model_doubts.specs.World.{DoubtState}
use Rattle.grasp_doubts.specs.Contract.{doubt_network_of}
use Rattle.grasp_doubts.specs.Stands.{DoubtWorldStands}
use Rattle.grasp_doubts.specs.declared.doubt_world.DoubtWorld.{DoubtWorld}
use Rattle.grasp_runner.specs.declared.fault.RunFault.{RunFault}
use Rattle.grasp_runner.specs.declared.fault.RunFault.TheVariants as fault
use Rattle.grasp_model_script_doubts.specs.LineRuns.{DoubtLineOverflows, DoubtLineRun, MayHappen, act_event, doubt_act_told, state_then}
use Rattle.grasp_runner_doubts.specs.Lines.{MeetsDoubtLine, doubts_at}
use Rattle.grasp_model_script_doubts.specs.ScriptRuns.{MayRunAllDoubts, doubt_lines_of, doubt_told_of, doubts_of, state_after}
use Rattle.grasp_runner_doubts.specs.Scripts.{IsDoubtRead}

-- ---- a line

-- the line's report and LF
abbrev pub ended_told : Setting → DoubtState → DoubtLine → Choice → List ℕ
ended_told s x line c = doubt_act_told s x line.text line.act c ++ 10 ∷ []

-- the line came out so, the code stands for the network after it, and of what was held and its report a front was written and the rest is held
pub record LinePassed (code : DoubtWorld) (s : Setting) (x : DoubtState) (line : DoubtLine) (before : Option (List ℕ)) (held : List ℕ)
    (after : Option (List ℕ)) (left : List ℕ) : Type 0 where
  pub choice : Choice
  pub comes : MayHappen s x (act_event x.world line.act) choice
  pub stands : DoubtWorldStands code (doubts_at s (state_then s x (act_event x.world line.act) choice))
  pub passes : Passes before after left (held ++ ended_told s x line choice)

-- the line came out so, and of what was held and its report a front was written
pub record LineBegun (s : Setting) (x : DoubtState) (line : DoubtLine) (before : Option (List ℕ)) (held : List ℕ) (after : Option (List ℕ))
    : Type 0 where
  pub choice : Choice
  pub comes : MayHappen s x (act_event x.world line.act) choice
  pub front : AppendsFront before after (held ++ ended_told s x line choice)

-- the line's event sends too much, and nothing was written
pub record LineStopped (s : Setting) (x : DoubtState) (line : DoubtLine) (before : Option (List ℕ)) (held : List ℕ) (after : Option (List ℕ))
    (left : List ℕ) : Type 0 where
  pub overflows : DoubtLineOverflows s x line.act
  pub written : after ≡ before
  pub left_is : left ≡ held

abbrev pub LinePasses : DoubtWorld → Setting → DoubtState → DoubtLine → Option (List ℕ) → List ℕ → Option (List ℕ) → List ℕ
    → Result (Unit {0}) RunFault → Type 0
LinePasses code s x line before held after left (Ok done) = LinePassed code s x line before held after left
LinePasses code s x line before held after left (Err fault.TooMuch) = LineStopped s x line before held after left
LinePasses code s x line before held after left (Err fault.OutOfMemory) = after ≡ before
LinePasses code s x line before held after left (Err fault.WriteFault) = LineBegun s x line before held after

-- for each network for which the code went on
abbrev pub PassesLine : DoubtWorld → DoubtWorld → DoubtLine → Option (List ℕ) → List ℕ → Option (List ℕ) → List ℕ → Result (Unit {0}) RunFault
    → Type 0
PassesLine code new line before held after left result =
    (s : Setting) (x : DoubtState) → MeetsDoubtLine code s x line.act → LinePasses new s x line before held after left result

-- ---- the lines of a script

-- the code stands for the network of the script's plan, in which nothing has happened but the doubters' opening calls
pub record IsReady (code : DoubtWorld) (script : DoubtScript) : Type 0 where
  pub read : IsDoubtRead script
  pub opened : DoubtWorldStands code (doubt_network_of script.plan)

-- the lines of a script came out so one after the other, and the code stands for the network after them
pub record HasRun (plan : WorldPlan) (lines : List DoubtLine) (code : DoubtWorld) (run : List DoubtLineRun) : Type 0 where
  pub is_run : doubt_lines_of run ≡ lines
  pub may_run : MayRunAllDoubts (script_setting plan) (doubts_of plan) run
  pub stands : DoubtWorldStands code (doubts_at (script_setting plan) (state_after (script_setting plan) (doubts_of plan) run))

-- the lines were run, and of the bytes of their reports a prefix was written and the rest is held
pub record HasWritten (plan : WorldPlan) (lines : List DoubtLine) (code : DoubtWorld) (before after : Option (List ℕ)) (left : List ℕ)
    : Type 0 where
  pub run : List DoubtLineRun
  pub has_run : HasRun plan lines code run
  pub passes : Passes before after left (doubt_told_of plan run)

-- all lines may run so, and of their reports a front was written and the rest is held
pub record AllWritten (plan : WorldPlan) (lines : List DoubtLine) (before after : Option (List ℕ)) (left : List ℕ) : Type 0 where
  pub run : List DoubtLineRun
  pub is_run : doubt_lines_of run ≡ lines
  pub may_run : MayRunAllDoubts (script_setting plan) (doubts_of plan) run
  pub passes : Passes before after left (doubt_told_of plan run)

-- the first lines may run so, and then the event of the next one sends too much
pub record StopsSo (plan : WorldPlan) (lines : List DoubtLine) : Type 0 where
  pub run : List DoubtLineRun
  pub line : DoubtLine
  pub rest : List DoubtLine
  pub is_run : doubt_lines_of run ++ line ∷ rest ≡ lines
  pub may_run : MayRunAllDoubts (script_setting plan) (doubts_of plan) run
  pub overflows : DoubtLineOverflows (script_setting plan) (state_after (script_setting plan) (doubts_of plan) run) line.act

-- the event of some line sends too much, and of the bytes of the reports of the lines that were run before it a prefix was written and the
-- rest is held
pub record StoppedWritten (plan : WorldPlan) (lines : List DoubtLine) (before after : Option (List ℕ)) (left : List ℕ) : Type 0 where
  pub stops : StopsSo plan lines
  pub passes : Passes before after left (doubt_told_of plan stops.run)

-- the first lines may run so, and of their reports a front was written
pub record BegunWritten (plan : WorldPlan) (lines : List DoubtLine) (before after : Option (List ℕ)) : Type 0 where
  pub run : List DoubtLineRun
  pub rest : List DoubtLine
  pub is_run : doubt_lines_of run ++ rest ≡ lines
  pub may_run : MayRunAllDoubts (script_setting plan) (doubts_of plan) run
  pub front : AppendsFront before after (doubt_told_of plan run)

abbrev pub WritesLines : WorldPlan → List DoubtLine → Option (List ℕ) → Option (List ℕ) → List ℕ → Result (Unit {0}) RunFault → Type 0
WritesLines plan lines before after left (Ok done) = AllWritten plan lines before after left
WritesLines plan lines before after left (Err fault.TooMuch) = StoppedWritten plan lines before after left
WritesLines plan lines before after left (Err fault.OutOfMemory) = BegunWritten plan lines before after
WritesLines plan lines before after left (Err fault.WriteFault) = BegunWritten plan lines before after
