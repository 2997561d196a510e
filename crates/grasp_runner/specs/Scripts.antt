-- What the code promises of a whole script.
use Rattle.std.specs.Prelude.{ℕ, List}
use Rattle.grasp_model_network.specs.declared.plan.WorldPlan.{WorldPlan}
use Rattle.grasp_model_network.specs.declared.report.WorldStop.{WorldStop}
use Rattle.grasp_model_network.specs.declared.report.WorldStop.TheVariants as stop
use Rattle.grasp_script.specs.Scripts.{IsScript}
use Rattle.grasp_script.specs.declared.line.Line.{Line}
use Rattle.grasp_script.specs.declared.script.Script.{Script}
use Rattle.grasp_model_script.specs.ScriptRuns.{IsBegunText}
use Rattle.grasp_runner.specs.declared.fault.RunFault.{RunFault}
use Rattle.grasp_runner.specs.declared.fault.RunFault.TheVariants as fault

-- the script is that of some text
abbrev pub IsRead : Script → Type 0
IsRead script = (text : List ℕ) × IsScript text script.plan script.lines

-- the first of the lines were run, and this is the text of their reports
abbrev pub IsBegun : WorldPlan → List Line → List ℕ → Type 0
IsBegun plan lines written = (rest : List Line) × IsBegunText plan lines rest written

-- Inside: the fault for which a network was stopped
abbrev pub fault_of : WorldStop → RunFault
fault_of stop.TooMuch = fault.TooMuch
fault_of stop.OutOfMemory = fault.OutOfMemory
