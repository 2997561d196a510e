-- What `replay`, `keep` and `resolve` make of an input: the text of the run of the script that the input is.
use Rattle.std.specs.Prelude.{ℕ, ◌≤◌, List, length}
use Rattle.grasp_laws_settled.specs.Resolved.{DoubtsAreResolved}
use Rattle.grasp_model_network.specs.Setting.{script_setting}
use Rattle.grasp_model_network.specs.declared.plan.WorldPlan.{WorldPlan}
use Rattle.grasp_script.specs.Scripts.{text_lines, IsScript}
use Rattle.grasp_script.specs.declared.line.Line.{Line}
use Rattle.grasp_model_script.specs.Stops.{IsStoppedText, SendsTooMuch}
use Rattle.grasp_model_script_doubts.specs.LineRuns.{DoubtLineRun}
use Rattle.grasp_model_script_doubts.specs.ScriptRuns.{DoubtsSendTooMuch, Resolves, StopsResolving, doubts_of, state_after}
use Rattle.grasp_model_script_kept.specs.ScriptRuns.{KeptSendsTooMuch}
use Rattle.grasp_script_doubts.specs.Scripts.{IsDoubtScript}
use Rattle.grasp_script_doubts.specs.declared.line.DoubtLine.{DoubtLine}
use Rattle.grasp_script_kept.specs.Scripts.{IsKeptScript}
use Rattle.grasp_script_kept.specs.declared.line.KeptLine.{KeptLine}
use Rattle.grasp_replay_main.specs.Limits.{line_limit}

-- the input is a script whose run sends more than may be sent, and the output is what its run reports before that
pub record Stops (input output : List ℕ) : Type 0 where
  pub plan : WorldPlan
  pub lines : List Line
  pub script : IsScript input plan lines
  pub stopped : IsStoppedText plan lines output

-- the input is a script of few enough lines, whose run doesn't send too much
pub record IsShortScript (input : List ℕ) (plan : WorldPlan) (lines : List Line) : Type 0 where
  pub script : IsScript input plan lines
  pub few : length (text_lines input) ≤ line_limit
  pub fits : ¬ SendsTooMuch plan lines

-- the input is such a script of a network whose nodes crash
pub record IsShortKeptScript (input : List ℕ) (plan : WorldPlan) (lines : List KeptLine) : Type 0 where
  pub script : IsKeptScript input plan lines
  pub few : length (text_lines input) ≤ line_limit
  pub fits : ¬ KeptSendsTooMuch plan lines

-- the input is such a script of a network of doubters
pub record IsShortDoubtScript (input : List ℕ) (plan : WorldPlan) (lines : List DoubtLine) : Type 0 where
  pub script : IsDoubtScript input plan lines
  pub few : length (text_lines input) ≤ line_limit
  pub fits : ¬ DoubtsSendTooMuch plan lines

-- in the network that the run of these lines leads to, each prefix that was settled was asked for, and is accepted never
abbrev pub AreSettledDead : WorldPlan → List DoubtLineRun → Type 0
AreSettledDead plan run = DoubtsAreResolved (script_setting plan) (state_after (script_setting plan) (doubts_of plan) run)

-- the input is a script of a network of doubters, which was run, and the output is what its run reports; so it is with each prefix that was settled
pub record Settles (input output : List ℕ) : Type 0 where
  pub resolves : Resolves input output
  pub settled : AreSettledDead resolves.plan resolves.run.run

-- the input is such a script whose run sends more than may be sent, and the output is what its run reports before that; so it is then with each
-- prefix that was settled
pub record StopsSettling (input output : List ℕ) : Type 0 where
  pub stops : StopsResolving input output
  pub settled : AreSettledDead stops.plan stops.stopped.stops.run
