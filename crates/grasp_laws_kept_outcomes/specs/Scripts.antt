-- Each script with crashes has a run: of all its lines, or up to one whose event sends too much.
use Rattle.std.specs.Prelude.{◌≡◌, ◌⊎◌, ◌<◌, ◌^◌, ℕ, List, length, Some}
use Rattle.grasp_laws_outcomes.specs.Scripts.{SomeText}
use Rattle.grasp_model_kept.specs.Runs.{IsKeptFit}
use Rattle.grasp_model_kept.specs.World.{KeptState}
use Rattle.grasp_model_kept.specs.declared.event.KeptEvent.{KeptEvent}
use Rattle.grasp_model_network.specs.Setting.{script_setting}
use Rattle.grasp_model_network.specs.declared.plan.WorldPlan.{WorldPlan}
use Rattle.grasp_model_script_kept.specs.LineRuns.{line_event}
use Rattle.grasp_model_script_kept.specs.ScriptRuns.{IsKeptRunText, IsKeptStoppedText, KeepsReporting, KeepsTooMuch, KeptSendsTooMuch}
use Rattle.grasp_script_kept.specs.Lines.{IsKeptLine}
use Rattle.grasp_script_kept.specs.Scripts.{IsKeptScript}
use Rattle.grasp_script_kept.specs.declared.line.KeptLine.{KeptLine}

-- the event of a line of a script with so many nodes, or its crash, may be asked for in each network of its plan
abbrev pub KeptScriptEventsFit : Type 0
KeptScriptEventsFit = (plan : WorldPlan) (k : KeptState) (line : KeptLine) (e : KeptEvent) → IsKeptLine plan.nodes line → line_event k.world line ≡ Some e
    → IsKeptFit (script_setting plan) k e

pub record KeptScriptsRun : Type 0 where
  -- its lines in the network of its plan
  pub lines : (text : List ℕ) (plan : WorldPlan) (lines : List KeptLine) → IsKeptScript text plan lines → length lines < 2 ^ 32
      → SomeText (IsKeptRunText plan lines) ⊎ KeptSendsTooMuch plan lines
  -- the text, which is this script
  pub reports : (text : List ℕ) (plan : WorldPlan) (lines : List KeptLine) → IsKeptScript text plan lines → length lines < 2 ^ 32
      → SomeText (KeepsReporting text) ⊎ KeepsTooMuch text
  -- where it sends too much, up to there
  pub stopped : (plan : WorldPlan) (lines : List KeptLine) → KeptSendsTooMuch plan lines → SomeText (IsKeptStoppedText plan lines)
