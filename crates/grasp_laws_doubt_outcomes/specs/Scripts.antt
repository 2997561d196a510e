-- Each script of doubters has a run: of all its lines, or up to one that sends too much.
use Rattle.std.specs.Prelude.{◌≡◌, ◌⊎◌, ℕ, List, Some}
use Rattle.grasp_laws_outcomes.specs.Scripts.{SomeText}
use Rattle.grasp_model_doubts.specs.Events.{IsDoubtFit}
use Rattle.grasp_model_doubts.specs.World.{DoubtState}
use Rattle.grasp_model_doubts.specs.declared.event.DoubtEvent.{DoubtEvent}
use Rattle.grasp_model_network.specs.Setting.{script_setting}
use Rattle.grasp_model_network.specs.declared.plan.WorldPlan.{WorldPlan}
use Rattle.grasp_model_script_doubts.specs.LineRuns.{act_event}
use Rattle.grasp_model_script_doubts.specs.ScriptRuns.{DoubtsSendTooMuch, IsDoubtRunText, IsDoubtStoppedText, Resolves, ResolvesTooMuch}
use Rattle.grasp_script_doubts.specs.Lines.{IsDoubtAct}
use Rattle.grasp_script_doubts.specs.Scripts.{IsDoubtScript}
use Rattle.grasp_script_doubts.specs.declared.line.DoubtLine.{DoubtLine}
use Rattle.grasp_script_doubts.specs.declared.line.DoubtLineAct.{DoubtLineAct}

-- what a line of a script with so many nodes does may be asked for in each network of its plan
abbrev pub DoubtScriptEventsFit : Type 0
DoubtScriptEventsFit = (plan : WorldPlan) (x : DoubtState) (a : DoubtLineAct) (e : DoubtEvent) → IsDoubtAct plan.nodes a → act_event x.world a ≡ Some e
    → IsDoubtFit (script_setting plan) x e

pub record DoubtScriptsRun : Type 0 where
  -- its lines in the network of its plan
  pub lines : (text : List ℕ) (plan : WorldPlan) (lines : List DoubtLine) → IsDoubtScript text plan lines
      → SomeText (IsDoubtRunText plan lines) ⊎ DoubtsSendTooMuch plan lines
  -- the text, which is this script
  pub reports : (text : List ℕ) (plan : WorldPlan) (lines : List DoubtLine) → IsDoubtScript text plan lines → SomeText (Resolves text) ⊎ ResolvesTooMuch text
  -- where it sends too much, up to there
  pub stopped : (plan : WorldPlan) (lines : List DoubtLine) → DoubtsSendTooMuch plan lines → SomeText (IsDoubtStoppedText plan lines)
