-- Each script has a run: of all its lines, or up to one whose event sends too much.
use Rattle.std.specs.Prelude.{ℕ, ◌⊎◌, List, length}
use Rattle.grasp_model_network.specs.Events.{IsFit}
use Rattle.grasp_model_network.specs.Setting.{Setting, script_setting}
use Rattle.grasp_model_network.specs.World.{WorldState}
use Rattle.grasp_model_network.specs.declared.event.Event.{Event}
use Rattle.grasp_model_network.specs.declared.plan.WorldPlan.{WorldPlan}
use Rattle.grasp_script.specs.Acts.{IsEvent}
use Rattle.grasp_script.specs.Scripts.{IsScript}
use Rattle.grasp_script.specs.declared.line.Line.{Line}
use Rattle.grasp_model_script.specs.LineRuns.{placed_event}
use Rattle.grasp_model_script.specs.ScriptRuns.{IsRunText, Replays}
use Rattle.grasp_model_script.specs.Stops.{SendsTooMuch, IsStoppedText, TextSendsTooMuch}
use Rattle.grasp_model_script.specs.Summary.{IsSummary}

-- the event of a line of a script with so many nodes may be asked for in each network of its plan
abbrev pub ScriptEventsFit : Type 0
ScriptEventsFit = (plan : WorldPlan) (w : WorldState) (e : Event) → IsEvent plan.nodes e → IsFit (script_setting plan) w (placed_event w e)

-- some text is so
abbrev pub SomeText : (List ℕ → Type 0) → Type 0
SomeText Is = (written : List ℕ) × Is written

pub record ScriptsRun : Type 0 where
  -- its lines in the network of its plan
  pub lines : (text : List ℕ) (plan : WorldPlan) (lines : List Line) → IsScript text plan lines → SomeText (IsRunText plan lines) ⊎ SendsTooMuch plan lines
  -- the text, which is this script
  pub replays : (text : List ℕ) (plan : WorldPlan) (lines : List Line) → IsScript text plan lines → SomeText (Replays text) ⊎ TextSendsTooMuch text
  -- with a number from which it was drawn
  pub summaries : (text : List ℕ) (number : ℕ) (plan : WorldPlan) (lines : List Line) → IsScript text plan lines
      → SomeText (IsSummary text number) ⊎ TextSendsTooMuch text
  -- where it sends too much, up to there
  pub stopped : (plan : WorldPlan) (lines : List Line) → SendsTooMuch plan lines → SomeText (IsStoppedText plan lines)
