-- What is so of the scripts that are drawn from numbers.
use Rattle.std.specs.Prelude.{◌≡◌, ℕ, List, length}
use Rattle.grasp_model_network.specs.declared.plan.WorldPlan.{WorldPlan}
use Rattle.grasp_script.specs.Scripts.{IsScript}
use Rattle.grasp_script.specs.declared.line.Line.{Line}
use Rattle.grasp_script_draws.specs.Generator.{script_of}

-- the text that is drawn from the number is a script of 16 nodes and 20,000 lines
pub record IsDrawnScript (number : ℕ) : Type 0 where
  pub plan : WorldPlan
  pub lines : List Line
  pub script : IsScript (script_of number) plan lines
  pub nodes : plan.nodes ≡ 16
  pub count : length lines ≡ 20000

-- the text that is drawn from any number is a script of 16 nodes and 20,000 lines
abbrev pub DrawnTextsAreScripts : Type 0
DrawnTextsAreScripts = (number : ℕ) → IsDrawnScript number
