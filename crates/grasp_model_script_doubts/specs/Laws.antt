-- Laws on the runs of scripts of networks of doubters.
use Rattle.std.specs.Prelude.{◌≡◌, ℕ, List}
use Rattle.grasp_model_network.specs.Plans.{IsGoodPlan}
use Rattle.grasp_model_network.specs.Setting.{script_setting}
use Rattle.grasp_model_network.specs.declared.plan.WorldPlan.{WorldPlan}
use Rattle.grasp_script_doubts.specs.declared.line.DoubtLine.{DoubtLine}
use Rattle.grasp_model_script_doubts.specs.LineRuns.{DoubtLineRun}
use Rattle.grasp_model_script_doubts.specs.ScriptRuns.{DoubtsSendTooMuch, IsDoubtRunText, MayRunAllDoubts, Resolves, ResolvesTooMuch, RunsDoubtsSafely, StopsResolving, doubts_of}

-- however the lines of a script come out in the network of a good plan, each network that they lead to is safe, and each prefix that is settled is dead
abbrev pub EachDoubtRunIsSafe : Type 0
EachDoubtRunIsSafe = (plan : WorldPlan) (ls : List DoubtLineRun) → IsGoodPlan plan → MayRunAllDoubts (script_setting plan) (doubts_of plan) ls → RunsDoubtsSafely plan ls

-- the run of a script has one text
pub record DoubtTextsAgree : Type 0 where
  -- of its lines in the network of a plan
  pub lines : (plan : WorldPlan) (lines : List DoubtLine) (a b : List ℕ) → IsDoubtRunText plan lines a → IsDoubtRunText plan lines b → a ≡ b
  -- of a text that is a script
  pub texts : (text a b : List ℕ) → Resolves text a → Resolves text b → a ≡ b
  -- up to where it sends too much
  pub stopped : (text a b : List ℕ) → StopsResolving text a → StopsResolving text b → a ≡ b

-- a run that ends sends never too much
pub record DoubtRunsOrStop : Type 0 where
  pub lines : (plan : WorldPlan) (lines : List DoubtLine) (a : List ℕ) → IsDoubtRunText plan lines a → ¬ DoubtsSendTooMuch plan lines
  pub texts : (text a : List ℕ) → Resolves text a → ¬ ResolvesTooMuch text
