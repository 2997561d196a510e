-- Laws on the runs of scripts of networks whose nodes crash.
use Rattle.std.specs.Prelude.{◌≡◌, ◌<◌, ◌^◌, ℕ, List, length}
use Rattle.grasp_model_network.specs.Plans.{IsGoodPlan}
use Rattle.grasp_model_network.specs.Setting.{script_setting}
use Rattle.grasp_model_network.specs.declared.plan.WorldPlan.{WorldPlan}
use Rattle.grasp_script_kept.specs.declared.line.KeptLine.{KeptLine}
use Rattle.grasp_model_script_kept.specs.LineRuns.{KeptLineRun}
use Rattle.grasp_model_script_kept.specs.ScriptRuns.{IsKeptRunText, KeepsReporting, KeepsTooMuch, KeptSendsTooMuch, MayRunAllKept, RunsKeptSafely, StopsKeeping, kept_of}

-- however fewer than 2^32 lines come out in the network of a good plan, each network that their events lead to is safe, over all restarts
abbrev pub EachKeptRunIsSafe : Type 0
EachKeptRunIsSafe = (plan : WorldPlan) (xs : List KeptLineRun) → IsGoodPlan plan → length xs < 2 ^ 32 → MayRunAllKept (script_setting plan) (kept_of plan) xs → RunsKeptSafely plan xs

-- the run of a script has one text
pub record KeptTextsAgree : Type 0 where
  -- of its lines in the network of a plan
  pub lines : (plan : WorldPlan) (lines : List KeptLine) (a b : List ℕ) → IsKeptRunText plan lines a → IsKeptRunText plan lines b → a ≡ b
  -- of a text that is a script
  pub texts : (text a b : List ℕ) → KeepsReporting text a → KeepsReporting text b → a ≡ b
  -- up to where it sends too much
  pub stopped : (text a b : List ℕ) → StopsKeeping text a → StopsKeeping text b → a ≡ b

-- a run that ends sends never too much
pub record KeptRunsOrStop : Type 0 where
  pub lines : (plan : WorldPlan) (lines : List KeptLine) (a : List ℕ) → IsKeptRunText plan lines a → ¬ KeptSendsTooMuch plan lines
  pub texts : (text a : List ℕ) → KeepsReporting text a → ¬ KeepsTooMuch text
