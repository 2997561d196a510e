-- Laws on the runs of scripts.
use Rattle.std.specs.Prelude.{◌≡◌, ◌++◌, ℕ, Contains, List, [], ◌∷◌}
use Rattle.grasp_model_script.specs.Safe.{IsSafe}
use Rattle.grasp_model_network.specs.Runs.{IsRun, world_after, world_of, IsReached}
use Rattle.grasp_model_network.specs.Setting.{Setting, script_setting, numbers_from}
use Rattle.grasp_model_network.specs.World.{WorldState}
use Rattle.grasp_model_network.specs.declared.plan.WorldPlan.{WorldPlan}
use Rattle.grasp_model_network.specs.Plans.{IsGoodPlan}
use Rattle.grasp_model_script.specs.LineRuns.{LineRun, after_line}
use Rattle.grasp_script.specs.declared.line.Line.{Line}
use Rattle.grasp_model_script.specs.ScriptRuns.{MayRunAll, network_after, networks_from, happenings_from, RunsSafely, IsRunText, Replays}
use Rattle.grasp_model_script.specs.Stops.{SendsTooMuch, IsStoppedText, TextSendsTooMuch}
use Rattle.grasp_model_script.specs.Summary.{IsSummary}

-- a run of lines is a run of their events
pub record LinesRunEvents (s : Setting) (w : WorldState) (xs : List LineRun) : Type 0 where
  pub run : IsRun s w (happenings_from s w xs)
  pub last : network_after s w xs ≡ world_after s w (happenings_from s w xs)

abbrev pub RunsOfLinesAreRuns : Type 0
RunsOfLinesAreRuns = (s : Setting) (w : WorldState) (xs : List LineRun) → MayRunAll s w xs → LinesRunEvents s w xs

-- the networks of a run are all those on its way
pub record NetworksAreListed : Type 0 where
  -- no line leads nowhere, and each line leads on from where those before it led
  pub none : (s : Setting) (w : WorldState) → network_after s w [] ≡ w
  pub more : (s : Setting) (w : WorldState) (xs : List LineRun) (x : LineRun) → network_after s w (xs ++ x ∷ []) ≡ after_line s (network_after s w xs) x
  -- where any first lines lead is among them
  pub each : (s : Setting) (w : WorldState) (xs ys : List LineRun) → Contains (networks_from s w (xs ++ ys)) (network_after s w xs)

-- however lines come out in the network of a good plan, each network that they lead to is safe
abbrev pub EachRunIsSafe : Type 0
EachRunIsSafe = (plan : WorldPlan) (xs : List LineRun) → IsGoodPlan plan → MayRunAll (script_setting plan) (world_of plan) xs → RunsSafely plan xs

-- in whatever way turns lead to a network from the first one of a good setting, it is safe
abbrev pub EachNetworkIsSafe : Type 0
EachNetworkIsSafe = (s : Setting) (w : WorldState) → IsReached s w → IsSafe s w

-- a script settles nothing and restarts nobody
pub record ScriptsRestartNobody : Type 0 where
  pub lives : (plan : WorldPlan) (xs : List LineRun) → (network_after (script_setting plan) (world_of plan) xs).lives ≡ numbers_from 1 plan.nodes
  pub settled : (plan : WorldPlan) (xs : List LineRun) → (network_after (script_setting plan) (world_of plan) xs).settled ≡ []

-- ---- a script has one run

-- the run of a script has one text
pub record TextsAgree : Type 0 where
  -- of its lines in the network of a plan
  pub lines : (plan : WorldPlan) (lines : List Line) (a b : List ℕ) → IsRunText plan lines a → IsRunText plan lines b → a ≡ b
  -- up to where it sends too much
  pub stopped : (plan : WorldPlan) (lines : List Line) (a b : List ℕ) → IsStoppedText plan lines a → IsStoppedText plan lines b → a ≡ b
  -- of a text that is a script
  pub replays : (text a b : List ℕ) → Replays text a → Replays text b → a ≡ b
  -- a text that is a script has one summary for a number
  pub summaries : (text : List ℕ) (number : ℕ) (a b : List ℕ) → IsSummary text number a → IsSummary text number b → a ≡ b

-- a run that ends sends never too much
pub record RunsOrStops : Type 0 where
  pub lines : (plan : WorldPlan) (lines : List Line) (a : List ℕ) → IsRunText plan lines a → ¬ SendsTooMuch plan lines
  pub replays : (text a : List ℕ) → Replays text a → ¬ TextSendsTooMuch text
  pub summaries : (text : List ℕ) (number : ℕ) (a : List ℕ) → IsSummary text number a → ¬ TextSendsTooMuch text
