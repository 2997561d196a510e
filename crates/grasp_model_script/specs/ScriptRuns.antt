-- Scripts that are run: the networks that their lines lead to, and the text of their reports.
use Rattle.std.specs.Prelude.{◌≡◌, ℕ, All, List, [], ◌∷◌, ◌++◌, map}
use Rattle.grasp_model_network.specs.Runs.{Happening, world_of}
use Rattle.grasp_model_network.specs.Setting.{Setting, script_setting}
use Rattle.grasp_model_network.specs.Visits.{Choice}
use Rattle.grasp_model_network.specs.World.{WorldState}
use Rattle.grasp_model_network.specs.declared.plan.WorldPlan.{WorldPlan}
use Rattle.grasp_script.specs.Scripts.{IsScript}
use Rattle.grasp_script.specs.declared.line.Line.{Line}
use Rattle.grasp_script.specs.declared.line.LineAct.{LineAct}
use Rattle.grasp_script.specs.declared.line.LineAct.TheVariants as act
use Rattle.grasp_model_script.specs.LineRuns.{LineRun, MayRun, after_line, line_told, placed_event}
use Rattle.grasp_model_script.specs.Safe.{IsSafe}

-- ---- lines, one after the other from a network on

abbrev pub lines_of : List LineRun → List Line
lines_of xs = map (λ x. x.line) xs

-- the lines may come out so
unfoldable pub MayRunAll : Setting → WorldState → List LineRun → Type 0
MayRunAll s w [] = Unit {0}
MayRunAll s w (x ∷ xs) = MayRun s w x × MayRunAll s (after_line s w x) xs

-- the networks that they lead to: this one, and the one after each line
unfoldable pub networks_from : Setting → WorldState → List LineRun → List WorldState
networks_from s w [] = w ∷ []
networks_from s w (x ∷ xs) = w ∷ networks_from s (after_line s w x) xs

-- the last of them
unfoldable pub network_after : Setting → WorldState → List LineRun → WorldState
network_after s w [] = w
network_after s w (x ∷ xs) = network_after s (after_line s w x) xs

-- their reports, each ended by LF
unfoldable pub told_from : Setting → WorldState → List LineRun → List ℕ
told_from s w [] = []
told_from s w (x ∷ xs) = line_told s w x ++ 10 ∷ told_from s (after_line s w x) xs

-- the event of a line; a look is none
abbrev pub happening_of : WorldState → LineAct → Choice → List Happening
happening_of w (act.Event e) c = record { event = placed_event w e; choice = c } ∷ []
happening_of w (act.State node) c = []

-- their events
unfoldable pub happenings_from : Setting → WorldState → List LineRun → List Happening
happenings_from s w [] = []
happenings_from s w (x ∷ xs) = happening_of w x.line.act x.choice ++ happenings_from s (after_line s w x) xs

-- ---- from the first network of a plan, in which nothing has happened

-- the lines may come out so, and each network that they lead to is safe
pub record RunsSafely (plan : WorldPlan) (xs : List LineRun) : Type 0 where
  pub may_run : MayRunAll (script_setting plan) (world_of plan) xs
  pub safe : All (IsSafe (script_setting plan)) (networks_from (script_setting plan) (world_of plan) xs)

-- what is reported of them
abbrev pub told_of : WorldPlan → List LineRun → List ℕ
told_of plan xs = told_from (script_setting plan) (world_of plan) xs

-- the lines of a script were run, and this is the text of their reports
pub record IsRunText (plan : WorldPlan) (lines : List Line) (written : List ℕ) : Type 0 where
  pub run : List LineRun
  pub is_run : lines_of run ≡ lines
  pub safely : RunsSafely plan run
  pub told : written ≡ told_of plan run

-- the first of a script's lines were run, up to these, and this is the text of their reports
pub record IsBegunText (plan : WorldPlan) (lines rest : List Line) (written : List ℕ) : Type 0 where
  pub run : List LineRun
  pub is_run : lines_of run ++ rest ≡ lines
  pub safely : RunsSafely plan run
  pub told : written ≡ told_of plan run

-- ---- texts of scripts

-- the text is a script, which was run, and this is what its run reports
pub record Replays (text written : List ℕ) : Type 0 where
  pub plan : WorldPlan
  pub lines : List Line
  pub script : IsScript text plan lines
  pub run : IsRunText plan lines written

-- the first lines of the script that the text is were run, and this is what their run reports
pub record BeginsToReplay (text written : List ℕ) : Type 0 where
  pub plan : WorldPlan
  pub lines : List Line
  pub rest : List Line
  pub script : IsScript text plan lines
  pub run : IsBegunText plan lines rest written
