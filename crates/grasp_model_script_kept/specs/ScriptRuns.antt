-- Scripts of networks whose nodes crash that are run: the networks that their lines lead to, and the text of their reports.
use Rattle.std.specs.Prelude.{◌≡◌, ℕ, All, List, [], ◌∷◌, ◌++◌, map}
use Rattle.grasp_model_network.specs.Setting.{Setting, script_setting}
use Rattle.grasp_model_network.specs.declared.plan.WorldPlan.{WorldPlan}
use Rattle.grasp_script_kept.specs.Scripts.{IsKeptScript}
use Rattle.grasp_script_kept.specs.declared.line.KeptLine.{KeptLine}
use Rattle.grasp_model_script.specs.Safe.{IsSafe}
use Rattle.grasp_model_kept.specs.Runs.{KeptHappening, kept_networks}
use Rattle.grasp_model_kept.specs.World.{KeptState, first_kept}
use Rattle.grasp_model_script_kept.specs.LineRuns.{KeptLineOverflows, KeptLineRun, MayRunKept, after_kept_line, happening_of, kept_line_told, line_event}

-- ---- lines, one after the other from a network on

abbrev pub kept_lines_of : List KeptLineRun → List KeptLine
kept_lines_of xs = map (λ x. x.line) xs

-- the lines may come out so
unfoldable pub MayRunAllKept : Setting → KeptState → List KeptLineRun → Type 0
MayRunAllKept s k [] = Unit {0}
MayRunAllKept s k (x ∷ xs) = MayRunKept s k x × MayRunAllKept s (after_kept_line s k x) xs

-- the network and the disks that they lead to
unfoldable pub state_after : Setting → KeptState → List KeptLineRun → KeptState
state_after s k [] = k
state_after s k (x ∷ xs) = state_after s (after_kept_line s k x) xs

-- their reports, each ended by LF
unfoldable pub kept_told_from : Setting → KeptState → List KeptLineRun → List ℕ
kept_told_from s k [] = []
kept_told_from s k (x ∷ xs) = kept_line_told s k x ++ 10 ∷ kept_told_from s (after_kept_line s k x) xs

-- their events
unfoldable pub kept_happenings : Setting → KeptState → List KeptLineRun → List KeptHappening
kept_happenings s k [] = []
kept_happenings s k (x ∷ xs) = happening_of (line_event k.world x.line) x.choice ++ kept_happenings s (after_kept_line s k x) xs

-- ---- from the first network of a plan, in which nothing has happened, with disks on which nothing was written

abbrev pub kept_of : WorldPlan → KeptState
kept_of plan = first_kept (script_setting plan)

-- the lines may come out so, and each network that their events lead to is safe, also that at a crash, before the node begins anew
pub record RunsKeptSafely (plan : WorldPlan) (xs : List KeptLineRun) : Type 0 where
  pub may_run : MayRunAllKept (script_setting plan) (kept_of plan) xs
  pub safe : All (IsSafe (script_setting plan)) (kept_networks (script_setting plan) (kept_of plan) (kept_happenings (script_setting plan) (kept_of plan) xs))

-- what is reported of them
abbrev pub kept_told_of : WorldPlan → List KeptLineRun → List ℕ
kept_told_of plan xs = kept_told_from (script_setting plan) (kept_of plan) xs

-- the lines of a script were run, and this is the text of their reports
pub record IsKeptRunText (plan : WorldPlan) (lines : List KeptLine) (written : List ℕ) : Type 0 where
  pub run : List KeptLineRun
  pub is_run : kept_lines_of run ≡ lines
  pub safely : RunsKeptSafely plan run
  pub told : written ≡ kept_told_of plan run

-- the first of a script's lines were run, up to some, and this is the text of their reports
pub record IsKeptBegunText (plan : WorldPlan) (lines : List KeptLine) (written : List ℕ) : Type 0 where
  pub run : List KeptLineRun
  pub rest : List KeptLine
  pub is_run : kept_lines_of run ++ rest ≡ lines
  pub safely : RunsKeptSafely plan run
  pub told : written ≡ kept_told_of plan run

-- the first of a script's lines were run, and the event of the next one then sends too much
pub record KeptSendsTooMuch (plan : WorldPlan) (lines : List KeptLine) : Type 0 where
  pub run : List KeptLineRun
  pub line : KeptLine
  pub rest : List KeptLine
  pub is_run : kept_lines_of run ++ line ∷ rest ≡ lines
  pub safely : RunsKeptSafely plan run
  pub overflows : KeptLineOverflows (script_setting plan) (state_after (script_setting plan) (kept_of plan) run) line

-- the event of some line sends too much, and this is the text of the reports of the lines that were run before it
pub record IsKeptStoppedText (plan : WorldPlan) (lines : List KeptLine) (written : List ℕ) : Type 0 where
  pub stops : KeptSendsTooMuch plan lines
  pub told : written ≡ kept_told_of plan stops.run

-- ---- texts of scripts

-- the text is a script, which was run, and this is what its run reports
pub record KeepsReporting (text written : List ℕ) : Type 0 where
  pub plan : WorldPlan
  pub lines : List KeptLine
  pub script : IsKeptScript text plan lines
  pub run : IsKeptRunText plan lines written

-- the first lines of the script that the text is were run, and this is what their run reports
pub record BeginsToKeep (text written : List ℕ) : Type 0 where
  pub plan : WorldPlan
  pub lines : List KeptLine
  pub script : IsKeptScript text plan lines
  pub run : IsKeptBegunText plan lines written

-- the text is a script whose run sends more than may be sent, and this is what its run reports before that
pub record StopsKeeping (text written : List ℕ) : Type 0 where
  pub plan : WorldPlan
  pub lines : List KeptLine
  pub script : IsKeptScript text plan lines
  pub stopped : IsKeptStoppedText plan lines written

-- the text is a script whose run sends more than may be sent
pub record KeepsTooMuch (text : List ℕ) : Type 0 where
  pub plan : WorldPlan
  pub lines : List KeptLine
  pub script : IsKeptScript text plan lines
  pub stops : KeptSendsTooMuch plan lines
