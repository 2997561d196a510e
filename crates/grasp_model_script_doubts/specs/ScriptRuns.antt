-- Scripts of networks of doubters that are run: the networks that their lines lead to, and the text of their reports.
use Rattle.std.specs.Prelude.{◌≡◌, ℕ, All, List, [], ◌∷◌, ◌++◌, map}
use Rattle.grasp_model_network.specs.Setting.{Setting, script_setting}
use Rattle.grasp_model_network.specs.declared.plan.WorldPlan.{WorldPlan}
use Rattle.grasp_script_doubts.specs.Scripts.{IsDoubtScript}
use Rattle.grasp_script_doubts.specs.declared.line.DoubtLine.{DoubtLine}
use Rattle.grasp_model_script.specs.Safe.{IsSafe}
use Rattle.grasp_model_doubts.specs.Runs.{DoubtTurn, IsDoubted, doubt_networks}
use Rattle.grasp_model_doubts.specs.Openings.{first_doubts}
use Rattle.grasp_model_doubts.specs.World.{DoubtState}
use Rattle.grasp_model_script_doubts.specs.LineRuns.{DoubtLineOverflows, DoubtLineRun, MayRunDoubts, act_event, after_doubt_line, doubt_line_told, turn_of}
use Rattle.grasp_model_script_doubts.specs.Settlings.{AllSettleDead}

-- ---- lines, one after the other from a network on

abbrev pub doubt_lines_of : List DoubtLineRun → List DoubtLine
doubt_lines_of ls = map (λ l. l.line) ls

-- the lines may come out so
unfoldable pub MayRunAllDoubts : Setting → DoubtState → List DoubtLineRun → Type 0
MayRunAllDoubts s x [] = Unit {0}
MayRunAllDoubts s x (l ∷ ls) = MayRunDoubts s x l × MayRunAllDoubts s (after_doubt_line s x l) ls

-- the network and the doubters that they lead to
unfoldable pub state_after : Setting → DoubtState → List DoubtLineRun → DoubtState
state_after s x [] = x
state_after s x (l ∷ ls) = state_after s (after_doubt_line s x l) ls

-- their reports, each ended by LF
unfoldable pub doubt_told_from : Setting → DoubtState → List DoubtLineRun → List ℕ
doubt_told_from s x [] = []
doubt_told_from s x (l ∷ ls) = doubt_line_told s x l ++ 10 ∷ doubt_told_from s (after_doubt_line s x l) ls

-- what happens in them
unfoldable pub doubt_turns : Setting → DoubtState → List DoubtLineRun → List DoubtTurn
doubt_turns s x [] = []
doubt_turns s x (l ∷ ls) = turn_of (act_event x.world l.line.act) l.choice ++ doubt_turns s (after_doubt_line s x l) ls

-- ---- from the first network of a plan, in which each doubter has made its opening calls and nothing else has happened

abbrev pub doubts_of : WorldPlan → DoubtState
doubts_of plan = first_doubts (script_setting plan)

-- the lines may come out so; each network that they lead to is safe, also that before a prefix is settled; each prefix that is settled is dead just
-- then; and the last one is one that events lead to in a network of doubters, so that what is so of all these is so of it
pub record RunsDoubtsSafely (plan : WorldPlan) (ls : List DoubtLineRun) : Type 0 where
  pub may_run : MayRunAllDoubts (script_setting plan) (doubts_of plan) ls
  pub safe : All (IsSafe (script_setting plan)) (doubt_networks (script_setting plan) (doubts_of plan) (doubt_turns (script_setting plan) (doubts_of plan) ls))
  pub dead : AllSettleDead (script_setting plan) (doubts_of plan) (doubt_turns (script_setting plan) (doubts_of plan) ls)
  pub doubted : IsDoubted (script_setting plan) (state_after (script_setting plan) (doubts_of plan) ls)

-- what is reported of them
abbrev pub doubt_told_of : WorldPlan → List DoubtLineRun → List ℕ
doubt_told_of plan ls = doubt_told_from (script_setting plan) (doubts_of plan) ls

-- the lines of a script were run, and this is the text of their reports
pub record IsDoubtRunText (plan : WorldPlan) (lines : List DoubtLine) (written : List ℕ) : Type 0 where
  pub run : List DoubtLineRun
  pub is_run : doubt_lines_of run ≡ lines
  pub safely : RunsDoubtsSafely plan run
  pub told : written ≡ doubt_told_of plan run

-- the first of a script's lines were run, up to some, and this is the text of their reports
pub record IsDoubtBegunText (plan : WorldPlan) (lines : List DoubtLine) (written : List ℕ) : Type 0 where
  pub run : List DoubtLineRun
  pub rest : List DoubtLine
  pub is_run : doubt_lines_of run ++ rest ≡ lines
  pub safely : RunsDoubtsSafely plan run
  pub told : written ≡ doubt_told_of plan run

-- the first of a script's lines were run, and the next one then sends too much
pub record DoubtsSendTooMuch (plan : WorldPlan) (lines : List DoubtLine) : Type 0 where
  pub run : List DoubtLineRun
  pub line : DoubtLine
  pub rest : List DoubtLine
  pub is_run : doubt_lines_of run ++ line ∷ rest ≡ lines
  pub safely : RunsDoubtsSafely plan run
  pub overflows : DoubtLineOverflows (script_setting plan) (state_after (script_setting plan) (doubts_of plan) run) line.act

-- some line sends too much, and this is the text of the reports of the lines that were run before it
pub record IsDoubtStoppedText (plan : WorldPlan) (lines : List DoubtLine) (written : List ℕ) : Type 0 where
  pub stops : DoubtsSendTooMuch plan lines
  pub told : written ≡ doubt_told_of plan stops.run

-- ---- texts of scripts

-- the text is a script, which was run, and this is what its run reports
pub record Resolves (text written : List ℕ) : Type 0 where
  pub plan : WorldPlan
  pub lines : List DoubtLine
  pub script : IsDoubtScript text plan lines
  pub run : IsDoubtRunText plan lines written

-- the first lines of the script that the text is were run, and this is what their run reports
pub record BeginsToResolve (text written : List ℕ) : Type 0 where
  pub plan : WorldPlan
  pub lines : List DoubtLine
  pub script : IsDoubtScript text plan lines
  pub run : IsDoubtBegunText plan lines written

-- the text is a script whose run sends more than may be sent, and this is what its run reports before that
pub record StopsResolving (text written : List ℕ) : Type 0 where
  pub plan : WorldPlan
  pub lines : List DoubtLine
  pub script : IsDoubtScript text plan lines
  pub stopped : IsDoubtStoppedText plan lines written

-- the text is a script whose run sends more than may be sent
pub record ResolvesTooMuch (text : List ℕ) : Type 0 where
  pub plan : WorldPlan
  pub lines : List DoubtLine
  pub script : IsDoubtScript text plan lines
  pub stops : DoubtsSendTooMuch plan lines
