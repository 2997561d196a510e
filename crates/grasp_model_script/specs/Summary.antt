-- One line that tells what the run of a script came to. Its layout is this project's own.
use Rattle.std.specs.Prelude.{◌≡◌, ℕ, Bool, true, false, List, [], ◌∷◌, ◌++◌, Option, None, Some, codes, count_by, decimal, length, sum_by}
use Rattle.grasp_agent.specs.Replies.{answer_in, progress_in}
use Rattle.grasp_types.specs.declared.session.By.{By}
use Rattle.grasp_types.specs.declared.session.By.TheVariants.{Mine, Theirs}
use Rattle.grasp_types.specs.declared.session.Outcome.{Outcome}
use Rattle.grasp_types.specs.declared.session.Outcome.TheVariants as outcome
use Rattle.grasp_types.specs.declared.session.Progress.{Progress}
use Rattle.grasp_types.specs.declared.session.Progress.TheVariants as progress
use Rattle.grasp_text.specs.Words.{spaced}
use Rattle.grasp_model_network.specs.Runs.{reports_from, world_of}
use Rattle.grasp_model_network.specs.Setting.{script_setting}
use Rattle.grasp_model_network.specs.World.{WorldState}
use Rattle.grasp_model_network.specs.declared.plan.WorldPlan.{WorldPlan}
use Rattle.grasp_model_network.specs.declared.report.Report.{Report}
use Rattle.grasp_model_network.specs.declared.report.Report.TheVariants as report
use Rattle.grasp_script.specs.Scripts.{IsScript}
use Rattle.grasp_script.specs.declared.line.Line.{Line}
use Rattle.grasp_model_script.specs.LineRuns.{LineRun}
use Rattle.grasp_model_script.specs.ScriptRuns.{RunsSafely, happenings_from, lines_of, network_after}

-- ---- how negotiations ended, as the agents of nodes were told

-- the end that a poll tells, where the session is over
abbrev pub end_in : Option Progress → Option Outcome
end_in None = None
end_in (Some p) = by_progress p where
  by_progress : Progress → Option Outcome
  by_progress (progress.Ended o) = Some o
  by_progress _ = None

-- the end that is told to the agent that makes its next call
abbrev pub told_end : Report → Option Outcome
told_end (report.Agent call reply) = end_in (progress_in (answer_in reply))
told_end _ = None

-- this node is the one that accepted
abbrev pub is_mine : By → Bool
is_mine Mine = true
is_mine Theirs = false

abbrev pub is_agreed : Outcome → Bool
is_agreed (outcome.Agreed by objective) = is_mine by
is_agreed _ = false

-- one of the two nodes declined
abbrev pub is_declined : Outcome → Bool
is_declined (outcome.Declined by reason) = true
is_declined _ = false

abbrev pub is_broken : Outcome → Bool
is_broken outcome.Broken = true
is_broken _ = false

-- an end of this kind
abbrev pub has_end : (Outcome → Bool) → Option Outcome → Bool
has_end kind None = false
has_end kind (Some o) = kind o

-- how many of the reports tell of an end of this kind
abbrev pub count_ends : (Outcome → Bool) → List Report → ℕ
count_ends kind reports = count_by (λ r. has_end kind (told_end r)) reports

-- ---- what nodes hold

-- how many prefixes all nodes hold, where no node has begun anew
abbrev pub count_held : WorldState → ℕ
count_held w = sum_by (λ seat. length seat.agent.pool.free) w.seats

-- how many they have in doubt, where no node has begun anew
abbrev pub count_doubt : WorldState → ℕ
count_doubt w = sum_by (λ seat. length seat.agent.pool.doubtful) w.seats

-- ---- the line

-- the numbers of the line
pub record Counts : Type 0 where
  pub nodes : ℕ
  pub events : ℕ
  pub agreed : ℕ
  pub declined : ℕ
  pub broken : ℕ
  pub held : ℕ
  pub doubt : ℕ

-- what is counted where these are the reports of the events, and this is the network after them
abbrev pub counts_of : WorldPlan → List Report → WorldState → Counts
counts_of plan reports last = record {
  nodes = plan.nodes;
  events = length reports;
  agreed = count_ends is_agreed reports;
  declined = count_ends is_declined reports;
  broken = count_ends is_broken reports;
  held = count_held last;
  doubt = count_doubt last;
}

-- the counts, each behind its word
abbrev pub counts_words : Counts → List (List ℕ)
counts_words c =
    codes "nodes" ∷ decimal c.nodes ∷ codes "events" ∷ decimal c.events ∷ codes "agreed" ∷ decimal c.agreed ∷ codes "declined" ∷ decimal c.declined ∷ codes "broken" ∷ decimal c.broken
    ∷ codes "held" ∷ decimal c.held ∷ codes "doubt" ∷ decimal c.doubt ∷ []

-- the line of these counts, of the script that is drawn from a number
unfoldable pub counts_line : ℕ → Counts → List ℕ
counts_line number c = codes "gen" ++ spaced (decimal number ∷ counts_words c)

-- what is reported of the events of lines, from the first network of a plan
abbrev pub reports_of : WorldPlan → List LineRun → List Report
reports_of plan xs = reports_from (script_setting plan) (world_of plan) (happenings_from (script_setting plan) (world_of plan) xs)

-- the network after them
abbrev pub last_network : WorldPlan → List LineRun → WorldState
last_network plan xs = network_after (script_setting plan) (world_of plan) xs

-- the line, ended by LF
abbrev pub summary_of : ℕ → WorldPlan → List LineRun → List ℕ
summary_of number plan xs = counts_line number (counts_of plan (reports_of plan xs) (last_network plan xs)) ++ 10 ∷ []

-- the text is a script, which was run, and this is the summary of its run
pub record IsSummary (text : List ℕ) (number : ℕ) (written : List ℕ) : Type 0 where
  pub plan : WorldPlan
  pub lines : List Line
  pub script : IsScript text plan lines
  pub run : List LineRun
  pub is_run : lines_of run ≡ lines
  pub safely : RunsSafely plan run
  pub told : written ≡ summary_of number plan run
