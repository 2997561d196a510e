-- Inside: what the code counts of a run.
use Rattle.std.specs.Prelude.{◌≡◌, ℕ, ◌<◌, ◌-◌, ◌^◌, List, [], ◌∷◌, ◌++◌, codes, decimal, length, Result, Ok, Err}
use Rattle.grasp_model_network.specs.Runs.{reports_from}
use Rattle.grasp_model_network.specs.Setting.{Setting, numbers_from}
use Rattle.grasp_model_network.specs.Visits.{Choice}
use Rattle.grasp_model_network.specs.World.{WorldState}
use Rattle.grasp_model_network.specs.declared.plan.WorldPlan.{WorldPlan}
use Rattle.grasp_model_network.specs.declared.report.Report.{Report}
use Rattle.grasp_script.specs.declared.line.Line.{Line}
use Rattle.grasp_script.specs.declared.line.LineAct.{LineAct}
use Rattle.grasp_model_script.specs.LineRuns.{LineRun, MayComeOut, after_act}
use Rattle.grasp_model_script.specs.ScriptRuns.{RunsSafely, happening_of, lines_of}
use Rattle.grasp_model_script.specs.Stops.{LineOverflows}
use Rattle.grasp_model_script.specs.Summary.{Counts, count_doubt, count_ends, count_held, counts_of, is_agreed, is_broken, is_declined, last_network, reports_of, summary_of}
use Rattle.grasp_simulator.specs.WorldStands.{WorldStands}
use Rattle.grasp_simulator.specs.declared.world.World.{World}
use Rattle.grasp_runner.specs.Lines.{MeetsLine, network_at}
use Rattle.grasp_runner.specs.Passing.{HasRun, StopsSo}
use Rattle.grasp_runner.specs.declared.fault.RunFault.{RunFault}
use Rattle.grasp_runner.specs.declared.fault.RunFault.TheVariants as fault
use Rattle.grasp_runner.specs.declared.summary.Counts.{Counts as CountsCode}
use Rattle.grasp_runner.specs.declared.tally.Tally.{Tally}

-- ---- reports

-- so much was counted of these reports
pub record IsTally (code : Tally) (reports : List Report) : Type 0 where
  pub events : code.events ≡ length reports
  pub agreed : code.agreed ≡ count_ends is_agreed reports
  pub declined : code.declined ≡ count_ends is_declined reports
  pub broken : code.broken ≡ count_ends is_broken reports

-- the tally is the count of some reports, which are fewer than can be counted
pub record CanCount (code : Tally) : Type 0 where
  pub reports : List Report
  pub is : IsTally code reports
  pub few : length reports < 2 ^ 64 - 1

-- ---- a line

-- what is reported of a line's event
abbrev pub act_reports : Setting → WorldState → LineAct → Choice → List Report
act_reports s w a c = reports_from s w (happening_of w a c)

-- the line came out so, the code stands for the network after it, and what is reported of it was counted
pub record ActCounted (code : World) (s : Setting) (w : WorldState) (a : LineAct) (before after : Tally) : Type 0 where
  pub choice : Choice
  pub comes : MayComeOut s w a choice
  pub stands : WorldStands code (network_at s (after_act s w a choice))
  pub counts : (reports : List Report) → IsTally before reports → IsTally after (reports ++ act_reports s w a choice)

abbrev pub ActCounts : World → Setting → WorldState → LineAct → Tally → Result Tally RunFault → Type 0
ActCounts code s w a before (Ok after) = ActCounted code s w a before after
ActCounts code s w a before (Err fault.TooMuch) = LineOverflows s w a
ActCounts code s w a before (Err fault.OutOfMemory) = Unit {0}
ActCounts code s w a before (Err fault.WriteFault) = ⊥

-- for each network for which the code went on
abbrev pub CountsAct : World → World → LineAct → Tally → Result Tally RunFault → Type 0
CountsAct code new a before result = (s : Setting) (w : WorldState) → MeetsLine code s w a → ActCounts new s w a before result

-- ---- the lines of a script

-- the lines of a script were run, and what is reported of them was counted
pub record HasCounted (plan : WorldPlan) (lines : List Line) (code : World) (tally : Tally) : Type 0 where
  pub run : List LineRun
  pub has_run : HasRun plan lines code run
  pub is : IsTally tally (reports_of plan run)

abbrev pub CountsLines : WorldPlan → List Line → World → Result Tally RunFault → Type 0
CountsLines plan lines code (Ok tally) = HasCounted plan lines code tally
CountsLines plan lines code (Err fault.TooMuch) = StopsSo plan lines
CountsLines plan lines code (Err fault.OutOfMemory) = Unit {0}
CountsLines plan lines code (Err fault.WriteFault) = ⊥

-- ---- what nodes hold

-- the code goes on for a network of so many nodes
pub record HasNodes (code : World) (nodes : ℕ) : Type 0 where
  pub setting : Setting
  pub network : WorldState
  pub stands : WorldStands code (network_at setting network)
  pub count : nodes ≡ length setting.members

-- no node has begun anew: the lives are the first ones of the members
abbrev pub HasFirstLives : Setting → WorldState → Type 0
HasFirstLives s w = w.lives ≡ numbers_from 1 (length s.members)

-- the nodes hold so many prefixes, for each network of first lives for which the code goes on
abbrev pub TellsHeld : World → ℕ → Type 0
TellsHeld code held = (s : Setting) (w : WorldState) → WorldStands code (network_at s w) → HasFirstLives s w → held ≡ count_held w

-- so many are in doubt
abbrev pub TellsDoubt : World → ℕ → Type 0
TellsDoubt code doubt = (s : Setting) (w : WorldState) → WorldStands code (network_at s w) → HasFirstLives s w → doubt ≡ count_doubt w

-- ---- the summary

-- the counts give this number of nodes and this tally, and how many prefixes the nodes hold and have in doubt
pub record TellsCounts (code : World) (nodes : ℕ) (tally : Tally) (counts : CountsCode) : Type 0 where
  pub nodes_are : counts.nodes ≡ nodes
  pub tally_is : counts.tally ≡ tally
  pub held : TellsHeld code counts.held
  pub doubt : TellsDoubt code counts.doubt

-- the counts as definitions name them
abbrev pub counted_of : CountsCode → Counts
counted_of c = record {
  nodes = c.nodes;
  events = c.tally.events;
  agreed = c.tally.agreed;
  declined = c.tally.declined;
  broken = c.tally.broken;
  held = c.held;
  doubt = c.doubt;
}

-- the counts of reports, each behind its word
abbrev pub tally_words : Tally → List (List ℕ)
tally_words t = codes "events" ∷ decimal t.events ∷ codes "agreed" ∷ decimal t.agreed ∷ codes "declined" ∷ decimal t.declined ∷ codes "broken" ∷ decimal t.broken ∷ []

-- the lines were run, and this was counted of their run
pub record IsCounted (plan : WorldPlan) (lines : List Line) (counts : CountsCode) : Type 0 where
  pub run : List LineRun
  pub is_run : lines_of run ≡ lines
  pub safely : RunsSafely plan run
  pub is : counted_of counts ≡ counts_of plan (reports_of plan run) (last_network plan run)

-- the lines were run, and this is the summary of their run
pub record IsSummaryLine (number : ℕ) (plan : WorldPlan) (lines : List Line) (written : List ℕ) : Type 0 where
  pub run : List LineRun
  pub is_run : lines_of run ≡ lines
  pub safely : RunsSafely plan run
  pub told : written ≡ summary_of number plan run
