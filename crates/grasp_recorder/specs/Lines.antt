-- What the code promises of the record of one line of a script.
use Rattle.std.specs.Prelude.{◌≡◌, ◌-◌, ℕ, List, length, slice_get, Some, Result, Ok, Err}
use Rattle.grasp_model_network.specs.Plans.{IsNode}
use Rattle.grasp_model_network.specs.Setting.{Setting}
use Rattle.grasp_model_network.specs.Visits.{Choice}
use Rattle.grasp_model_network.specs.World.{WorldState}
use Rattle.grasp_model_network.specs.declared.report.WorldStop.{WorldStop}
use Rattle.grasp_model_network.specs.declared.report.WorldStop.TheVariants as stop
use Rattle.grasp_script.specs.declared.line.LineAct.{LineAct}
use Rattle.grasp_model_script.specs.LineRuns.{MayComeOut, after_act}
use Rattle.grasp_model_script.specs.Stops.{LineOverflows}
use Rattle.grasp_model_audit.specs.Naming.{reading_of}
use Rattle.grasp_model_audit.specs.Recording.{record_text}
use Rattle.grasp_simulator.specs.WorldStands.{WorldStands}
use Rattle.grasp_simulator.specs.declared.world.World.{World}
use Rattle.grasp_runner.specs.Lines.{MeetsLine, network_at}
use Rattle.grasp_recorder.specs.declared.recorder.Recorder.{Recorder}

-- the recorder knows the reading of each node of the network
abbrev pub KnowsReadings : Recorder → Setting → WorldState → Type 0
KnowsReadings recorder s w = (node : ℕ) → IsNode (length s.members) node → slice_get recorder.readings (node - 1) ≡ Some (reading_of w node)

-- the code goes on for this network, of which the recorder knows the readings, and a script of so many nodes as it has can have this line
pub record MeetsRecord (recorder : Recorder) (code : World) (s : Setting) (w : WorldState) (a : LineAct) : Type 0 where
  pub meets : MeetsLine code s w a
  pub knows : KnowsReadings recorder s w

-- it does so for some network
pub record CanRecord (recorder : Recorder) (code : World) (a : LineAct) : Type 0 where
  pub setting : Setting
  pub network : WorldState
  pub meets : MeetsRecord recorder code setting network a

-- the line came out so, and this is the text of its record lines; the code stands for the network after it, of which the recorder knows the
-- readings
pub record LineRecorded (recorder : Recorder) (code : World) (s : Setting) (w : WorldState) (a : LineAct) (written : List ℕ) : Type 0 where
  pub choice : Choice
  pub comes : MayComeOut s w a choice
  pub written_is : written ≡ record_text s w a choice
  pub stands : WorldStands code (network_at s (after_act s w a choice))
  pub knows : KnowsReadings recorder s (after_act s w a choice)

-- why the line may stop the network: its event sends too much, or, at any time, for want of memory
abbrev pub LineMayStop : Setting → WorldState → LineAct → WorldStop → Type 0
LineMayStop s w a stop.TooMuch = LineOverflows s w a
LineMayStop s w a stop.OutOfMemory = Unit {0}

abbrev pub RecordAnswers : Recorder → World → Setting → WorldState → LineAct → Result (List ℕ) WorldStop → Type 0
RecordAnswers recorder code s w a (Ok written) = LineRecorded recorder code s w a written
RecordAnswers recorder code s w a (Err why) = LineMayStop s w a why

-- for each network for which the code went on, and of which the recorder knew the readings
abbrev pub RecordsAct : Recorder → World → Recorder → World → LineAct → Result (List ℕ) WorldStop → Type 0
RecordsAct recorder code then after a result = (s : Setting) (w : WorldState) → MeetsRecord recorder code s w a → RecordAnswers then after s w a result
