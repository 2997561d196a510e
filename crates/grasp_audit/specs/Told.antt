-- Inside: what a line says that its node answered.
use Rattle.std.specs.Prelude.{◌≤◌, ℕ, List}
use Rattle.grasp_model_network.specs.declared.event.Event.{Event}
use Rattle.grasp_model_network.specs.declared.event.Event.TheVariants as event
use Rattle.grasp_record.specs.Records.{IsRecordLine}
use Rattle.grasp_record.specs.declared.line.RecordAnswer.TheVariants as answer
use Rattle.grasp_record.specs.declared.line.RecordInput.TheVariants as took
use Rattle.grasp_record.specs.declared.line.RecordLine.{RecordLine}
use Rattle.grasp_types.specs.declared.traffic.Output.{Output}

-- the text is this line of a record
pub record IsWritten (text : List ℕ) (x : RecordLine) : Type 0 where
  pub nodes : ℕ
  pub few : nodes ≤ 255
  pub is_line : IsRecordLine nodes text x

-- the event isn't a drain
abbrev pub IsNoDrain : Event → Type 0
IsNoDrain (event.Drain node max) = ⊥
IsNoDrain _ = Unit {0}

-- a line of a drain that gives these outputs
abbrev pub line_of_drain : List Output → RecordLine
line_of_drain outputs = record { node = 1; now = 0; input = took.Drain 0; answer = answer.Outputs outputs }
