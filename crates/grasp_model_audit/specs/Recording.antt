-- What the record of a run has for each line of a script.
use Rattle.std.specs.Prelude.{ℕ, Bool, true, false, List, [], ◌∷◌, ◌++◌, map, Option, None, Some}
use Rattle.grasp_model_node.specs.Begin.{begin}
use Rattle.grasp_model_node.specs.Draining.{drained}
use Rattle.grasp_model_node.specs.Node.{NodeState}
use Rattle.grasp_types.specs.declared.call.Call.{Call}
use Rattle.grasp_types.specs.declared.refusal.ApiRefused.TheVariants as refusal
use Rattle.grasp_types.specs.declared.reply.Reply.{Reply}
use Rattle.grasp_types.specs.declared.reply.Reply.TheVariants as reply
use Rattle.grasp_types.specs.declared.traffic.Input.{Input}
use Rattle.grasp_types.specs.declared.traffic.Input.TheVariants as input
use Rattle.grasp_model_network.specs.EventSteps.{returning_reply, wanting_reply}
use Rattle.grasp_model_network.specs.Events.{after_event, drains, visit_of}
use Rattle.grasp_model_network.specs.Sending.{event_drain}
use Rattle.grasp_model_network.specs.Setting.{Setting}
use Rattle.grasp_model_network.specs.Visits.{Choice, Visit}
use Rattle.grasp_model_network.specs.World.{WorldState, member_of, present_life}
use Rattle.grasp_model_network.specs.declared.event.Event.{Event}
use Rattle.grasp_model_network.specs.declared.event.Event.TheVariants as event
use Rattle.grasp_script.specs.declared.line.LineAct.{LineAct}
use Rattle.grasp_script.specs.declared.line.LineAct.TheVariants as act
use Rattle.grasp_model_script.specs.LineRuns.{LineRun, placed_event}
use Rattle.grasp_record.specs.Records.{record_line}
use Rattle.grasp_record.specs.declared.line.RecordAnswer.{RecordAnswer}
use Rattle.grasp_record.specs.declared.line.RecordAnswer.TheVariants as answer
use Rattle.grasp_record.specs.declared.line.RecordInput.{RecordInput}
use Rattle.grasp_record.specs.declared.line.RecordInput.TheVariants as took
use Rattle.grasp_record.specs.declared.line.RecordLine.{RecordLine}
use Rattle.grasp_model_audit.specs.Naming.{reading_of}

-- ---- steps

-- a call is the node's own agent's where the event says so
abbrev pub took_call : Event → ℕ → Call → RecordInput
took_call (event.Agent node hold) asa call = took.Agent call
took_call _ asa call = took.Api asa call

-- what a node took at the event
abbrev pub took_by : Event → Input → RecordInput
took_by e (input.Api asa call) = took_call e asa call
took_by e (input.Datagram link from bytes) = took.Datagram link from bytes
took_by e (input.Opened stream from) = took.Opened stream from
took_by e (input.Bytes stream bytes) = took.Bytes stream bytes
took_by e (input.Closed stream) = took.Closed stream
took_by e (input.Drain max) = took.Drain max

-- what it answered; a step for which there was no memory is in no record
abbrev pub answer_by : Reply → RecordAnswer
answer_by (reply.Api a) = answer.Api a
answer_by (reply.Refused r) = answer.Refused r
answer_by (reply.Outputs outputs) = answer.Outputs outputs
answer_by reply.Taken = answer.Taken
answer_by reply.Turned = answer.Turned
answer_by reply.OutOfMemory = answer.Refused refusal.OutOfMemory

-- the line of a step of this node, which has this reading then
abbrev pub step_line : ℕ → ℕ → Event → Visit → Choice → RecordLine
step_line node now e v c = record { node = node; now = now; input = took_by e v.input; answer = answer_by c.reply }

-- what the drain behind an event gives, where the event's step has left the node so
abbrev pub given_behind : NodeState → RecordAnswer
given_behind n = answer.Outputs (drained (begin n n.reading) event_drain)

-- the line of the drain behind a step, where one is there
abbrev pub drain_lines : Bool → ℕ → ℕ → Choice → List RecordLine
drain_lines true node now c = record { node = node; now = now; input = took.Drain event_drain; answer = given_behind c.after } ∷ []
drain_lines false node now c = []

abbrev pub step_lines : ℕ → ℕ → Event → Visit → Choice → List RecordLine
step_lines node now e v c = step_line node now e v c ∷ drain_lines (drains e) node now c

-- ---- events

-- a want and a return are answered by the node's own agent. Nothing is told of an event that comes to nothing
abbrev pub untaken_lines : Setting → WorldState → Event → Choice → List RecordLine
untaken_lines s w (event.Want node length longest peer) c =
    record { node = node; now = reading_of (after_event s w (event.Want node length longest peer) c) node; input = took.Want length longest peer; answer = answer.Want (wanting_reply w (present_life w node)) } ∷ []
untaken_lines s w (event.Return node prefix peer) c =
    record { node = node; now = reading_of (after_event s w (event.Return node prefix peer) c) node; input = took.Return prefix peer; answer = answer.Return (returning_reply w (present_life w node) prefix) } ∷ []
untaken_lines s w _ c = []

abbrev pub lines_by : Setting → WorldState → Event → Choice → Option Visit → List RecordLine
lines_by s w e c None = untaken_lines s w e c
lines_by s w e c (Some v) = step_lines (member_of w v.node) (reading_of (after_event s w e c) (member_of w v.node)) e v c

-- the lines of an event that came out so: that of its step, of a want or of a return, and that of the drain behind it, where there is one;
-- each tells the reading that the node has after the event
unfoldable pub event_lines : Setting → WorldState → Event → Choice → List RecordLine
event_lines s w e c = lines_by s w e c (visit_of s w e)

-- ---- lines of a script

-- a look at a node isn't recorded
abbrev pub act_lines : Setting → WorldState → LineAct → Choice → List RecordLine
act_lines s w (act.Event e) c = event_lines s w (placed_event w e) c
act_lines s w (act.State node) c = []

-- lines, each ended by LF
abbrev pub ended_lines : List (List ℕ) → List ℕ
ended_lines [] = []
ended_lines (line ∷ lines) = line ++ 10 ∷ ended_lines lines

-- the record lines of one line of a script, which came out so
unfoldable pub record_text : Setting → WorldState → LineAct → Choice → List ℕ
record_text s w a c = ended_lines (map record_line (act_lines s w a c))

abbrev pub line_recorded : Setting → WorldState → LineRun → List ℕ
line_recorded s w x = record_text s w x.line.act x.choice
