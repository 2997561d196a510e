-- What a record line means once it is written: a session is told by its number alone.
use Rattle.std.specs.Prelude.{ℕ, List}
use Rattle.std.specs.List.{AllByRecursion}
use Rattle.grasp_types.specs.declared.call.Call.{Call}
use Rattle.grasp_types.specs.declared.call.Call.TheVariants as call
use Rattle.grasp_types.specs.declared.reply.ApiAnswer.{ApiAnswer}
use Rattle.grasp_types.specs.declared.reply.ApiAnswer.TheVariants as api
use Rattle.grasp_types.specs.declared.session.Handle.{Handle}
use Rattle.grasp_record.specs.Records.{IsRecord}
use Rattle.grasp_record.specs.declared.line.RecordAnswer.{RecordAnswer}
use Rattle.grasp_record.specs.declared.line.RecordAnswer.TheVariants as answer
use Rattle.grasp_record.specs.declared.line.RecordInput.{RecordInput}
use Rattle.grasp_record.specs.declared.line.RecordInput.TheVariants as took
use Rattle.grasp_record.specs.declared.line.RecordLine.{RecordLine}

-- its place is 0
abbrev pub unplaced : Handle → Handle
unplaced h = record { place = 0; number = h.number }

abbrev pub call_read : Call → Call
call_read (call.NegotiateStep h value) = call.NegotiateStep (unplaced h) value
call_read (call.NegotiateWait h millis) = call.NegotiateWait (unplaced h) millis
call_read (call.EndNegotiate h verdict) = call.EndNegotiate (unplaced h) verdict
call_read (call.SendInvalid h detail) = call.SendInvalid (unplaced h) detail
call_read (call.Poll h) = call.Poll (unplaced h)
call_read c = c

abbrev pub input_read : RecordInput → RecordInput
input_read (took.Api asa c) = took.Api asa (call_read c)
input_read (took.Agent c) = took.Agent (call_read c)
input_read i = i

abbrev pub api_read : ApiAnswer → ApiAnswer
api_read (api.Started h) = api.Started (unplaced h)
api_read (api.Incoming h from objective) = api.Incoming (unplaced h) from objective
api_read a = a

abbrev pub answer_read : RecordAnswer → RecordAnswer
answer_read (answer.Api a) = answer.Api (api_read a)
answer_read a = a

-- the line as it is read back
abbrev pub read_back : RecordLine → RecordLine
read_back y = record { node = y.node; now = y.now; input = input_read y.input; answer = answer_read y.answer }

-- as they are read back, the lines are within the ranges of a record of so many nodes
abbrev pub AreReadable : ℕ → List RecordLine → Type 0
AreReadable nodes ys = AllByRecursion (λ y. IsRecord nodes (read_back y)) ys
