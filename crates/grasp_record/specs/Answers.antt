-- What a record tells of what a node answered, as words. The layout is this project's own.
use Rattle.std.specs.Prelude.{◌≡◌, ◌≢◌, ◌<◌, ◌^◌, ℕ, Bool, true, false, List, [], ◌∷◌, ◌++◌, Result, Ok, Err, IfSome, codes, decimal}
use Rattle.std.specs.List.{AllByRecursion}
use Rattle.std.specs.Str.{IsUtf8}
use Rattle.grasp_agent.specs.declared.back.ReturnFault.{ReturnFault}
use Rattle.grasp_agent.specs.declared.back.ReturnFault.TheVariants as back
use Rattle.grasp_agent.specs.declared.want.WantFault.{WantFault}
use Rattle.grasp_agent.specs.declared.want.WantFault.TheVariants.{Busy, Full}
use Rattle.grasp_cbor.specs.Bytes.{AllBytes}
use Rattle.grasp_types.specs.Address.{IsAddress, IsLocator}
use Rattle.grasp_types.specs.Message.{AreLocators}
use Rattle.grasp_types.specs.Objective.{IsObjective}
use Rattle.grasp_types.specs.Prefix.{IsPrefix}
use Rattle.grasp_types.specs.declared.call.Call.{Call}
use Rattle.grasp_types.specs.declared.call.Call.TheVariants.{Poll}
use Rattle.grasp_types.specs.declared.flood.FloodRead.{FloodRead}
use Rattle.grasp_types.specs.declared.refusal.ApiRefused.TheVariants as refusal
use Rattle.grasp_types.specs.declared.reply.ApiAnswer.{ApiAnswer}
use Rattle.grasp_types.specs.declared.reply.ApiAnswer.TheVariants as api
use Rattle.grasp_types.specs.declared.reply.Reply.TheVariants as reply
use Rattle.grasp_types.specs.declared.session.Outcome.{Outcome}
use Rattle.grasp_types.specs.declared.session.Outcome.TheVariants as outcome
use Rattle.grasp_types.specs.declared.session.Progress.{Progress}
use Rattle.grasp_types.specs.declared.session.Progress.TheVariants as progress
use Rattle.grasp_types.specs.declared.traffic.Output.{Output}
use Rattle.grasp_types.specs.declared.traffic.Output.TheVariants as output
use Rattle.grasp_text.specs.Line.{bytes_word, locator_words}
use Rattle.grasp_script.specs.Answers.{answer_words, reply_words}
use Rattle.grasp_script.specs.Calls.{IsNamed}
use Rattle.grasp_script.specs.Reports.{want_words, return_words}
use Rattle.grasp_record.specs.declared.line.RecordAnswer.{RecordAnswer}
use Rattle.grasp_record.specs.declared.line.RecordAnswer.TheVariants as answer
use Rattle.grasp_record.specs.declared.line.RecordInput.{RecordInput}
use Rattle.grasp_record.specs.declared.line.RecordInput.TheVariants as input

-- ---- words

-- what a node sends, whole
abbrev pub output_words : Output → List (List ℕ)
output_words (output.Datagram link to bytes) = codes "datagram" ∷ decimal link ∷ decimal to ∷ bytes_word bytes ∷ []
output_words (output.Dial stream to) = codes "dial" ∷ decimal stream ∷ locator_words to
output_words (output.Send stream bytes) = codes "send" ∷ decimal stream ∷ bytes_word bytes ∷ []
output_words (output.Close stream) = codes "close" ∷ decimal stream ∷ []

-- outputs one after another
abbrev pub all_output_words : List Output → List (List ℕ)
all_output_words [] = []
all_output_words (o ∷ outputs) = output_words o ++ all_output_words outputs

-- those of a drain, or `none`
abbrev pub drained_words : List Output → List (List ℕ)
drained_words [] = codes "none" ∷ []
drained_words (o ∷ outputs) = all_output_words (o ∷ outputs)

-- the words of an answer; that to a call, a want or a return is told as a report tells it
abbrev pub told_words : RecordAnswer → List (List ℕ)
told_words (answer.Api a) = answer_words a
told_words (answer.Refused r) = reply_words (reply.Refused r)
told_words (answer.Want taken) = want_words taken
told_words (answer.Return taken) = return_words taken
told_words answer.Taken = codes "taken" ∷ []
told_words answer.Turned = codes "turned" ∷ []
told_words (answer.Outputs outputs) = drained_words outputs

-- ---- which answers a record can hold

-- how a session ended; that the node had no memory is in no record
abbrev pub IsOutcome : Outcome → Type 0
IsOutcome (outcome.Agreed by objective) = IsObjective objective
IsOutcome (outcome.Declined by reason) = IfSome reason IsUtf8
IsOutcome (outcome.Synchronized objective) = IsObjective objective
IsOutcome (outcome.TimedOut deadline now) = (deadline < 2 ^ 64) × (now < 2 ^ 64)
IsOutcome outcome.Broken = Unit {0}
IsOutcome outcome.OutOfMemory = ⊥
IsOutcome (outcome.Invalid by) = Unit {0}

-- `notyet` tells of a session where it answers a poll, and else that there is no answer yet
abbrev pub IsProgress : Bool → Progress → Type 0
IsProgress polled progress.NotYet = polled ≡ true
IsProgress polled (progress.Turn objective) = IsObjective objective
IsProgress polled (progress.Ended o) = IsOutcome o

pub record IsFloodRead (r : FloodRead) : Type 0 where
  pub initiator : IsAddress r.initiator
  pub objective : IsObjective r.objective
  pub locator : IfSome r.locator IsLocator

-- each part of the answer to a call, which was a poll or not, is within its range
abbrev pub IsApiAnswer : Bool → ApiAnswer → Type 0
IsApiAnswer polled (api.Asa number) = number < 2 ^ 32
IsApiAnswer polled api.Done = Unit {0}
IsApiAnswer polled (api.Started handle) = IsNamed handle
IsApiAnswer polled api.Searching = Unit {0}
IsApiAnswer polled (api.Found locators) = AreLocators locators
IsApiAnswer polled api.Nothing = Unit {0}
IsApiAnswer polled api.NotYet = polled ≡ false
IsApiAnswer polled (api.Incoming handle from objective) = IsNamed handle × IsAddress from × IsObjective objective
IsApiAnswer polled (api.Polled p) = IsProgress polled p
IsApiAnswer polled (api.Floods reads) = AllByRecursion IsFloodRead reads

abbrev pub IsWanted : Result (Unit {0}) WantFault → Type 0
IsWanted (Ok u) = Unit {0}
IsWanted (Err (Busy length longest)) = (length < 2 ^ 8) × (longest < 2 ^ 8)
IsWanted (Err Full) = Unit {0}

abbrev pub IsReturned : Result (Unit {0}) ReturnFault → Type 0
IsReturned (Ok u) = Unit {0}
IsReturned (Err (back.Busy prefix)) = IsPrefix prefix.address prefix.length
IsReturned (Err back.NotFree) = Unit {0}
IsReturned (Err back.Full) = Unit {0}

abbrev pub IsOutput : Output → Type 0
IsOutput (output.Datagram link to bytes) = (link < 2 ^ 8) × (to < 2 ^ 8) × AllBytes bytes
IsOutput (output.Dial stream to) = (stream < 2 ^ 64) × IsLocator to
IsOutput (output.Send stream bytes) = (stream < 2 ^ 64) × AllBytes bytes
IsOutput (output.Close stream) = stream < 2 ^ 64

-- ---- which answers are of which input

-- a call is answered or refused, but not for want of memory
abbrev pub IsOfCall : Bool → RecordAnswer → Type 0
IsOfCall polled (answer.Api a) = IsApiAnswer polled a
IsOfCall polled (answer.Refused r) = r ≢ refusal.OutOfMemory
IsOfCall polled _ = ⊥

abbrev pub IsOfWant : RecordAnswer → Type 0
IsOfWant (answer.Want taken) = IsWanted taken
IsOfWant _ = ⊥

abbrev pub IsOfReturn : RecordAnswer → Type 0
IsOfReturn (answer.Return taken) = IsReturned taken
IsOfReturn _ = ⊥

-- a datagram is taken
abbrev pub IsOfDatagram : RecordAnswer → Type 0
IsOfDatagram answer.Taken = Unit {0}
IsOfDatagram _ = ⊥

-- what a stream brings is taken, or the stream is turned away
abbrev pub IsOfStream : RecordAnswer → Type 0
IsOfStream answer.Taken = Unit {0}
IsOfStream answer.Turned = Unit {0}
IsOfStream _ = ⊥

-- a drain gives outputs
abbrev pub IsOfDrain : RecordAnswer → Type 0
IsOfDrain (answer.Outputs outputs) = AllByRecursion IsOutput outputs
IsOfDrain _ = ⊥

-- the call asks how a session stands
abbrev pub is_poll : Call → Bool
is_poll (Poll handle) = true
is_poll _ = false

-- the answer is of the kind that the input has, and each part of it is within its range
abbrev pub IsAnswerTo : RecordInput → RecordAnswer → Type 0
IsAnswerTo (input.Api asa call) a = IsOfCall (is_poll call) a
IsAnswerTo (input.Agent call) a = IsOfCall (is_poll call) a
IsAnswerTo (input.Want length longest peer) a = IsOfWant a
IsAnswerTo (input.Return prefix peer) a = IsOfReturn a
IsAnswerTo (input.Datagram link from bytes) a = IsOfDatagram a
IsAnswerTo (input.Opened stream from) a = IsOfStream a
IsAnswerTo (input.Bytes stream bytes) a = IsOfStream a
IsAnswerTo (input.Closed stream) a = IsOfStream a
IsAnswerTo (input.Drain max) a = IsOfDrain a
