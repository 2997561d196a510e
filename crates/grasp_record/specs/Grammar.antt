-- Inside: reading the words of a record's line from left to right.
use Rattle.std.specs.Prelude.{ℕ, ◌==◌, if◌then◌else◌, Bool, true, false, List, [], ◌∷◌, ◌++◌, Option, Some, None, Ok, Err, codes}
use Rattle.std.specs.Str.{bytes_eq}
use Rattle.grasp_agent.specs.declared.back.ReturnFault.TheVariants as back
use Rattle.grasp_agent.specs.declared.want.WantFault.TheVariants.{Busy, Full}
use Rattle.grasp_types.specs.Refusal.{refusal_number}
use Rattle.grasp_types.specs.declared.address.Locator.{Locator}
use Rattle.grasp_types.specs.declared.flood.FloodRead.{FloodRead}
use Rattle.grasp_types.specs.declared.refusal.ApiRefused.{ApiRefused}
use Rattle.grasp_types.specs.declared.refusal.ApiRefused.TheVariants as refusal
use Rattle.grasp_types.specs.declared.reply.ApiAnswer.{ApiAnswer}
use Rattle.grasp_types.specs.declared.reply.ApiAnswer.TheVariants as api
use Rattle.grasp_types.specs.declared.session.By.{By}
use Rattle.grasp_types.specs.declared.session.By.TheVariants.{Mine, Theirs}
use Rattle.grasp_types.specs.declared.session.Outcome.{Outcome}
use Rattle.grasp_types.specs.declared.session.Outcome.TheVariants as outcome
use Rattle.grasp_types.specs.declared.session.Progress.TheVariants as progress
use Rattle.grasp_types.specs.declared.traffic.Output.{Output}
use Rattle.grasp_types.specs.declared.traffic.Output.TheVariants as output
use Rattle.grasp_text.specs.Grammar.{ending, number32, reason_at, objective_at, locator_at, optional_locator_at, until}
use Rattle.grasp_text.specs.Reading.{Parsed, ◌>>=◌, word_at, exactly, address_of, bytes_of, behind_byte, then_some, or_end, branch}
use Rattle.grasp_script.specs.Calls.{may_call}
use Rattle.grasp_script.specs.Grammar.{number64, number8, node_of, prefix_of, handle_of, call_at, are_lengths, only_if}
use Rattle.grasp_record.specs.Answers.{is_poll}
use Rattle.grasp_record.specs.declared.inputs.Asked.{Asked}
use Rattle.grasp_record.specs.declared.line.RecordAnswer.{RecordAnswer}
use Rattle.grasp_record.specs.declared.line.RecordAnswer.TheVariants as answer
use Rattle.grasp_record.specs.declared.line.RecordInput.{RecordInput}
use Rattle.grasp_record.specs.declared.line.RecordInput.TheVariants as input
use Rattle.grasp_record.specs.declared.line.RecordLine.{RecordLine}
use Rattle.grasp_record.specs.declared.names.AnswerName.{AnswerName}
use Rattle.grasp_record.specs.declared.names.AnswerName.TheVariants as answered
use Rattle.grasp_record.specs.declared.names.InputName.{InputName}
use Rattle.grasp_record.specs.declared.names.InputName.TheVariants as took
use Rattle.grasp_record.specs.declared.names.OutcomeName.{OutcomeName}
use Rattle.grasp_record.specs.declared.names.OutcomeName.TheVariants as ended
use Rattle.grasp_record.specs.declared.names.OutputName.{OutputName}
use Rattle.grasp_record.specs.declared.names.OutputName.TheVariants as sent
use Rattle.grasp_record.specs.declared.names.ReturnName.{ReturnName}
use Rattle.grasp_record.specs.declared.names.ReturnName.TheVariants as returned
use Rattle.grasp_record.specs.declared.names.WantName.{WantName}
use Rattle.grasp_record.specs.declared.names.WantName.TheVariants as wanted

-- ---- single words

-- raw bytes
unfoldable pub octets_of : List ℕ → Option (List ℕ)
octets_of word = then_some (behind_byte 120 word) bytes_of

unfoldable pub by_of : List ℕ → Option By
by_of word = if bytes_eq word (codes "mine") then Some Mine else (if bytes_eq word (codes "theirs") then Some Theirs else None)

-- `taken`, which true stands for, or `turned`
unfoldable pub taken_of : List ℕ → Option Bool
taken_of word = if bytes_eq word (codes "taken") then Some true else (if bytes_eq word (codes "turned") then Some false else None)

-- the first word of an input
unfoldable pub input_of : List ℕ → Option InputName
input_of word =
    if bytes_eq word (codes "api") then Some took.Api
    else (if bytes_eq word (codes "agent") then Some took.Agent
    else (if bytes_eq word (codes "want") then Some took.Want
    else (if bytes_eq word (codes "return") then Some took.Return
    else (if bytes_eq word (codes "datagram") then Some took.Datagram
    else (if bytes_eq word (codes "opened") then Some took.Opened
    else (if bytes_eq word (codes "bytes") then Some took.Bytes
    else (if bytes_eq word (codes "closed") then Some took.Closed
    else (if bytes_eq word (codes "drain") then Some took.Drain else None))))))))

-- the first word of the answer to a call
unfoldable pub answer_of : List ℕ → Option AnswerName
answer_of word =
    if bytes_eq word (codes "asa") then Some answered.Asa
    else (if bytes_eq word (codes "done") then Some answered.Done
    else (if bytes_eq word (codes "started") then Some answered.Started
    else (if bytes_eq word (codes "searching") then Some answered.Searching
    else (if bytes_eq word (codes "found") then Some answered.Found
    else (if bytes_eq word (codes "nothing") then Some answered.Nothing
    else (if bytes_eq word (codes "notyet") then Some answered.NotYet
    else (if bytes_eq word (codes "incoming") then Some answered.Incoming
    else (if bytes_eq word (codes "turn") then Some answered.Turn
    else (if bytes_eq word (codes "ended") then Some answered.Ended
    else (if bytes_eq word (codes "floods") then Some answered.Floods
    else (if bytes_eq word (codes "refused") then Some answered.Refused else None)))))))))))

-- the word behind `ended`
unfoldable pub outcome_of : List ℕ → Option OutcomeName
outcome_of word =
    if bytes_eq word (codes "agreed") then Some ended.Agreed
    else (if bytes_eq word (codes "declined") then Some ended.Declined
    else (if bytes_eq word (codes "synchronized") then Some ended.Synchronized
    else (if bytes_eq word (codes "timedout") then Some ended.TimedOut
    else (if bytes_eq word (codes "broken") then Some ended.Broken
    else (if bytes_eq word (codes "invalid") then Some ended.Invalid else None)))))

-- the first word of the answer to a want
unfoldable pub want_of : List ℕ → Option WantName
want_of word =
    if bytes_eq word (codes "ok") then Some wanted.Fine
    else (if bytes_eq word (codes "busy") then Some wanted.Busy
    else (if bytes_eq word (codes "full") then Some wanted.Full else None))

-- the first word of the answer to a return
unfoldable pub return_of : List ℕ → Option ReturnName
return_of word =
    if bytes_eq word (codes "ok") then Some returned.Fine
    else (if bytes_eq word (codes "busy") then Some returned.Busy
    else (if bytes_eq word (codes "notfree") then Some returned.NotFree
    else (if bytes_eq word (codes "full") then Some returned.Full else None)))

-- the first word of an output
unfoldable pub output_of : List ℕ → Option OutputName
output_of word =
    if bytes_eq word (codes "datagram") then Some sent.Datagram
    else (if bytes_eq word (codes "dial") then Some sent.Dial
    else (if bytes_eq word (codes "send") then Some sent.Send
    else (if bytes_eq word (codes "close") then Some sent.Close else None)))

-- the name of a refusal, but for that of want of memory
unfoldable pub refusal_of : List ℕ → Option ApiRefused
refusal_of word =
    if bytes_eq word (codes "NoAsa") then Some refusal.NoAsa
    else (if bytes_eq word (codes "AsasFull") then Some refusal.AsasFull
    else (if bytes_eq word (codes "DuplicateAsa") then Some refusal.DuplicateAsa
    else (if bytes_eq word (codes "NotBoth") then Some refusal.NotBoth
    else (if bytes_eq word (codes "ObjectivesFull") then Some refusal.ObjectivesFull
    else (if bytes_eq word (codes "ObjectiveTaken") then Some refusal.ObjectiveTaken
    else (if bytes_eq word (codes "NotYourObjective") then Some refusal.NotYourObjective
    else (if bytes_eq word (codes "NotNegotiable") then Some refusal.NotNegotiable
    else (if bytes_eq word (codes "NotSynchronizable") then Some refusal.NotSynchronizable
    else (if bytes_eq word (codes "NotDry") then Some refusal.NotDry
    else (if bytes_eq word (codes "BadLocator") then Some refusal.BadLocator
    else (if bytes_eq word (codes "NoSession") then Some refusal.NoSession
    else (if bytes_eq word (codes "NotYourTurn") then Some refusal.NotYourTurn
    else (if bytes_eq word (codes "LoopsSpent") then Some refusal.LoopsSpent
    else (if bytes_eq word (codes "WaitsSpent") then Some refusal.WaitsSpent
    else (if bytes_eq word (codes "NoFlood") then Some refusal.NoFlood
    else (if bytes_eq word (codes "SessionsFull") then Some refusal.SessionsFull
    else (if bytes_eq word (codes "StreamsFull") then Some refusal.StreamsFull
    else (if bytes_eq word (codes "TooLong") then Some refusal.TooLong
    else (if bytes_eq word (codes "OutboxFull") then Some refusal.OutboxFull else None)))))))))))))))))))

-- ---- one after another, to the end

-- behind those that were read: nothing, or one more and so on
abbrev pub each_step : {A : Type 0} → (List (List ℕ) → Parsed A) → (List A → List (List ℕ) → Parsed (List A)) → List A → List (List ℕ) → Parsed (List A)
each_step read others before ws = or_end before (λ ws. read ws >>= λ next. others (before ++ next.0 ∷ []) next.1) ws

abbrev pub each_at : {A : Type 0} → (List (List ℕ) → Parsed A) → List A → List (List ℕ) → Parsed (List A)
each_at read before ws = until (each_step read) before ws

-- ---- inputs, behind their first word

-- what was read, where the test says so
abbrev pub allowed : Bool → RecordInput → List (List ℕ) → Parsed RecordInput
allowed true i ws = Ok (i, ws)
allowed false i ws = Err 0

unfoldable pub api_at : ℕ → List (List ℕ) → Parsed RecordInput
api_at nodes ws = do
  asa ← word_at number32 ws
  call ← call_at nodes asa.1
  allowed (may_call asa.0 call.0) (input.Api asa.0 call.0) call.1

abbrev pub agent_at : ℕ → List (List ℕ) → Parsed RecordInput
agent_at nodes ws = call_at nodes ws >>= λ call. Ok (input.Agent call.0, call.1)

unfoldable pub want_at : ℕ → List (List ℕ) → Parsed RecordInput
want_at nodes ws = do
  length ← word_at number8 ws
  longest ← word_at number8 length.1
  peer ← word_at (node_of nodes) longest.1
  only_if (are_lengths length.0 longest.0) (input.Want length.0 longest.0 peer.0) peer.1

unfoldable pub return_at : ℕ → List (List ℕ) → Parsed RecordInput
return_at nodes ws = do
  prefix ← word_at prefix_of ws
  peer ← word_at (node_of nodes) prefix.1
  ending (input.Return prefix.0 peer.0) peer.1

unfoldable pub datagram_at : List (List ℕ) → Parsed RecordInput
datagram_at ws = do
  link ← word_at number8 ws
  from ← word_at number8 link.1
  bytes ← word_at octets_of from.1
  ending (input.Datagram link.0 from.0 bytes.0) bytes.1

unfoldable pub opened_at : List (List ℕ) → Parsed RecordInput
opened_at ws = do
  stream ← word_at number64 ws
  from ← word_at address_of stream.1
  ending (input.Opened stream.0 from.0) from.1

unfoldable pub bytes_at : List (List ℕ) → Parsed RecordInput
bytes_at ws = do
  stream ← word_at number64 ws
  bytes ← word_at octets_of stream.1
  ending (input.Bytes stream.0 bytes.0) bytes.1

unfoldable pub closed_at : List (List ℕ) → Parsed RecordInput
closed_at ws = do
  stream ← word_at number64 ws
  ending (input.Closed stream.0) stream.1

unfoldable pub drain_at : List (List ℕ) → Parsed RecordInput
drain_at ws = do
  max ← word_at number32 ws
  ending (input.Drain max.0) max.1

abbrev pub took_at : ℕ → InputName → List (List ℕ) → Parsed RecordInput
took_at nodes took.Api ws = api_at nodes ws
took_at nodes took.Agent ws = agent_at nodes ws
took_at nodes took.Want ws = want_at nodes ws
took_at nodes took.Return ws = return_at nodes ws
took_at nodes took.Datagram ws = datagram_at ws
took_at nodes took.Opened ws = opened_at ws
took_at nodes took.Bytes ws = bytes_at ws
took_at nodes took.Closed ws = closed_at ws
took_at nodes took.Drain ws = drain_at ws

-- the words before `=`
unfoldable pub asked_at : ℕ → List (List ℕ) → Parsed Asked
asked_at nodes ws = do
  node ← word_at (node_of nodes) ws
  now ← word_at number64 node.1
  name ← word_at input_of now.1
  i ← took_at nodes name.0 name.1
  Ok (record { node = node.0; now = now.0; input = i.0 }, i.1)

-- ---- how a session ended

unfoldable pub agreed_at : List (List ℕ) → Parsed Outcome
agreed_at ws = do
  by ← word_at by_of ws
  objective ← objective_at by.1
  ending (outcome.Agreed by.0 objective.0) objective.1

unfoldable pub declined_at : List (List ℕ) → Parsed Outcome
declined_at ws = do
  by ← word_at by_of ws
  reason ← reason_at by.1
  Ok (outcome.Declined by.0 reason.0, reason.1)

unfoldable pub synchronized_at : List (List ℕ) → Parsed Outcome
synchronized_at ws = do
  objective ← objective_at ws
  ending (outcome.Synchronized objective.0) objective.1

unfoldable pub timed_out_at : List (List ℕ) → Parsed Outcome
timed_out_at ws = do
  deadline ← word_at number64 ws
  now ← word_at number64 deadline.1
  ending (outcome.TimedOut deadline.0 now.0) now.1

unfoldable pub invalid_at : List (List ℕ) → Parsed Outcome
invalid_at ws = do
  by ← word_at by_of ws
  ending (outcome.Invalid by.0) by.1

abbrev pub outcome_at : OutcomeName → List (List ℕ) → Parsed Outcome
outcome_at ended.Agreed ws = agreed_at ws
outcome_at ended.Declined ws = declined_at ws
outcome_at ended.Synchronized ws = synchronized_at ws
outcome_at ended.TimedOut ws = timed_out_at ws
outcome_at ended.Broken ws = ending outcome.Broken ws
outcome_at ended.Invalid ws = invalid_at ws

-- ---- answers to calls, behind their first word

unfoldable pub asa_at : List (List ℕ) → Parsed ApiAnswer
asa_at ws = do
  number ← word_at number32 ws
  ending (api.Asa number.0) number.1

unfoldable pub started_at : List (List ℕ) → Parsed ApiAnswer
started_at ws = do
  handle ← word_at handle_of ws
  ending (api.Started handle.0) handle.1

abbrev pub as_found : Parsed (List Locator) → Parsed ApiAnswer
as_found read = read >>= λ locators. Ok (api.Found locators.0, locators.1)

unfoldable pub found_at : List (List ℕ) → Parsed ApiAnswer
found_at ws = do
  first ← locator_at ws
  as_found (each_at locator_at (first.0 ∷ []) first.1)

abbrev pub not_yet : Bool → ApiAnswer
not_yet polled = if polled then api.Polled progress.NotYet else api.NotYet

unfoldable pub incoming_at : List (List ℕ) → Parsed ApiAnswer
incoming_at ws = do
  handle ← word_at handle_of ws
  from ← word_at address_of handle.1
  objective ← objective_at from.1
  ending (api.Incoming handle.0 from.0 objective.0) objective.1

unfoldable pub turn_at : List (List ℕ) → Parsed ApiAnswer
turn_at ws = do
  objective ← objective_at ws
  ending (api.Polled (progress.Turn objective.0)) objective.1

unfoldable pub ended_at : List (List ℕ) → Parsed ApiAnswer
ended_at ws = do
  name ← word_at outcome_of ws
  o ← outcome_at name.0 name.1
  Ok (api.Polled (progress.Ended o.0), o.1)

unfoldable pub flood_read_at : List (List ℕ) → Parsed FloodRead
flood_read_at ws = do
  initiator ← word_at address_of ws
  objective ← objective_at initiator.1
  locator ← optional_locator_at objective.1
  Ok (record { initiator = initiator.0; objective = objective.0; locator = locator.0 }, locator.1)

abbrev pub as_floods : Parsed (List FloodRead) → Parsed ApiAnswer
as_floods read = read >>= λ reads. Ok (api.Floods reads.0, reads.1)

unfoldable pub refused_at : List (List ℕ) → Parsed RecordAnswer
refused_at ws = do
  number ← word_at number8 ws
  name ← word_at refusal_of number.1
  only_if (number.0 == refusal_number name.0) (answer.Refused name.0) name.1

abbrev pub as_api : Parsed ApiAnswer → Parsed RecordAnswer
as_api read = read >>= λ a. Ok (answer.Api a.0, a.1)

abbrev pub answered_at : Bool → AnswerName → List (List ℕ) → Parsed RecordAnswer
answered_at polled answered.Asa ws = as_api (asa_at ws)
answered_at polled answered.Done ws = as_api (ending api.Done ws)
answered_at polled answered.Started ws = as_api (started_at ws)
answered_at polled answered.Searching ws = as_api (ending api.Searching ws)
answered_at polled answered.Found ws = as_api (found_at ws)
answered_at polled answered.Nothing ws = as_api (ending api.Nothing ws)
answered_at polled answered.NotYet ws = as_api (ending (not_yet polled) ws)
answered_at polled answered.Incoming ws = as_api (incoming_at ws)
answered_at polled answered.Turn ws = as_api (turn_at ws)
answered_at polled answered.Ended ws = as_api (ended_at ws)
answered_at polled answered.Floods ws = as_api (as_floods (each_at flood_read_at [] ws))
answered_at polled answered.Refused ws = refused_at ws

unfoldable pub of_call_at : Bool → List (List ℕ) → Parsed RecordAnswer
of_call_at polled ws = do
  name ← word_at answer_of ws
  answered_at polled name.0 name.1

-- ---- answers to wants

unfoldable pub busy_at : List (List ℕ) → Parsed RecordAnswer
busy_at ws = do
  length ← word_at number8 ws
  longest ← word_at number8 length.1
  ending (answer.Want (Err (Busy length.0 longest.0))) longest.1

abbrev pub wanted_at : WantName → List (List ℕ) → Parsed RecordAnswer
wanted_at wanted.Fine ws = ending (answer.Want (Ok tt)) ws
wanted_at wanted.Busy ws = busy_at ws
wanted_at wanted.Full ws = ending (answer.Want (Err Full)) ws

unfoldable pub of_want_at : List (List ℕ) → Parsed RecordAnswer
of_want_at ws = do
  name ← word_at want_of ws
  wanted_at name.0 name.1

-- ---- answers to returns

unfoldable pub busy_return_at : List (List ℕ) → Parsed RecordAnswer
busy_return_at ws = do
  prefix ← word_at prefix_of ws
  ending (answer.Return (Err (back.Busy prefix.0))) prefix.1

abbrev pub returned_at : ReturnName → List (List ℕ) → Parsed RecordAnswer
returned_at returned.Fine ws = ending (answer.Return (Ok tt)) ws
returned_at returned.Busy ws = busy_return_at ws
returned_at returned.NotFree ws = ending (answer.Return (Err back.NotFree)) ws
returned_at returned.Full ws = ending (answer.Return (Err back.Full)) ws

unfoldable pub of_return_at : List (List ℕ) → Parsed RecordAnswer
of_return_at ws = do
  name ← word_at return_of ws
  returned_at name.0 name.1

-- ---- answers to datagrams and streams

unfoldable pub of_datagram_at : List (List ℕ) → Parsed RecordAnswer
of_datagram_at ws = do
  word ← word_at (exactly (codes "taken")) ws
  ending answer.Taken word.1

abbrev pub stream_answer : Bool → RecordAnswer
stream_answer true = answer.Taken
stream_answer false = answer.Turned

unfoldable pub of_stream_at : List (List ℕ) → Parsed RecordAnswer
of_stream_at ws = do
  taken ← word_at taken_of ws
  ending (stream_answer taken.0) taken.1

-- ---- answers to drains

unfoldable pub sent_datagram_at : List (List ℕ) → Parsed Output
sent_datagram_at ws = do
  link ← word_at number8 ws
  to ← word_at number8 link.1
  bytes ← word_at octets_of to.1
  Ok (output.Datagram link.0 to.0 bytes.0, bytes.1)

unfoldable pub dial_at : List (List ℕ) → Parsed Output
dial_at ws = do
  stream ← word_at number64 ws
  to ← locator_at stream.1
  Ok (output.Dial stream.0 to.0, to.1)

unfoldable pub send_at : List (List ℕ) → Parsed Output
send_at ws = do
  stream ← word_at number64 ws
  bytes ← word_at octets_of stream.1
  Ok (output.Send stream.0 bytes.0, bytes.1)

unfoldable pub close_at : List (List ℕ) → Parsed Output
close_at ws = do
  stream ← word_at number64 ws
  Ok (output.Close stream.0, stream.1)

abbrev pub sent_at : OutputName → List (List ℕ) → Parsed Output
sent_at sent.Datagram ws = sent_datagram_at ws
sent_at sent.Dial ws = dial_at ws
sent_at sent.Send ws = send_at ws
sent_at sent.Close ws = close_at ws

unfoldable pub output_at : List (List ℕ) → Parsed Output
output_at ws = do
  name ← word_at output_of ws
  sent_at name.0 name.1

abbrev pub as_outputs : Parsed (List Output) → Parsed RecordAnswer
as_outputs read = read >>= λ outputs. Ok (answer.Outputs outputs.0, outputs.1)

-- one or more outputs
unfoldable pub outputs_at : List (List ℕ) → Parsed RecordAnswer
outputs_at ws = do
  first ← output_at ws
  as_outputs (each_at output_at (first.0 ∷ []) first.1)

-- `none`, and nothing more
unfoldable pub none_at : List (List ℕ) → Parsed RecordAnswer
none_at ws = do
  word ← word_at (exactly (codes "none")) ws
  ending (answer.Outputs []) word.1

abbrev pub is_none_word : List ℕ → Bool
is_none_word word = bytes_eq word (codes "none")

abbrev pub of_drain_at : List (List ℕ) → Parsed RecordAnswer
of_drain_at ws = branch is_none_word none_at outputs_at ws

-- ---- lines

-- the words behind `=`
abbrev pub answer_at : RecordInput → List (List ℕ) → Parsed RecordAnswer
answer_at (input.Api asa call) ws = of_call_at (is_poll call) ws
answer_at (input.Agent call) ws = of_call_at (is_poll call) ws
answer_at (input.Want length longest peer) ws = of_want_at ws
answer_at (input.Return prefix peer) ws = of_return_at ws
answer_at (input.Datagram link from bytes) ws = of_datagram_at ws
answer_at (input.Opened stream from) ws = of_stream_at ws
answer_at (input.Bytes stream bytes) ws = of_stream_at ws
answer_at (input.Closed stream) ws = of_stream_at ws
answer_at (input.Drain max) ws = of_drain_at ws

-- those before `=`, and those behind it
unfoldable pub record_at : ℕ → List (List ℕ) → List (List ℕ) → Parsed RecordLine
record_at nodes front back = do
  asked ← asked_at nodes front
  a ← answer_at asked.0.input back
  Ok (record { node = asked.0.node; now = asked.0.now; input = asked.0.input; answer = a.0 }, a.1)
