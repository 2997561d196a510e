-- Inside: reading the words of a request from left to right.
use Rattle.std.specs.Prelude.{ℕ, nat_le, if◌then◌else◌, List, Option, Some, None, Ok, codes}
use Rattle.std.specs.Str.{bytes_eq}
use Rattle.grasp_types.specs.declared.call.Call.{Call}
use Rattle.grasp_types.specs.declared.call.Call.TheVariants.{RequestNegotiate, Synchronize, ExpireFlood}
use Rattle.grasp_text.specs.Grammar.{ending, number32, locator_at}
use Rattle.grasp_text.specs.Reading.{Parsed, ◌>>=◌, word_at, number_of, text_of, value_of, address_of, then_some}
use Rattle.grasp_config.specs.Levels.{level_of}
use Rattle.grasp_script.specs.Grammar.{number64, number8, dry_of, call_of, called_at}
use Rattle.grasp_script.specs.declared.names.CallName.{CallName}
use Rattle.grasp_script.specs.declared.names.CallName.TheVariants as call
use Rattle.grasp_control.specs.declared.names.AwaitName.{AwaitName}
use Rattle.grasp_control.specs.declared.names.AwaitName.TheVariants as awaited
use Rattle.grasp_control.specs.declared.names.RequestName.{RequestName}
use Rattle.grasp_control.specs.declared.names.RequestName.TheVariants as asked
use Rattle.grasp_control.specs.declared.request.Request.{Request}
use Rattle.grasp_control.specs.declared.request.Request.TheVariants as request

-- ---- single words

-- the first word of a call
abbrev pub called_name : CallName → Option RequestName
called_name name = Some (asked.Call name)

-- the first word of a request
unfoldable pub request_of : List ℕ → Option RequestName
request_of word =
    if bytes_eq word (codes "await") then Some asked.Await
    else (if bytes_eq word (codes "state") then Some asked.State
    else (if bytes_eq word (codes "wants") then Some asked.Wants
    else (if bytes_eq word (codes "reads") then Some asked.Reads
    else (if bytes_eq word (codes "events") then Some asked.Events
    else (if bytes_eq word (codes "counters") then Some asked.Counters
    else (if bytes_eq word (codes "version") then Some asked.Version
    else (if bytes_eq word (codes "want") then Some asked.Want
    else (if bytes_eq word (codes "unwant") then Some asked.Unwant
    else (if bytes_eq word (codes "log") then Some asked.Log
    else (if bytes_eq word (codes "stop") then Some asked.Stop else then_some (call_of word) called_name))))))))))

-- the first word of a call behind `await`
unfoldable pub await_of : List ℕ → Option AwaitName
await_of word =
    if bytes_eq word (codes "discover") then Some awaited.Discover
    else (if bytes_eq word (codes "listen") then Some awaited.Listen
    else (if bytes_eq word (codes "poll") then Some awaited.Poll else None))

-- a length of prefixes that is at least this one
abbrev pub at_least : ℕ → ℕ → Option ℕ
at_least least n = if nat_le least n then Some n else None

unfoldable pub length_of : ℕ → List ℕ → Option ℕ
length_of least word = then_some (number_of 128 word) (at_least least)

-- ---- calls, behind their first word

unfoldable pub request_at : List (List ℕ) → Parsed Call
request_at ws = do
  name ← word_at text_of ws
  value ← word_at value_of name.1
  loops ← word_at number8 value.1
  timeout ← word_at number32 loops.1
  dry ← word_at dry_of timeout.1
  peer ← locator_at dry.1
  ending (RequestNegotiate name.0 value.0 loops.0 timeout.0 dry.0 peer.0) peer.1

unfoldable pub synchronize_at : List (List ℕ) → Parsed Call
synchronize_at ws = do
  name ← word_at text_of ws
  loops ← word_at number8 name.1
  timeout ← word_at number32 loops.1
  peer ← locator_at timeout.1
  ending (Synchronize name.0 loops.0 timeout.0 peer.0) peer.1

unfoldable pub expire_at : List (List ℕ) → Parsed Call
expire_at ws = do
  name ← word_at text_of ws
  initiator ← word_at address_of name.1
  ending (ExpireFlood name.0 initiator.0) initiator.1

-- the calls that name no peer and no initiator are read as those of scripts are
abbrev pub control_called_at : CallName → List (List ℕ) → Parsed Call
control_called_at call.Request ws = request_at ws
control_called_at call.Synchronize ws = synchronize_at ws
control_called_at call.Expire ws = expire_at ws
control_called_at name ws = called_at 1 name ws

-- a call that may have nothing to tell yet
abbrev pub awaited_at : AwaitName → List (List ℕ) → Parsed Call
awaited_at awaited.Discover ws = called_at 1 call.Discover ws
awaited_at awaited.Listen ws = called_at 1 call.Listen ws
awaited_at awaited.Poll ws = called_at 1 call.Poll ws

-- ---- requests, behind their first word

unfoldable pub await_at : List (List ℕ) → Parsed Request
await_at ws = do
  millis ← word_at number32 ws
  name ← word_at await_of millis.1
  call ← awaited_at name.0 name.1
  Ok (request.Await millis.0 call.0, call.1)

unfoldable pub want_at : List (List ℕ) → Parsed Request
want_at ws = do
  length ← word_at (length_of 1) ws
  longest ← word_at (length_of length.0) length.1
  peer ← locator_at longest.1
  ending (request.Want length.0 longest.0 peer.0) peer.1

unfoldable pub unwant_at : List (List ℕ) → Parsed Request
unwant_at ws = do
  number ← word_at number64 ws
  ending (request.Unwant number.0) number.1

unfoldable pub log_at : List (List ℕ) → Parsed Request
log_at ws = do
  level ← word_at level_of ws
  ending (request.Log level.0) level.1

abbrev pub as_call : Parsed Call → Parsed Request
as_call read = read >>= λ call. Ok (request.Call call.0, call.1)

-- the request behind its first word
abbrev pub asked_at : RequestName → List (List ℕ) → Parsed Request
asked_at (asked.Call name) ws = as_call (control_called_at name ws)
asked_at asked.Await ws = await_at ws
asked_at asked.State ws = ending request.State ws
asked_at asked.Wants ws = ending request.Wants ws
asked_at asked.Reads ws = ending request.Reads ws
asked_at asked.Events ws = ending request.Events ws
asked_at asked.Counters ws = ending request.Counters ws
asked_at asked.Version ws = ending request.Version ws
asked_at asked.Want ws = want_at ws
asked_at asked.Unwant ws = unwant_at ws
asked_at asked.Log ws = log_at ws
asked_at asked.Stop ws = ending request.Stop ws

-- a request
unfoldable pub request_line_at : List (List ℕ) → Parsed Request
request_line_at ws = do
  name ← word_at request_of ws
  asked_at name.0 name.1
