-- What a visitor asks of a node, as words. The layout is this project's own.
use Rattle.std.specs.Prelude.{◌≡◌, ℕ, ◌<◌, ◌≤◌, ◌^◌, Bool, true, false, List, [], ◌∷◌, Result, Ok, Err, codes, decimal}
use Rattle.std.specs.Str.{IsUtf8}
use Rattle.grasp_types.specs.Address.{IsAddress, IsLocator}
use Rattle.grasp_types.specs.Objective.{IsValue}
use Rattle.grasp_types.specs.declared.call.Call.{Call}
use Rattle.grasp_types.specs.declared.call.Call.TheVariants.{Discover, RequestNegotiate, ListenNegotiate, Poll, Synchronize, ExpireFlood}
use Rattle.grasp_text.specs.Line.{address_word, text_word, value_word, locator_words}
use Rattle.grasp_text.specs.Words.{joined}
use Rattle.grasp_config.specs.Levels.{level_word}
use Rattle.grasp_script.specs.Calls.{call_words, dry_word, IsCall}
use Rattle.grasp_control.specs.declared.request.Request.{Request}
use Rattle.grasp_control.specs.declared.request.Request.TheVariants as request
use Rattle.grasp_control.specs.declared.request.RequestFault.{RequestFault}
use Rattle.grasp_control.specs.declared.request.RequestFault.TheVariants as fault

-- the words of a call are those of a script, but that a peer is a locator, and an initiator an address
abbrev pub control_call_words : Call → List (List ℕ)
control_call_words (RequestNegotiate name value loops timeout dry peer) =
    codes "request" ∷ text_word name ∷ value_word value ∷ decimal loops ∷ decimal timeout ∷ dry_word dry ∷ locator_words peer
control_call_words (Synchronize name loops timeout peer) = codes "synchronize" ∷ text_word name ∷ decimal loops ∷ decimal timeout ∷ locator_words peer
control_call_words (ExpireFlood name initiator) = codes "expire" ∷ text_word name ∷ address_word initiator ∷ []
control_call_words call = call_words call

-- each part of the call is within its range, and a session's place is 0
abbrev pub IsControlCall : Call → Type 0
IsControlCall (RequestNegotiate name value loops timeout dry peer) = IsUtf8 name × IsValue value × (loops < 2 ^ 8) × (timeout < 2 ^ 32) × IsLocator peer
IsControlCall (Synchronize name loops timeout peer) = IsUtf8 name × (loops < 2 ^ 8) × (timeout < 2 ^ 32) × IsLocator peer
IsControlCall (ExpireFlood name initiator) = IsUtf8 name × IsAddress initiator
IsControlCall call = IsCall 1 call

-- the calls that may have nothing to tell yet
abbrev pub may_wait : Call → Bool
may_wait (Discover name kind loops timeout) = true
may_wait (ListenNegotiate name) = true
may_wait (Poll handle) = true
may_wait _ = false

-- the words of a request
abbrev pub request_words : Request → List (List ℕ)
request_words (request.Call call) = control_call_words call
request_words (request.Await millis call) = codes "await" ∷ decimal millis ∷ control_call_words call
request_words request.State = codes "state" ∷ []
request_words request.Wants = codes "wants" ∷ []
request_words request.Reads = codes "reads" ∷ []
request_words request.Events = codes "events" ∷ []
request_words request.Counters = codes "counters" ∷ []
request_words request.Version = codes "version" ∷ []
request_words (request.Want length longest peer) = codes "want" ∷ decimal length ∷ decimal longest ∷ locator_words peer
request_words (request.Unwant number) = codes "unwant" ∷ decimal number ∷ []
request_words (request.Log level) = codes "log" ∷ level_word level ∷ []
request_words request.Stop = codes "stop" ∷ []

-- each part of the request is within its range
abbrev pub IsRequest : Request → Type 0
IsRequest (request.Call call) = IsControlCall call
IsRequest (request.Await millis call) = (millis < 2 ^ 32) × (may_wait call ≡ true) × IsControlCall call
IsRequest (request.Want length longest peer) = (1 ≤ length) × (length ≤ longest) × (longest ≤ 128) × IsLocator peer
IsRequest (request.Unwant number) = number < 2 ^ 64
IsRequest _ = Unit {0}

-- the line of a request: its words with one blank between two
abbrev pub request_line : Request → List ℕ
request_line r = joined (request_words r)

-- the line is the request's
pub record IsRequestLine (line : List ℕ) (r : Request) : Type 0 where
  pub ranges : IsRequest r
  pub spelled : line ≡ request_line r

-- the line is no request's
abbrev pub IsNoRequest : List ℕ → Type 0
IsNoRequest line = (r : Request) → ¬ IsRequestLine line r

-- the line was refused, at a place of which P says so
abbrev pub IfBadLine : {X : Type 0} → Result X RequestFault → (ℕ → Type 0) → Type 0
IfBadLine (Ok x) P = Unit {0}
IfBadLine (Err (fault.BadLine at)) P = P at
IfBadLine (Err fault.OutOfMemory) P = Unit {0}
