-- Reading the parts of a message's line from left to right. Public calls cite `objective_at`, `locator_at` and
-- `optional_locator_at`, which the laws of Laws.antt determine, and those of crates above what isn't marked as inside.
use Rattle.std.specs.Prelude.{ℕ, zero, suc, if◌then◌else◌, List, [], ◌∷◌, ◌++◌, length, Option, Some, None, Ok, Err, codes, Bool, true, false}
use Rattle.std.specs.Str.{bytes_eq}
use Rattle.grasp_types.specs.declared.address.Locator.{Locator}
use Rattle.grasp_types.specs.declared.address.Locator.TheVariants.{V6, V4, Fqdn, Uri}
use Rattle.grasp_types.specs.declared.flood.FloodPart.{FloodPart}
use Rattle.grasp_types.specs.declared.message.Answer.{Answer}
use Rattle.grasp_types.specs.declared.message.Answer.TheVariants.{Locators, Divert}
use Rattle.grasp_types.specs.declared.message.Message.{Message}
use Rattle.grasp_types.specs.declared.message.Message.TheVariants as message
use Rattle.grasp_types.specs.declared.message.Verdict.{Verdict}
use Rattle.grasp_types.specs.declared.message.Verdict.TheVariants.{Accept, Decline}
use Rattle.grasp_types.specs.declared.objective.Objective.{Objective}
use Rattle.grasp_text.specs.Reading.{Parsed, ◌>>=◌, word_at, end_at, or_end, branch, exactly, number_of, text_of, value_of, maybe_of, absent_or, v4_of, v6_of, address_of, proto_of}
use Rattle.grasp_text.specs.declared.names.Host.{Host}
use Rattle.grasp_text.specs.declared.names.Host.TheVariants.{Ipv6, Ipv4, Domain, Resource}
use Rattle.grasp_text.specs.declared.names.MessageName.{MessageName}
use Rattle.grasp_text.specs.declared.names.MessageName.TheVariants.{Noop, Discovery, Response, RequestNegotiation, RequestSynchronization, Negotiate, End, Wait, Synch, Flood, Invalid}

-- the words are over, and this is what was read
abbrev pub ending : {A : Type 0} → A → List (List ℕ) → Parsed A
ending a ws = end_at {A = Unit {0}} tt ws >>= λ e. Ok (a, e.1)

-- a number of 32 bits
abbrev pub number32 : List ℕ → Option ℕ
number32 = number_of 4294967295

-- ---- objectives

unfoldable pub objective_at : List (List ℕ) → Parsed Objective
objective_at ws = do
  obj ← word_at (exactly (codes "obj")) ws
  name ← word_at text_of obj.1
  flags ← word_at (number_of 15) name.1
  loops ← word_at (number_of 255) flags.1
  value ← word_at (maybe_of value_of) loops.1
  Ok (record { name = name.0; flags = flags.0; loops = loops.0; value = value.0 }, value.1)

-- ---- locators

-- the first word of a locator
unfoldable pub host_of : List ℕ → Option Host
host_of word = if bytes_eq word (codes "v6") then Some Ipv6 else (if bytes_eq word (codes "v4") then Some Ipv4 else (if bytes_eq word (codes "fqdn") then Some Domain else (if bytes_eq word (codes "uri") then Some Resource else None)))

unfoldable pub v6_at : List (List ℕ) → Parsed Locator
v6_at ws = do
  n ← word_at v6_of ws
  proto ← word_at proto_of n.1
  port ← word_at (number_of 65535) proto.1
  Ok (V6 n.0 proto.0 port.0, port.1)

unfoldable pub v4_at : List (List ℕ) → Parsed Locator
v4_at ws = do
  n ← word_at v4_of ws
  proto ← word_at proto_of n.1
  port ← word_at (number_of 65535) proto.1
  Ok (V4 n.0 proto.0 port.0, port.1)

unfoldable pub fqdn_at : List (List ℕ) → Parsed Locator
fqdn_at ws = do
  name ← word_at text_of ws
  proto ← word_at proto_of name.1
  port ← word_at (number_of 65535) proto.1
  Ok (Fqdn name.0 proto.0 port.0, port.1)

unfoldable pub uri_at : List (List ℕ) → Parsed Locator
uri_at ws = do
  text ← word_at text_of ws
  proto ← word_at (maybe_of proto_of) text.1
  port ← word_at (maybe_of (number_of 65535)) proto.1
  Ok (Uri text.0 proto.0 port.0, port.1)

-- the locator behind its first word
abbrev pub located : Host → List (List ℕ) → Parsed Locator
located Ipv6 ws = v6_at ws
located Ipv4 ws = v4_at ws
located Domain ws = fqdn_at ws
located Resource ws = uri_at ws

unfoldable pub locator_at : List (List ℕ) → Parsed Locator
locator_at ws = word_at host_of ws >>= λ host. located host.0 host.1

-- ---- more and more

-- Inside: a reader that goes on so many times
unfoldable pub many : {S B : Type 0} → ((S → List (List ℕ) → Parsed B) → S → List (List ℕ) → Parsed B) → ℕ → S → List (List ℕ) → Parsed B
many step zero s ws = Err 0
many step (suc n) s ws = step (many step n) s ws

-- Inside: a reader that goes on as long as there are words
unfoldable pub until : {S B : Type 0} → ((S → List (List ℕ) → Parsed B) → S → List (List ℕ) → Parsed B) → S → List (List ℕ) → Parsed B
until step s ws = many step (suc (length ws)) s ws

-- Inside: the word that begins an objective
abbrev pub begins_objective : List ℕ → Bool
begins_objective word = bytes_eq word (codes "obj")

-- Inside: an objective, and nothing more
abbrev pub final_objective_at : List (List ℕ) → Parsed Objective
final_objective_at ws = do
  objective ← objective_at ws
  ending objective.0 objective.1

-- Inside: an objective behind locators, and nothing more
abbrev pub last_objective : List Locator → List (List ℕ) → Parsed (List Locator × Option Objective)
last_objective locators ws = final_objective_at ws >>= λ objective. Ok ((locators, Some objective.0), objective.1)

-- Inside: behind locators: nothing, an objective, or a locator and so on
abbrev pub locators_step : (List Locator → List (List ℕ) → Parsed (List Locator × Option Objective)) → List Locator → List (List ℕ) → Parsed (List Locator × Option Objective)
locators_step others locators ws = or_end (locators, None) (branch begins_objective (last_objective locators) (λ ws. locator_at ws >>= λ next. others (locators ++ next.0 ∷ []) next.1)) ws

-- Inside: the other locators of a response, and its objective
abbrev pub locators_at : List Locator → List (List ℕ) → Parsed (List Locator × Option Objective)
locators_at locators ws = until locators_step locators ws

-- Inside: one or more locators, and perhaps an objective
unfoldable pub answers_at : List (List ℕ) → Parsed (List Locator × Option Objective)
answers_at ws = locator_at ws >>= λ first. locators_at (first.0 ∷ []) first.1

-- `none`, or the first word of a locator
abbrev pub place_of : List ℕ → Option (Option Host)
place_of word = absent_or (codes "none") host_of word

abbrev pub placed : Option Host → List (List ℕ) → Parsed (Option Locator)
placed None ws = Ok (None, ws)
placed (Some host) ws = located host ws >>= λ locator. Ok (Some locator.0, locator.1)

-- a locator, or `none`
unfoldable pub optional_locator_at : List (List ℕ) → Parsed (Option Locator)
optional_locator_at ws = word_at place_of ws >>= λ place. placed place.0 place.1

-- Inside: a part of a flood: an objective and a locator, or `none`
unfoldable pub flood_part_at : List (List ℕ) → Parsed FloodPart
flood_part_at ws = do
  objective ← objective_at ws
  locator ← optional_locator_at objective.1
  Ok (record { objective = objective.0; locator = locator.0 }, locator.1)

-- Inside: behind parts of a flood: nothing, or a part and so on
abbrev pub parts_step : (List FloodPart → List (List ℕ) → Parsed (List FloodPart)) → List FloodPart → List (List ℕ) → Parsed (List FloodPart)
parts_step others parts ws = or_end parts (λ ws. flood_part_at ws >>= λ next. others (parts ++ next.0 ∷ []) next.1) ws

-- Inside: the other parts of a flood
abbrev pub parts_at : List FloodPart → List (List ℕ) → Parsed (List FloodPart)
parts_at parts ws = until parts_step parts ws

-- Inside: one or more parts
unfoldable pub flood_parts_at : List (List ℕ) → Parsed (List FloodPart)
flood_parts_at ws = flood_part_at ws >>= λ first. parts_at (first.0 ∷ []) first.1

-- ---- messages

-- Inside: the message that a word names
unfoldable pub name_of : List ℕ → Option MessageName
name_of word =
    if bytes_eq word (codes "noop") then Some Noop else (if bytes_eq word (codes "discovery") then Some Discovery else (if bytes_eq word (codes "response") then Some Response
    else (if bytes_eq word (codes "request-neg") then Some RequestNegotiation else (if bytes_eq word (codes "request-syn") then Some RequestSynchronization else (if bytes_eq word (codes "negotiate") then Some Negotiate
    else (if bytes_eq word (codes "end") then Some End else (if bytes_eq word (codes "wait") then Some Wait else (if bytes_eq word (codes "synch") then Some Synch
    else (if bytes_eq word (codes "flood") then Some Flood else (if bytes_eq word (codes "invalid") then Some Invalid else None))))))))))

-- Inside: a discovery, behind its name
unfoldable pub discovery_at : List (List ℕ) → Parsed Message
discovery_at ws = do
  session ← word_at number32 ws
  initiator ← word_at address_of session.1
  objective ← objective_at initiator.1
  ending (message.Discovery session.0 initiator.0 objective.0) objective.1

-- Inside: `locators`, which true stands for, or `divert`
unfoldable pub are_locators : List ℕ → Option Bool
are_locators word = if bytes_eq word (codes "locators") then Some true else (if bytes_eq word (codes "divert") then Some false else None)

-- Inside: locators, as an answer or as a divert
abbrev pub answer_of : Bool → List Locator → Answer
answer_of true locators = Locators locators
answer_of false locators = Divert locators

-- Inside: a response, behind its name
unfoldable pub response_at : List (List ℕ) → Parsed Message
response_at ws = do
  session ← word_at number32 ws
  initiator ← word_at address_of session.1
  ttl ← word_at number32 initiator.1
  kind ← word_at are_locators ttl.1
  answers ← answers_at kind.1
  Ok (message.Response session.0 initiator.0 ttl.0 (answer_of kind.0 answers.0.0) answers.0.1, answers.1)

-- Inside: a session and an objective
unfoldable pub objective_of_session_at : List (List ℕ) → Parsed (ℕ × Objective)
objective_of_session_at ws = do
  session ← word_at number32 ws
  objective ← objective_at session.1
  ending (session.0, objective.0) objective.1

-- a reason, where there is one
abbrev pub reason_at : List (List ℕ) → Parsed (Option (List ℕ))
reason_at ws = or_end None (λ ws. word_at text_of ws >>= λ reason. ending (Some reason.0) reason.1) ws

-- Inside: `accept`, which true stands for, or `decline`
unfoldable pub is_accept : List ℕ → Option Bool
is_accept word = if bytes_eq word (codes "accept") then Some true else (if bytes_eq word (codes "decline") then Some false else None)

-- Inside: an acceptance, or a decline with its reason
abbrev pub verdict_at : Bool → List (List ℕ) → Parsed Verdict
verdict_at true ws = ending Accept ws
verdict_at false ws = reason_at ws >>= λ reason. Ok (Decline reason.0, reason.1)

-- Inside: an end, behind its name
unfoldable pub end_message_at : List (List ℕ) → Parsed Message
end_message_at ws = do
  session ← word_at number32 ws
  kind ← word_at is_accept session.1
  verdict ← verdict_at kind.0 kind.1
  Ok (message.End session.0 verdict.0, verdict.1)

-- Inside: a wait, behind its name
unfoldable pub wait_at : List (List ℕ) → Parsed Message
wait_at ws = do
  session ← word_at number32 ws
  millis ← word_at number32 session.1
  ending (message.Wait session.0 millis.0) millis.1

-- Inside: a flood, behind its name
unfoldable pub flood_at : List (List ℕ) → Parsed Message
flood_at ws = do
  session ← word_at number32 ws
  initiator ← word_at address_of session.1
  ttl ← word_at number32 initiator.1
  parts ← flood_parts_at ttl.1
  Ok (message.Flood session.0 initiator.0 ttl.0 parts.0, parts.1)

-- Inside: an invalid message, behind its name
unfoldable pub invalid_at : List (List ℕ) → Parsed Message
invalid_at ws = do
  session ← word_at number32 ws
  detail ← word_at (maybe_of value_of) session.1
  ending (message.Invalid session.0 detail.0) detail.1

-- Inside: the message that is made of a session number and an objective
abbrev pub with_objective : (ℕ → Objective → Message) → List (List ℕ) → Parsed Message
with_objective make ws = objective_of_session_at ws >>= λ x. Ok (make x.0.0 x.0.1, x.1)

-- Inside: the message behind its name
abbrev pub named_at : MessageName → List (List ℕ) → Parsed Message
named_at Noop ws = ending message.Noop ws
named_at Discovery ws = discovery_at ws
named_at Response ws = response_at ws
named_at RequestNegotiation ws = with_objective message.ReqNeg ws
named_at RequestSynchronization ws = with_objective message.ReqSyn ws
named_at Negotiate ws = with_objective message.Negotiate ws
named_at End ws = end_message_at ws
named_at Wait ws = wait_at ws
named_at Synch ws = with_objective message.Synch ws
named_at Flood ws = flood_at ws
named_at Invalid ws = invalid_at ws

-- Inside: a message: its name and what stands behind it
unfoldable pub message_at : List (List ℕ) → Parsed Message
message_at ws = word_at name_of ws >>= λ name. named_at name.0 name.1
