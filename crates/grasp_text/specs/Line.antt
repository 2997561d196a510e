-- The line of a message, as words. The layout is this project's own.
use Rattle.std.specs.Prelude.{◌≡◌, ℕ, ◌/◌, ◌%◌, ◌==◌, ◌&&◌, nat_le, not, if◌then◌else◌, List, [], ◌∷◌, ◌++◌, Option, Some, None, codes, decimal, slice_index}
use Rattle.std.specs.Int.{to_be_bytes, w32, w128}
use Rattle.hex.specs.Hex.{encode_lower, lower_digits}
use Rattle.grasp_cbor.specs.DataItem.{DataItem}
use Rattle.grasp_cbor.specs.Shortest.{shortest}
use Rattle.grasp_types.specs.Message.{IsMessage}
use Rattle.grasp_types.specs.declared.address.Address.{Address}
use Rattle.grasp_types.specs.declared.address.Address.TheVariants as address
use Rattle.grasp_types.specs.declared.address.Locator.{Locator}
use Rattle.grasp_types.specs.declared.address.Locator.TheVariants.{V6, V4, Fqdn, Uri}
use Rattle.grasp_types.specs.declared.address.Proto.{Proto}
use Rattle.grasp_types.specs.declared.address.Proto.TheVariants.{Tcp, Udp}
use Rattle.grasp_types.specs.declared.flood.FloodPart.{FloodPart}
use Rattle.grasp_types.specs.declared.message.Answer.{Answer}
use Rattle.grasp_types.specs.declared.message.Answer.TheVariants.{Locators, Divert}
use Rattle.grasp_types.specs.declared.message.Message.{Message}
use Rattle.grasp_types.specs.declared.message.Message.TheVariants.{Noop, Discovery, Response, ReqNeg, ReqSyn, Negotiate, End, Wait, Synch, Flood, Invalid}
use Rattle.grasp_types.specs.declared.message.Verdict.{Verdict}
use Rattle.grasp_types.specs.declared.message.Verdict.TheVariants.{Accept, Decline}
use Rattle.grasp_types.specs.declared.objective.Objective.{Objective}
use Rattle.grasp_types.specs.Prefix.{AddressBlock}
use Rattle.grasp_text.specs.Words.{joined}

-- an address is 8 or 32 lower-case hexadecimal digits
abbrev pub v4_word : ℕ → List ℕ
v4_word n = encode_lower (to_be_bytes w32 n)

abbrev pub v6_word : ℕ → List ℕ
v6_word n = encode_lower (to_be_bytes w128 n)

abbrev pub address_word : Address → List ℕ
address_word (address.V4 n) = v4_word n
address_word (address.V6 n) = v6_word n

-- a byte from 21 to 7e, but for the percent sign, stands for itself in a text's word; every other is a percent
-- sign and two lower-case hexadecimal digits
abbrev pub escaped : ℕ → List ℕ
escaped b = if (nat_le 33 b && nat_le b 126) && not (b == 37) then b ∷ [] else 37 ∷ slice_index lower_digits (b / 16) ∷ slice_index lower_digits (b % 16) ∷ []

abbrev pub all_escaped : List ℕ → List ℕ
all_escaped [] = []
all_escaped (b ∷ bytes) = escaped b ++ all_escaped bytes

-- a text is an apostrophe and its bytes, escaped
abbrev pub text_word : List ℕ → List ℕ
text_word bytes = 39 ∷ all_escaped bytes

-- raw bytes are `x` and their lower-case hexadecimal digits
abbrev pub bytes_word : List ℕ → List ℕ
bytes_word bytes = 120 ∷ encode_lower bytes

-- a value is `x` and the lower-case hexadecimal digits of its shortest encoding
abbrev pub value_word : DataItem → List ℕ
value_word item = 120 ∷ encode_lower (shortest item)

-- a lone `-` stands for what is absent
abbrev pub or_dash : {A : Type 0} → (A → List ℕ) → Option A → List ℕ
or_dash word None = codes "-"
or_dash word (Some a) = word a

abbrev pub proto_word : Proto → List ℕ
proto_word Tcp = codes "tcp"
proto_word Udp = codes "udp"

-- a prefix is its address, a slash and its length
abbrev pub prefix_word : AddressBlock → List ℕ
prefix_word p = v6_word p.address ++ 47 ∷ decimal p.length

-- the words of a locator
abbrev pub locator_words : Locator → List (List ℕ)
locator_words (V6 n proto port) = codes "v6" ∷ v6_word n ∷ proto_word proto ∷ decimal port ∷ []
locator_words (V4 n proto port) = codes "v4" ∷ v4_word n ∷ proto_word proto ∷ decimal port ∷ []
locator_words (Fqdn name proto port) = codes "fqdn" ∷ text_word name ∷ proto_word proto ∷ decimal port ∷ []
locator_words (Uri text proto port) = codes "uri" ∷ text_word text ∷ or_dash proto_word proto ∷ or_dash decimal port ∷ []

-- those of the locators, one after another
abbrev pub all_locator_words : List Locator → List (List ℕ)
all_locator_words [] = []
all_locator_words (locator ∷ locators) = locator_words locator ++ all_locator_words locators

-- the words of an objective
abbrev pub objective_words : Objective → List (List ℕ)
objective_words o = codes "obj" ∷ text_word o.name ∷ decimal o.flags ∷ decimal o.loops ∷ or_dash value_word o.value ∷ []

-- those of an objective that may be absent
abbrev pub optional_objective_words : Option Objective → List (List ℕ)
optional_objective_words None = []
optional_objective_words (Some o) = objective_words o

abbrev pub verdict_words : Verdict → List (List ℕ)
verdict_words Accept = codes "accept" ∷ []
verdict_words (Decline None) = codes "decline" ∷ []
verdict_words (Decline (Some reason)) = codes "decline" ∷ text_word reason ∷ []

abbrev pub answer_words : Answer → List (List ℕ)
answer_words (Locators locators) = codes "locators" ∷ all_locator_words locators
answer_words (Divert locators) = codes "divert" ∷ all_locator_words locators

-- a locator, or `none` where there is none
abbrev pub locator_or_none : Option Locator → List (List ℕ)
locator_or_none None = codes "none" ∷ []
locator_or_none (Some locator) = locator_words locator

-- the words of the parts of a flood
abbrev pub flood_part_words : FloodPart → List (List ℕ)
flood_part_words part = objective_words part.objective ++ locator_or_none part.locator

abbrev pub all_flood_part_words : List FloodPart → List (List ℕ)
all_flood_part_words [] = []
all_flood_part_words (part ∷ parts) = flood_part_words part ++ all_flood_part_words parts

-- the words of a message's line, its name first
abbrev pub message_words : Message → List (List ℕ)
message_words Noop = codes "noop" ∷ []
message_words (Discovery session initiator objective) = codes "discovery" ∷ decimal session ∷ address_word initiator ∷ objective_words objective
message_words (Response session initiator ttl answer objective) = codes "response" ∷ decimal session ∷ address_word initiator ∷ decimal ttl ∷ (answer_words answer ++ optional_objective_words objective)
message_words (ReqNeg session objective) = codes "request-neg" ∷ decimal session ∷ objective_words objective
message_words (ReqSyn session objective) = codes "request-syn" ∷ decimal session ∷ objective_words objective
message_words (Negotiate session objective) = codes "negotiate" ∷ decimal session ∷ objective_words objective
message_words (End session verdict) = codes "end" ∷ decimal session ∷ verdict_words verdict
message_words (Wait session millis) = codes "wait" ∷ decimal session ∷ decimal millis ∷ []
message_words (Synch session objective) = codes "synch" ∷ decimal session ∷ objective_words objective
message_words (Flood session initiator ttl parts) = codes "flood" ∷ decimal session ∷ address_word initiator ∷ decimal ttl ∷ all_flood_part_words parts
message_words (Invalid session detail) = codes "invalid" ∷ decimal session ∷ or_dash value_word detail ∷ []

-- the line of a message: its words with one blank between two
abbrev pub line_of : Message → List ℕ
line_of message = joined (message_words message)

-- the line is the message's, each part of which is within its range
pub record IsLineOf (line : List ℕ) (message : Message) : Type 0 where
  pub whole : IsMessage message
  pub spelled : line ≡ line_of message

-- the line is no message's
abbrev pub IsNoLine : List ℕ → Type 0
IsNoLine line = (message : Message) → ¬ IsLineOf line message

-- some message's words begin with these
pub record CanBegin (front : List (List ℕ)) : Type 0 where
  pub message : Message
  pub more : List (List ℕ)
  pub whole : IsMessage message
  pub words : message_words message ≡ front ++ more
