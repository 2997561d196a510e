-- What a record tells of what a node took, as words. The layout is this project's own.
use Rattle.std.specs.Prelude.{◌≡◌, ◌<◌, ◌^◌, ℕ, true, List, [], ◌∷◌, codes, decimal}
use Rattle.grasp_cbor.specs.Bytes.{AllBytes}
use Rattle.grasp_types.specs.Address.{IsAddress}
use Rattle.grasp_types.specs.Prefix.{IsPrefix}
use Rattle.grasp_text.specs.Line.{address_word, bytes_word, prefix_word}
use Rattle.grasp_model_network.specs.Events.{AreLengths}
use Rattle.grasp_model_network.specs.Plans.{IsNode}
use Rattle.grasp_script.specs.Calls.{call_words, IsCall, may_call}
use Rattle.grasp_record.specs.declared.line.RecordInput.{RecordInput}
use Rattle.grasp_record.specs.declared.line.RecordInput.TheVariants as input

-- the words of an input; a call is told as a script tells it, a stream by its number at the node
abbrev pub input_words : RecordInput → List (List ℕ)
input_words (input.Api asa call) = codes "api" ∷ decimal asa ∷ call_words call
input_words (input.Agent call) = codes "agent" ∷ call_words call
input_words (input.Want length longest peer) = codes "want" ∷ decimal length ∷ decimal longest ∷ decimal peer ∷ []
input_words (input.Return prefix peer) = codes "return" ∷ prefix_word prefix ∷ decimal peer ∷ []
input_words (input.Datagram link from bytes) = codes "datagram" ∷ decimal link ∷ decimal from ∷ bytes_word bytes ∷ []
input_words (input.Opened stream from) = codes "opened" ∷ decimal stream ∷ address_word from ∷ []
input_words (input.Bytes stream bytes) = codes "bytes" ∷ decimal stream ∷ bytes_word bytes ∷ []
input_words (input.Closed stream) = codes "closed" ∷ decimal stream ∷ []
input_words (input.Drain max) = codes "drain" ∷ decimal max ∷ []

-- each part of the input is within its range, the nodes that it names are nodes of the record, and a call is one that the agent may make
abbrev pub IsInput : ℕ → RecordInput → Type 0
IsInput nodes (input.Api asa call) = (asa < 2 ^ 32) × IsCall nodes call × (may_call asa call ≡ true)
IsInput nodes (input.Agent call) = IsCall nodes call
IsInput nodes (input.Want length longest peer) = AreLengths length longest × IsNode nodes peer
IsInput nodes (input.Return prefix peer) = IsPrefix prefix.address prefix.length × IsNode nodes peer
IsInput nodes (input.Datagram link from bytes) = (link < 2 ^ 8) × (from < 2 ^ 8) × AllBytes bytes
IsInput nodes (input.Opened stream from) = (stream < 2 ^ 64) × IsAddress from
IsInput nodes (input.Bytes stream bytes) = (stream < 2 ^ 64) × AllBytes bytes
IsInput nodes (input.Closed stream) = stream < 2 ^ 64
IsInput nodes (input.Drain max) = max < 2 ^ 32
