-- Laws on messages and streams.
use Rattle.std.specs.Prelude.{◌≡◌, ◌≢◌, ◌-◌, ◌<◌, ◌≤◌, ◌^◌, ◌⊎◌, ℕ, List, ◌∷◌, ◌++◌, All, Option, Some, None, IsSome, Result, Ok, Err, length, take}
use Rattle.std.specs.List.{flat_map}
use Rattle.grasp_cbor.specs.Bytes.{AllBytes}
use Rattle.grasp_cbor.specs.Shortest.{shortest}
use Rattle.grasp_types.specs.Message.{item_of, IsMessage}
use Rattle.grasp_types.specs.declared.message.Message.{Message}
use Rattle.grasp_wire.specs.declared.cutter.Cutter.{Cutter}
use Rattle.grasp_wire.specs.declared.fault.CutFault.{CutFault}
use Rattle.grasp_wire.specs.declared.fault.CutFault.TheVariants.{OutOfMemory}
use Rattle.grasp_wire.specs.declared.fault.OneFault.{OneFault}
use Rattle.grasp_wire.specs.declared.fault.OneFault.TheVariants.{Cut}
use Rattle.grasp_wire.specs.Wire.{IsWireForm}
use Rattle.grasp_wire.specs.Cutter.{Past, Waits, AnswersNext}
use Rattle.grasp_wire.specs.Stands.{Stands, cut_limit}
use Rattle.grasp_wire.specs.One.{AnswersOne}
use Rattle.grasp_wire.specs.Reads.{fault_of}
use Rattle.grasp_wire.specs.Stream.{Splits, Divides, RestKind, waiting, IsRest, BeginsNoMessage}

-- bytes are the wire form of at most one message
abbrev pub OneMessageForBytes : Type 0
OneMessageForBytes = (a b : Message) (bytes : List ℕ) (limit : ℕ) → IsWireForm a bytes limit → IsWireForm b bytes limit → a ≡ b

-- a stream divides in some way
abbrev pub SomeDivision : Type 0
SomeDivision = (stream : List ℕ) (limit : ℕ) → limit < 2 ^ 64 → AllBytes stream → (messages : List Message) × (rest : List ℕ) × (kind : RestKind) × Divides stream limit messages rest kind

-- a stream divides into messages and a rest in at most one way
abbrev pub OneDivision : Type 0
OneDivision = (stream : List ℕ) (limit : ℕ) (a b : List Message) (r s : List ℕ) → Splits stream limit a r → Splits stream limit b s → (a ≡ b) × (r ≡ s)

-- the rest of a stream is of at most one kind
abbrev pub OneKind : Type 0
OneKind = (rest : List ℕ) (limit : ℕ) (a b : RestKind) → AllBytes rest → IsRest rest limit a → IsRest rest limit b → a ≡ b

-- a rest of some kind begins with no message
abbrev pub RestsBeginNoMessage : Type 0
RestsBeginNoMessage = (rest : List ℕ) (limit : ℕ) (kind : RestKind) → AllBytes rest → IsRest rest limit kind → BeginsNoMessage rest limit

-- a datagram that is the wire form of a message is decoded to this message, unless memory is wanted
abbrev pub FormsAreDecoded : Type 0
FormsAreDecoded = (message : Message) (bytes : List ℕ) (limit : ℕ) (answer : Result Message OneFault) → AllBytes bytes → IsWireForm message bytes limit
    → AnswersOne bytes limit answer → (answer ≡ Ok message) ⊎ (answer ≡ Err (Cut OutOfMemory))

-- the division of a longer stream begins with that of the stream
abbrev pub DivisionsGrow : Type 0
DivisionsGrow = (stream more : List ℕ) (limit : ℕ) (a b : List Message) (r s : List ℕ) → Splits stream limit a r → Splits (stream ++ more) limit b s
    → (others : List Message) × (b ≡ a ++ others)

-- the division of a longer stream is that of the stream, but for the bytes behind, where the stream's rest isn't waiting
abbrev pub FaultsStay : Type 0
FaultsStay = (stream more : List ℕ) (limit : ℕ) (messages : List Message) (rest : List ℕ) (kind : RestKind) → AllBytes (stream ++ more) → Divides stream limit messages rest kind
    → kind ≢ waiting → Divides (stream ++ more) limit messages (rest ++ more) kind

-- the shortest encoding of a message within the limit is a wire form of it
abbrev pub ShortestIsWireForm : Type 0
ShortestIsWireForm = (message : Message) (limit : ℕ) → limit < 2 ^ 64 → IsMessage message → length (shortest (item_of message)) ≤ limit
    → IsWireForm message (shortest (item_of message)) limit

-- the shortest encodings of messages, joined
abbrev pub encoded : List Message → List ℕ
encoded messages = flat_map (λ m. shortest (item_of m)) messages

-- the message is one, and its shortest encoding is within the limit
abbrev pub IsSendable : ℕ → Message → Type 0
IsSendable limit message = IsMessage message × (length (shortest (item_of message)) ≤ limit)

-- what was encoded is decoded, whatever follows: messages come first in every stream that begins with their encodings
abbrev pub EncodedComeFirst : Type 0
EncodedComeFirst = (messages others : List Message) (more rest : List ℕ) (limit : ℕ) → limit < 2 ^ 64 → All (IsSendable limit) messages
    → Splits (encoded messages ++ more) limit others rest → (last : List Message) × (others ≡ messages ++ last)

-- the first so many bytes of joined encodings divide into the first messages and a waiting rest
abbrev pub FrontsDivide : Type 0
FrontsDivide = (messages : List Message) (limit n : ℕ) → 0 < limit → limit < 2 ^ 64 → All (IsSendable limit) messages → n ≤ length (encoded messages)
    → (given others : List Message) × (rest : List ℕ) × (messages ≡ given ++ others) × Divides (take n (encoded messages)) limit given rest waiting

-- what a cutter gave comes first in every division of what was fed
abbrev pub GivenComeFirst : Type 0
GivenComeFirst = (cutter : Cutter) (past : Past) (messages : List Message) (rest : List ℕ) → Stands cutter past → Splits past.fed (cut_limit cutter) messages rest
    → (others : List Message) × (messages ≡ past.given ++ others)

-- where it waits for more bytes, it gave all
abbrev pub AllGivenAtNone : Type 0
AllGivenAtNone = (limit : ℕ) (past : Past) (messages : List Message) (rest : List ℕ) → Waits limit past → Splits past.fed limit messages rest → messages ≡ past.given

-- where a fault lasts, the cutter gave all messages of what was fed
abbrev pub AllGivenAtFault : Type 0
AllGivenAtFault = (cutter : Cutter) (past : Past) (messages : List Message) (rest : List ℕ) → Stands cutter past → IsSome past.fault → Splits past.fed (cut_limit cutter) messages rest
    → messages ≡ past.given

-- what an answer says of the division of what was fed: it is the next message, or all were given and the rest is waiting, or
-- all were given and the rest has this fault; want of memory says nothing
abbrev pub TellsNext : Past → List Message → List ℕ → RestKind → Result (Option Message) CutFault → Type 0
TellsNext past messages rest kind (Ok (Some message)) = (others : List Message) × (messages ≡ past.given ++ message ∷ others)
TellsNext past messages rest kind (Ok None) = (messages ≡ past.given) × (kind ≡ waiting)
TellsNext past messages rest kind (Err OutOfMemory) = Unit {0}
TellsNext past messages rest kind (Err fault) = (messages ≡ past.given) × (fault_of (length past.fed - length rest) kind ≡ Some fault)

-- each answer of a cutter says so
abbrev pub AnswersAreDivided : Type 0
AnswersAreDivided = (cutter : Cutter) (past : Past) (result : Result (Option Message) CutFault) (messages : List Message) (rest : List ℕ) (kind : RestKind) → Stands cutter past
    → AnswersNext (cut_limit cutter) past past.fault result → Divides past.fed (cut_limit cutter) messages rest kind → TellsNext past messages rest kind result

-- a cutter has one answer, but for want of memory
abbrev pub OneNextAnswer : Type 0
OneNextAnswer = (cutter : Cutter) (past : Past) (a b : Result (Option Message) CutFault) → cut_limit cutter < 2 ^ 64 → Stands cutter past → AnswersNext (cut_limit cutter) past past.fault a
    → AnswersNext (cut_limit cutter) past past.fault b → (a ≡ b) ⊎ ((a ≡ Err OutOfMemory) ⊎ (b ≡ Err OutOfMemory))

-- a datagram has an answer that isn't want of memory
abbrev pub SomeAnswer : Type 0
SomeAnswer = (bytes : List ℕ) (limit : ℕ) → limit < 2 ^ 64 → AllBytes bytes → (answer : Result Message OneFault) × AnswersOne bytes limit answer × (answer ≢ Err (Cut OutOfMemory))

-- a datagram has at most one answer, but for out of memory
abbrev pub OneAnswer : Type 0
OneAnswer = (bytes : List ℕ) (limit : ℕ) (a b : Result Message OneFault) → AllBytes bytes → AnswersOne bytes limit a → AnswersOne bytes limit b
    → (a ≡ b) ⊎ ((a ≡ Err (Cut OutOfMemory)) ⊎ (b ≡ Err (Cut OutOfMemory)))
