-- What a cutter is fed and asked, in any order and in pieces of any length.
use Rattle.std.specs.Prelude.{◌≡◌, ℕ, List, [], ◌∷◌, ◌++◌, Option, Some, None, IsSome, Result, Ok, Err}
use Rattle.grasp_cbor.specs.Bytes.{AllBytes}
use Rattle.grasp_types.specs.declared.message.Message.{Message}
use Rattle.grasp_wire.specs.declared.fault.CutFault.{CutFault}
use Rattle.grasp_wire.specs.Cutter.{Past, no_past, after_feed, after_next, lasting, AnswersNext}
use Rattle.grasp_wire.specs.Stream.{Splits}

-- one call: a piece was fed, or the next message was asked for and this was the answer
pub data CutCall : Type 0 where
  feeds : List ℕ → CutCall
  answers : Result (Option Message) CutFault → CutCall

-- in these calls, oldest first, each piece is bytes, and each answer is that of a cutter which saw the calls before
abbrev pub AreCutCalls : ℕ → Past → List CutCall → Type 0
AreCutCalls limit past [] = Unit {0}
AreCutCalls limit past (feeds piece ∷ calls) = AllBytes piece × AreCutCalls limit (after_feed past piece) calls
AreCutCalls limit past (answers result ∷ calls) = AnswersNext limit past past.fault result × AreCutCalls limit (after_next past result) calls

-- all bytes that were fed
abbrev pub fed_in : List CutCall → List ℕ
fed_in [] = []
fed_in (feeds piece ∷ calls) = piece ++ fed_in calls
fed_in (answers result ∷ calls) = fed_in calls

-- the messages that the answer gives: one or none
abbrev pub answered : Result (Option Message) CutFault → List Message
answered (Ok (Some message)) = message ∷ []
answered (Ok None) = []
answered (Err fault) = []

-- all messages that were given
abbrev pub given_in : List CutCall → List Message
given_in [] = []
given_in (feeds piece ∷ calls) = given_in calls
given_in (answers result ∷ calls) = answered result ++ given_in calls

-- after this answer no message is left: the cutter waits, or has a fault that lasts
abbrev pub IsLastAnswer : Result (Option Message) CutFault → Type 0
IsLastAnswer (Ok (Some message)) = ⊥
IsLastAnswer (Ok None) = Unit {0}
IsLastAnswer (Err fault) = IsSome (lasting fault)

-- whatever pieces the bytes came in, the messages that were given come first in the division of all that was fed
abbrev pub AnyPiecesBegin : Type 0
AnyPiecesBegin = (limit : ℕ) (calls : List CutCall) (messages : List Message) (rest : List ℕ) → AreCutCalls limit no_past calls → Splits (fed_in calls) limit messages rest
    → (others : List Message) × (messages ≡ given_in calls ++ others)

-- whatever pieces the bytes came in, all messages of what was fed were given once the cutter waits or answers a lasting fault
abbrev pub AnyPiecesGiveAll : Type 0
AnyPiecesGiveAll = (limit : ℕ) (calls : List CutCall) (last : Result (Option Message) CutFault) (messages : List Message) (rest : List ℕ) → AreCutCalls limit no_past (calls ++ answers last ∷ [])
    → IsLastAnswer last → Splits (fed_in calls) limit messages rest → messages ≡ given_in calls
