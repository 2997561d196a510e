-- How a stream of bytes divides into messages and a rest (RFC 8990, section 2.8).
use Rattle.std.specs.Prelude.{◌≡◌, ◌≤◌, ℕ, List, ◌++◌, length, take}
use Rattle.grasp_cbor.specs.DataItem.{DataItem}
use Rattle.grasp_cbor.specs.Ending.{IsWhole, IsPartial, IsTooLong, IsFaulty}
use Rattle.grasp_cbor.specs.declared.walker.FaultName.{FaultName}
use Rattle.grasp_types.specs.Message.{item_of, IsMessage}
use Rattle.grasp_types.specs.declared.message.Message.{Message}
use Rattle.grasp_wire.specs.Wire.{IsWireForm, AreWireForms}

-- no front of the bytes is the wire form of a message
abbrev pub BeginsNoMessage : List ℕ → ℕ → Type 0
BeginsNoMessage bytes limit = (message : Message) (n : ℕ) → n ≤ length bytes → ¬ IsWireForm message (take n bytes) limit

-- the stream is wire forms of these messages, one after the other, and then the rest, which begins with none
pub record Splits (stream : List ℕ) (limit : ℕ) (messages : List Message) (rest : List ℕ) : Type 0 where
  pub front : List ℕ
  pub forms : AreWireForms messages front limit
  pub parts : stream ≡ front ++ rest
  pub no_more : BeginsNoMessage rest limit

-- the four kinds of a rest; a fault has its place, counted from the first byte of the rest
pub data RestKind : Type 0 where
  waiting : RestKind
  too_long : RestKind
  not_message : RestKind
  faulty : FaultName → ℕ → RestKind

-- the item is that of no message
abbrev pub IsNoMessage : DataItem → Type 0
IsNoMessage item = (message : Message) → IsMessage message → ¬ (item ≡ item_of message)

-- an item that is no message begins the rest, within the limit
pub record IsNotMessage (rest : List ℕ) (limit : ℕ) : Type 0 where
  pub item : DataItem
  pub used : ℕ
  pub whole : IsWhole rest limit item used
  pub no_message : IsNoMessage item

-- The rest is of this kind: it can go on to an item and is shorter than the limit; it is as long as the limit or longer,
-- and as many bytes as the limit can still go on; an item that is no message begins it; or it has a fault below the limit.
abbrev pub IsRest : List ℕ → ℕ → RestKind → Type 0
IsRest rest limit waiting = IsPartial rest limit
IsRest rest limit too_long = IsTooLong rest limit
IsRest rest limit not_message = IsNotMessage rest limit
IsRest rest limit (faulty name place) = IsFaulty rest limit name place

-- the stream divides into these messages and a rest of this kind
pub record Divides (stream : List ℕ) (limit : ℕ) (messages : List Message) (rest : List ℕ) (kind : RestKind) : Type 0 where
  pub splits : Splits stream limit messages rest
  pub kind_is : IsRest rest limit kind
