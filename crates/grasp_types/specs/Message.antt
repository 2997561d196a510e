-- The data item of each message, and the ranges of a message's parts.
--
-- The layout is after RFC 8990, section 4. This project's own: an item of `any` type (an objective's value, and
-- what an M_INVALID tells) nests at most 13 deep.
use Rattle.std.specs.Prelude.{◌≡◌, ℕ, ◌<◌, ◌≤◌, ◌^◌, List, [], ◌∷◌, ◌++◌, Option, Some, None, IfSome, All, map, length, option_map}
use Rattle.std.specs.Str.{IsUtf8}
use Rattle.grasp_cbor.specs.DataItem.{DataItem, unsigned, text_string, array_of, depth_of}
use Rattle.grasp_types.specs.Address.{address_item, locator_item, IsAddress, IsLocator}
use Rattle.grasp_types.specs.Objective.{optional, objective_item, IsObjective, IsValue}
use Rattle.grasp_types.specs.declared.address.Locator.{Locator}
use Rattle.grasp_types.specs.declared.flood.FloodPart.{FloodPart}
use Rattle.grasp_types.specs.declared.message.Answer.{Answer}
use Rattle.grasp_types.specs.declared.message.Answer.TheVariants.{Locators, Divert}
use Rattle.grasp_types.specs.declared.message.Message.{Message}
use Rattle.grasp_types.specs.declared.message.Message.TheVariants.{Noop, Discovery, Response, ReqNeg, ReqSyn, Negotiate, End, Wait, Synch, Flood, Invalid}
use Rattle.grasp_types.specs.declared.message.Verdict.{Verdict}
use Rattle.grasp_types.specs.declared.message.Verdict.TheVariants.{Accept, Decline}

-- O_ACCEPT and O_DECLINE with its reason, where there is one (RFC 8990, sections 2.9.3 and 2.9.4)
abbrev pub verdict_item : Verdict → DataItem
verdict_item Accept = array_of (unsigned 101 ∷ [])
verdict_item (Decline reason) = array_of (unsigned 102 ∷ optional (option_map text_string reason))

-- the locators side by side, or one O_DIVERT that holds them (RFC 8990, sections 2.8.5 and 2.9.2)
abbrev pub answer_items : Answer → List DataItem
answer_items (Locators locators) = map locator_item locators
answer_items (Divert locators) = array_of (unsigned 100 ∷ map locator_item locators) ∷ []

-- a locator, or the empty list where there is none (RFC 8990, section 2.8.11)
abbrev pub locator_or_empty : Option Locator → DataItem
locator_or_empty None = array_of []
locator_or_empty (Some locator) = locator_item locator

-- an objective of a flood, and its locator (RFC 8990, section 2.8.11)
abbrev pub flood_part_item : FloodPart → DataItem
flood_part_item part = array_of (objective_item part.objective ∷ locator_or_empty part.locator ∷ [])

-- the data item of a message
abbrev pub item_of : Message → DataItem
-- M_NOOP (RFC 8990, section 2.8.13)
item_of Noop = array_of (unsigned 0 ∷ [])
-- M_DISCOVERY (RFC 8990, section 2.8.4)
item_of (Discovery session initiator objective) = array_of (unsigned 1 ∷ unsigned session ∷ address_item initiator ∷ objective_item objective ∷ [])
-- M_RESPONSE (RFC 8990, section 2.8.5)
item_of (Response session initiator ttl answer objective) = array_of (unsigned 2 ∷ unsigned session ∷ address_item initiator ∷ unsigned ttl ∷ (answer_items answer ++ optional (option_map objective_item objective)))
-- M_REQ_NEG (RFC 8990, section 2.8.6)
item_of (ReqNeg session objective) = array_of (unsigned 3 ∷ unsigned session ∷ objective_item objective ∷ [])
-- M_REQ_SYN (RFC 8990, section 2.8.6)
item_of (ReqSyn session objective) = array_of (unsigned 4 ∷ unsigned session ∷ objective_item objective ∷ [])
-- M_NEGOTIATE (RFC 8990, section 2.8.7)
item_of (Negotiate session objective) = array_of (unsigned 5 ∷ unsigned session ∷ objective_item objective ∷ [])
-- M_END (RFC 8990, section 2.8.8)
item_of (End session verdict) = array_of (unsigned 6 ∷ unsigned session ∷ verdict_item verdict ∷ [])
-- M_WAIT (RFC 8990, section 2.8.9)
item_of (Wait session millis) = array_of (unsigned 7 ∷ unsigned session ∷ unsigned millis ∷ [])
-- M_SYNCH (RFC 8990, section 2.8.10)
item_of (Synch session objective) = array_of (unsigned 8 ∷ unsigned session ∷ objective_item objective ∷ [])
-- M_FLOOD (RFC 8990, section 2.8.11)
item_of (Flood session initiator ttl parts) = array_of (unsigned 9 ∷ unsigned session ∷ address_item initiator ∷ unsigned ttl ∷ map flood_part_item parts)
-- M_INVALID (RFC 8990, section 2.8.12)
item_of (Invalid session detail) = array_of (unsigned 99 ∷ unsigned session ∷ optional detail)

-- the session number, which every message but M_NOOP has (RFC 8990, section 2.7)
abbrev pub session_of : Message → Option ℕ
session_of Noop = None
session_of (Discovery session initiator objective) = Some session
session_of (Response session initiator ttl answer objective) = Some session
session_of (ReqNeg session objective) = Some session
session_of (ReqSyn session objective) = Some session
session_of (Negotiate session objective) = Some session
session_of (End session verdict) = Some session
session_of (Wait session millis) = Some session
session_of (Synch session objective) = Some session
session_of (Flood session initiator ttl parts) = Some session
session_of (Invalid session detail) = Some session

abbrev pub IsVerdict : Verdict → Type 0
IsVerdict Accept = Unit {0}
IsVerdict (Decline reason) = IfSome reason IsUtf8

-- one or more locators
pub record AreLocators (locators : List Locator) : Type 0 where
  pub some : 1 ≤ length locators
  pub each : All IsLocator locators

abbrev pub IsAnswer : Answer → Type 0
IsAnswer (Locators locators) = AreLocators locators
IsAnswer (Divert locators) = AreLocators locators

pub record IsFloodPart (part : FloodPart) : Type 0 where
  pub objective : IsObjective part.objective
  pub locator : IfSome part.locator IsLocator

-- one or more parts
pub record AreFloodParts (parts : List FloodPart) : Type 0 where
  pub some : 1 ≤ length parts
  pub each : All IsFloodPart parts

-- each part is within the range of its type
abbrev pub IsMessage : Message → Type 0
IsMessage Noop = Unit {0}
IsMessage (Discovery session initiator objective) = (session < 2 ^ 32) × IsAddress initiator × IsObjective objective
IsMessage (Response session initiator ttl answer objective) = (session < 2 ^ 32) × IsAddress initiator × (ttl < 2 ^ 32) × IsAnswer answer × IfSome objective IsObjective
IsMessage (ReqNeg session objective) = (session < 2 ^ 32) × IsObjective objective
IsMessage (ReqSyn session objective) = (session < 2 ^ 32) × IsObjective objective
IsMessage (Negotiate session objective) = (session < 2 ^ 32) × IsObjective objective
IsMessage (End session verdict) = (session < 2 ^ 32) × IsVerdict verdict
IsMessage (Wait session millis) = (session < 2 ^ 32) × (millis < 2 ^ 32)
IsMessage (Synch session objective) = (session < 2 ^ 32) × IsObjective objective
IsMessage (Flood session initiator ttl parts) = (session < 2 ^ 32) × IsAddress initiator × (ttl < 2 ^ 32) × AreFloodParts parts
IsMessage (Invalid session detail) = (session < 2 ^ 32) × IfSome detail IsValue

-- no two messages whose parts are in range have the same data item
abbrev pub OneMessageAnItem : Type 0
OneMessageAnItem = (x y : Message) → IsMessage x → IsMessage y → item_of x ≡ item_of y → x ≡ y

-- the data item of a message nests at most 16 deep, so that it has an encoding
abbrev pub MessagesNestSixteenDeep : Type 0
MessagesNestSixteenDeep = (x : Message) → IsMessage x → depth_of (item_of x) ≤ 16
