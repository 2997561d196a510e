-- What an agent of PrefixManager sends: values that have an encoding, and short texts and values, so that each message fits.
use Rattle.std.specs.Prelude.{◌≡◌, ℕ, ◌≤◌, List, length, Some, None}
use Rattle.std.specs.Str.{IsUtf8}
use Rattle.grasp_cbor.specs.DataItem.{DataItem}
use Rattle.grasp_cbor.specs.Shortest.{shortest}
use Rattle.grasp_types.specs.Objective.{IsValue}
use Rattle.grasp_types.specs.Prefix.{AddressBlock as Prefix, IsPrefix}
use Rattle.grasp_types.specs.declared.call.Call.{Call}
use Rattle.grasp_types.specs.declared.call.Call.TheVariants as call
use Rattle.grasp_types.specs.declared.message.Verdict.{Verdict}
use Rattle.grasp_types.specs.declared.message.Verdict.TheVariants as verdict
use Rattle.grasp_agent.specs.Calls.{next_call}
use Rattle.grasp_agent.specs.Kept.{IsKept}
use Rattle.grasp_agent.specs.States.{AgentState}
use Rattle.grasp_agent.specs.Values.{length_value, prefix_value, return_value, asked_in, offered_in, returned_in}

-- UTF-8 of at most 16 bytes
pub record IsShortText (text : List ℕ) : Type 0 where
  pub utf8 : IsUtf8 text
  pub short : length text ≤ 16

-- a value whose shortest encoding has at most 32 bytes
pub record IsShortValue (v : DataItem) : Type 0 where
  pub value : IsValue v
  pub short : length (shortest v) ≤ 32

abbrev pub IsShortVerdict : Verdict → Type 0
IsShortVerdict verdict.Accept = Unit {0}
IsShortVerdict (verdict.Decline None) = Unit {0}
IsShortVerdict (verdict.Decline (Some reason)) = IsShortText reason

-- one of the agent's calls, whose texts and value are short
abbrev pub IsShortCall : Call → Type 0
IsShortCall (call.RegisterAsa name) = IsShortText name
IsShortCall (call.RegisterObjective name flags) = IsShortText name
IsShortCall (call.ListenNegotiate name) = IsShortText name
IsShortCall (call.RequestNegotiate name value loops timeout dry peer) = IsShortText name × IsShortValue value
IsShortCall (call.NegotiateStep handle value) = IsShortValue value
IsShortCall (call.EndNegotiate handle verdict) = IsShortVerdict verdict
IsShortCall (call.Poll handle) = Unit {0}
IsShortCall _ = ⊥

-- a length that is asked for is a value, and is read back
abbrev pub LengthsAreSent : Type 0
LengthsAreSent = (n : ℕ) → 1 ≤ n → n ≤ 128 → IsShortValue (length_value n) × (asked_in (Some (length_value n)) ≡ Some n)

-- a prefix that is offered is a value, and is read back
abbrev pub PrefixesAreSent : Type 0
PrefixesAreSent = (p : Prefix) → IsPrefix p.address p.length → IsShortValue (prefix_value p) × (offered_in (Some (prefix_value p)) ≡ Some p)

-- a prefix that is given back is a value, and is read back
abbrev pub ReturnsAreSent : Type 0
ReturnsAreSent = (p : Prefix) → IsPrefix p.address p.length → IsShortValue (return_value p) × (returned_in (Some (return_value p)) ≡ Some p)

-- each call that an agent makes is short
abbrev pub CallsAreShort : Type 0
CallsAreShort = (s : AgentState) → IsKept s → IsShortCall (next_call s)
