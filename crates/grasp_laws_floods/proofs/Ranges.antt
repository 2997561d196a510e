-- What is within its range in a network: the parts of calls from which messages to neighbours are made, and the addresses of members.
use Rattle.std.proofs.Common.{ℕ, ◌<◌, ◌≤◌, ◌^◌, List, All}
use Rattle.std.specs.Prelude.{Contains}
use Rattle.std.specs.Str.{IsUtf8}
use Rattle.std.proofs.lemmas.List.Elements.{All-contains, All-weaker}
use Rattle.grasp_model_network.specs.Events.{IsFitAmong}
use Rattle.grasp_model_network.specs.GoodSetting.{IsGoodMember, IsGoodSetting}
use Rattle.grasp_model_network.specs.Ranges.{IsCall}
use Rattle.grasp_model_network.specs.Setting.{Member, Setting}
use Rattle.grasp_model_network.specs.declared.event.Event.{Event}
use Rattle.grasp_model_network.specs.declared.event.Event.TheVariants as event
use Rattle.grasp_types.specs.Address.{IsAddress}
use Rattle.grasp_types.specs.Objective.{IsValue}
use Rattle.grasp_types.specs.declared.call.Call.{Call}
use Rattle.grasp_types.specs.declared.call.Call.TheVariants.{RegisterObjective, Discover, Flood}

-- what is sent to neighbours for this call, and the flags that it registers, are within their ranges
abbrev pub IsInRange : Call → Type 0
IsInRange (RegisterObjective name flags) = flags ≤ 15
IsInRange (Discover name kind loops timeout) = IsUtf8 name × (loops < 2 ^ 8)
IsInRange (Flood name value ttl loops) = IsUtf8 name × IsValue value × (ttl < 2 ^ 32) × (loops < 2 ^ 8)
IsInRange _ = Unit {0}

call_range : (it : Call) → IsCall it → IsInRange it
call_range (RegisterObjective name flags) k = k.1
call_range (Discover name kind loops timeout) k = k
call_range (Flood name value ttl loops) k = k
call_range _ k = tt

-- what the call of an event sends and registers is within its range, where the event has a call
abbrev pub IsEventInRange : Event → Type 0
IsEventInRange (event.Api node asa call hold) = IsInRange call
IsEventInRange _ = Unit {0}

pub event_range : (nodes peers : ℕ) (e : Event) → IsFitAmong nodes peers e → IsEventInRange e
event_range nodes peers (event.Api node asa call hold) fit = call_range call fit.2
event_range nodes peers _ fit = tt

-- each of these is a member of the setting: a list of lives tells for each whose it is
abbrev pub AreMembers : Setting → List Member → Type 0
AreMembers s ms = All (λ m. Contains s.members m) ms

-- good members, with one limit on messages
pub record AreGood (ms : List Member) : Type 0 where
  pub limit : ℕ
  pub most_limit : limit ≤ 65535
  pub members : All (IsGoodMember limit) ms

pub good_members : (s : Setting) (ms : List Member) → IsGoodSetting s → AreMembers s ms → AreGood ms
good_members s ms good are = record {
  limit = good.limit;
  most_limit = good.most_limit;
  members = All-weaker (λ m. Contains s.members m) (IsGoodMember good.limit) (λ m c. All-contains (IsGoodMember good.limit) s.members m good.members c) ms are;
}

-- each member's address has 32 or 128 bits
abbrev pub HasAddresses : List Member → Type 0
HasAddresses ms = All (λ (m : Member). IsAddress m.plan.address) ms

pub good_addresses : (ms : List Member) → AreGood ms → HasAddresses ms
good_addresses ms good = All-weaker (IsGoodMember good.limit) (λ (m : Member). IsAddress m.plan.address) (λ m k. k.address) ms good.members
