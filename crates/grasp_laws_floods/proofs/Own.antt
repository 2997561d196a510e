-- What a call of an agent begins to send: its parts are in range, and a flood is what the call flooded.
use Rattle.std.proofs.Common.{◌≡◌, refl, ap, subst, arith, ℕ, ◌≤◌, List, [], Some}
use Rattle.std.specs.Prelude.{Contains}
use Rattle.std.proofs.lemmas.List.Elements.{All-cons, All-nil}
use Rattle.grasp_asa.specs.Registrations.{is_of}
use Rattle.grasp_cbor.proofs.Facts.Numbers.{itself}
use Rattle.grasp_cbor.specs.DataItem.{DataItem}
use Rattle.grasp_model_node.proofs.Facts.{session_below}
use Rattle.grasp_model_node.specs.FloodCalls.{looked_for, flooded, flood_message}
use Rattle.grasp_model_node.specs.Node.{NodeState}
use Rattle.grasp_laws_node.specs.Relays.{own_message}
use Rattle.grasp_model_node.specs.SessionCalls.{flags_or}
use Rattle.grasp_model_node.specs.Tests.{owned_flags}
use Rattle.grasp_model_network.specs.Setting.{Member, numbered}
use Rattle.grasp_model_network.specs.World.{FloodCall}
use Rattle.grasp_types.proofs.Facts.{some_part}
use Rattle.grasp_types.specs.Address.{IsAddress}
use Rattle.grasp_types.specs.Message.{IsFloodPart}
use Rattle.grasp_types.specs.Objective.{IsObjective}
use Rattle.grasp_types.specs.declared.call.Call.{Call}
use Rattle.grasp_types.specs.declared.call.Call.TheVariants as call
use Rattle.grasp_types.specs.declared.flood.FloodPart.{FloodPart}
use Rattle.grasp_types.specs.declared.reply.ApiAnswer.{ApiAnswer}
use Rattle.grasp_types.specs.declared.reply.ApiAnswer.TheVariants as answer
use Rattle.grasp_types.specs.declared.session.Kind.{Kind}
use Rattle.grasp_types.specs.declared.session.Kind.TheVariants.{Negotiation, Synchronization}
use Rattle.grasp_laws_floods.proofs.Heard.{OptionMade}
use Rattle.grasp_laws_floods.proofs.Made.{PartMade, MessageMade}
use Rattle.grasp_laws_floods.proofs.Registries.{AllHaveFlags, found_flags}
use Rattle.grasp_laws_floods.proofs.Ranges.{IsInRange}

-- ---- a discovery

wanted_small : 3 ≤ 15
wanted_small = omega arith

also_small : 5 ≤ 15
also_small = omega arith

looked_objective : (name : List ℕ) (kind : Kind) (loops : ℕ) → IsInRange (call.Discover name kind loops 0) → IsObjective (looked_for name kind loops)
looked_objective name Negotiation loops k = record { name = k.0; flags = wanted_small; loops = k.1; value = tt }
looked_objective name Synchronization loops k = record { name = k.0; flags = also_small; loops = k.1; value = tt }

-- ---- a flood

-- the call of this step is the last of the calls
pub record IsOwn (ms : List Member) (calls : List FloodCall) (n : NodeState) (asa : ℕ) (name : List ℕ) (value : DataItem) (loops : ℕ) : Type 0 where
  pub call : FloodCall
  pub among : Contains calls call
  pub member : Member
  pub made_at : numbered ms call.node ≡ Some member
  pub address : n.plan.address ≡ member.plan.address
  pub name_is : name ≡ call.name
  pub value_is : value ≡ call.value
  pub flags_are : flags_or (owned_flags n asa name) ≡ call.flags
  pub loops_are : loops ≡ call.loops

own_flood : (ms : List Member) (calls : List FloodCall) (n : NodeState) (asa : ℕ) (name : List ℕ) (value : DataItem) (ttl loops : ℕ) → IsInRange (call.Flood name value ttl loops)
    → IsAddress n.plan.address → AllHaveFlags n.registrations → IsOwn ms calls n asa name value loops → MessageMade ms calls (flood_message n asa name value ttl loops)
own_flood ms calls n asa name value ttl loops k address flags own = record {
  is_message = (session_below n, address, k.2, record { some = some_part part; each = All-cons IsFloodPart part [] is_part (All-nil IsFloodPart) });
  parts = All-cons (PartMade ms calls n.plan.address) part [] made (All-nil (PartMade ms calls n.plan.address));
} where
  part : FloodPart
  part = flooded n asa name value loops

  is_part : IsFloodPart part
  is_part = record {
    objective = record { name = k.0; flags = found_flags (is_of asa name) n.registrations.objectives flags; loops = k.3; value = k.1 };
    locator = tt;
  }

  made : PartMade ms calls n.plan.address part
  made = record {
    call = own.call;
    among = own.among;
    member = own.member;
    made_at = own.made_at;
    address = own.address;
    name = own.name_is;
    value = ap (λ v. Some v) own.value_is;
    flags = own.flags_are;
    loops = subst (λ l. loops ≤ l) own.loops_are (itself loops);
    no_locator = refl;
  }

-- ---- each call

-- what the call floods, where it is done
abbrev pub OwnCall : List Member → List FloodCall → NodeState → ℕ → Call → ApiAnswer → Type 0
OwnCall ms calls n asa (call.Flood name value ttl loops) answer.Done = IsOwn ms calls n asa name value loops
OwnCall ms calls n asa it a = Unit {0}

pub own_made : (ms : List Member) (calls : List FloodCall) (n : NodeState) (asa : ℕ) (it : Call) (a : ApiAnswer) → IsInRange it → IsAddress n.plan.address → AllHaveFlags n.registrations
    → OwnCall ms calls n asa it a → OptionMade ms calls (own_message n asa it a)
own_made ms calls n asa (call.Discover name kind loops timeout) answer.Searching k address flags own =
    record { is_message = (session_below n, address, looked_objective name kind loops k); parts = tt }
own_made ms calls n asa (call.Flood name value ttl loops) answer.Done k address flags own = own_flood ms calls n asa name value ttl loops k address flags own
own_made ms calls n asa it a k address flags own = tt
