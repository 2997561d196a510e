-- What an event gives to its node was made, and so is what it reads.
use Rattle.std.proofs.Common.{◌≡◌, refl, sym, ap, ◌∙◌, subst, arith, ℕ, ◌<◌, ◌≤◌, ◌^◌, List, ◌++◌, All}
use Rattle.std.specs.Prelude.{find, option_map}
use Rattle.std.proofs.lemmas.List.Elements.{Contains-push}
use Rattle.grasp_asa.specs.Registrations.{is_of}
use Rattle.grasp_cbor.specs.DataItem.{DataItem}
use Rattle.grasp_laws_node.proofs.Remembered.{begun}
use Rattle.grasp_model_node.specs.Begin.{begin}
use Rattle.grasp_model_node.specs.Node.{NodeState}
use Rattle.grasp_model_node.specs.SessionCalls.{flags_or}
use Rattle.grasp_model_node.specs.Step.{Coming, IsComing}
use Rattle.grasp_model_node.specs.Tests.{owned_flags}
use Rattle.grasp_model_network.proofs.Facts.{numbered_all}
use Rattle.grasp_model_network.specs.GoodSetting.{IsGoodMember}
use Rattle.grasp_model_network.specs.Notes.{flooded_by, floods_in}
use Rattle.grasp_model_network.specs.Setting.{Member}
use Rattle.grasp_model_network.specs.Visits.{Visit}
use Rattle.grasp_model_network.specs.World.{FloodCall, WorldState}
use Rattle.grasp_types.specs.Address.{IsAddress}
use Rattle.grasp_types.specs.declared.call.Call.{Call}
use Rattle.grasp_types.specs.declared.call.Call.TheVariants as call
use Rattle.grasp_types.specs.declared.reply.ApiAnswer.{ApiAnswer}
use Rattle.grasp_types.specs.declared.reply.ApiAnswer.TheVariants as answer
use Rattle.grasp_types.specs.declared.reply.Reply.{Reply}
use Rattle.grasp_types.specs.declared.reply.Reply.TheVariants as reply
use Rattle.grasp_types.specs.declared.traffic.Input.{Input}
use Rattle.grasp_types.specs.declared.traffic.Input.TheVariants as input
use Rattle.grasp_laws_floods.proofs.AgentCalls.{IsAgentCall, call_in_range, begins_nothing}
use Rattle.grasp_laws_floods.proofs.Decoded.{carried_made}
use Rattle.grasp_laws_floods.proofs.Heard.{OptionMade}
use Rattle.grasp_laws_floods.proofs.Nodes.{NodeMade}
use Rattle.grasp_laws_floods.proofs.Own.{IsOwn, OwnCall, own_made}
use Rattle.grasp_laws_floods.proofs.Queued.{OwnMade, InputMade}
use Rattle.grasp_laws_floods.proofs.Visited.{IsQuiet, IsSent}
use Rattle.grasp_laws_floods.proofs.Worlds.{SentMade}
use Rattle.grasp_laws_floods.proofs.Ranges.{IsInRange, HasAddresses, AreGood}

-- ---- the node of the step

pub node_address : (ms : List Member) (calls : List FloodCall) (node : ℕ) (n : NodeState) → HasAddresses ms → NodeMade ms calls node n → IsAddress n.plan.address
node_address ms calls node n addresses k =
    subst (λ p. IsAddress p.address) (sym k.plan) (numbered_all (λ (m : Member). IsAddress m.plan.address) ms node k.member addresses k.found)

below : (a b : ℕ) → a ≡ b → b ≤ 65535 → a < 2 ^ 64
below a b e h = omega arith

pub node_limit : (ms : List Member) (calls : List FloodCall) (node : ℕ) (n : NodeState) → (good : AreGood ms) → NodeMade ms calls node n → n.plan.limit < 2 ^ 64
node_limit ms calls node n good k =
    below n.plan.limit good.limit (ap (λ p. p.limit) k.plan ∙ (numbered_all (IsGoodMember good.limit) ms node k.member good.members k.found).limit_is) good.most_limit

-- ---- an input that brings nothing

pub quiet_made : (ms : List Member) (calls : List FloodCall) (n : NodeState) (i : Input) (x : Coming) (r : Reply) → IsQuiet i → InputMade ms calls n i x r
quiet_made ms calls n (input.Api asa it) x r q = absurd q
quiet_made ms calls n (input.Datagram link from bytes) x r q = absurd q
quiet_made ms calls n _ x r q = tt

-- ---- a datagram

pub datagram_made : (ms : List Member) (calls : List FloodCall) (w : WorldState) (node index : ℕ) (n : NodeState) (i : Input) (x : Coming) (r : Reply) → AreGood ms → NodeMade ms calls node n
    → All (SentMade ms calls) w.datagrams → IsSent w index i → IsComing n i x → InputMade ms calls n i x r
datagram_made ms calls w node index n i x r good k sent is comes =
    subst (λ j. InputMade ms calls n j x r) (sym is.is)
    (carried_made ms calls n.plan.limit is.sent.message x.carried (node_limit ms calls node n good k)
    (numbered_all (SentMade ms calls) w.datagrams index is.sent sent is.found) (subst (λ j. IsComing n j x) is.is comes))

-- ---- a call

own_flags : (core : NodeState) (now asa : ℕ) (name : List ℕ) → flags_or (owned_flags (begin core now) asa name) ≡ flags_or (owned_flags core asa name)
own_flags core now asa name = ap (λ r. flags_or (option_map (λ o. o.flags) (find (is_of asa name) r.objectives))) (begun core now).registrations

-- a flood that is done is the last call
own_noted : (ms : List Member) (calls : List FloodCall) (v : Visit) (asa : ℕ) (name : List ℕ) (value : DataItem) (ttl loops : ℕ) → NodeMade ms calls v.node (begin v.seat.core v.now)
    → (before : List FloodCall) → IsOwn ms (before ++ flooded_by v asa (call.Flood name value ttl loops)) (begin v.seat.core v.now) asa name value loops
own_noted ms calls v asa name value ttl loops k before = record {
  call = it;
  among = Contains-push before it;
  member = k.member;
  made_at = k.found;
  address = ap (λ p. p.address) k.plan;
  name_is = refl;
  value_is = refl;
  flags_are = own_flags v.seat.core v.now asa name;
  loops_are = refl;
} where
  it : FloodCall
  it = record { node = v.node; name = name; value = value; flags = flags_or (owned_flags v.seat.core asa name); loops = loops }

flood_noted : (ms : List Member) (calls before : List FloodCall) (v : Visit) (asa : ℕ) (name : List ℕ) (value : DataItem) (ttl loops : ℕ) (a : ApiAnswer)
    → NodeMade ms calls v.node (begin v.seat.core v.now)
    → OwnCall ms (before ++ floods_in v asa (call.Flood name value ttl loops) (reply.Api a)) (begin v.seat.core v.now) asa (call.Flood name value ttl loops) a
unfolding floods_in
flood_noted ms calls before v asa name value ttl loops answer.Done k = own_noted ms calls v asa name value ttl loops k before
flood_noted ms calls before v asa name value ttl loops a k = tt

call_noted : (ms : List Member) (calls before : List FloodCall) (v : Visit) (asa : ℕ) (it : Call) (a : ApiAnswer) → NodeMade ms calls v.node (begin v.seat.core v.now)
    → OwnCall ms (before ++ floods_in v asa it (reply.Api a)) (begin v.seat.core v.now) asa it a
call_noted ms calls before v asa (call.Flood name value ttl loops) a k = flood_noted ms calls before v asa name value ttl loops a k
call_noted ms calls before v asa it a k = tt

-- what a call of another agent begins
pub call_made : (ms : List Member) (calls before : List FloodCall) (v : Visit) (asa : ℕ) (it : Call) (x : Coming) (r : Reply) → HasAddresses ms → IsInRange it
    → NodeMade ms calls v.node (begin v.seat.core v.now) → InputMade ms (before ++ floods_in v asa it r) (begin v.seat.core v.now) (input.Api asa it) x r
call_made ms calls before v asa it x r addresses range k = (range, by_reply r) where
  by_reply : (r : Reply) → OwnMade ms (before ++ floods_in v asa it r) (begin v.seat.core v.now) asa it r
  by_reply (reply.Api a) =
      own_made ms (before ++ floods_in v asa it (reply.Api a)) (begin v.seat.core v.now) asa it a range (node_address ms calls v.node (begin v.seat.core v.now) addresses k) k.tables.flags
      (call_noted ms calls before v asa it a k)
  by_reply _ = tt

-- what a call of the node's own agent begins
pub agent_made : (ms : List Member) (calls : List FloodCall) (n : NodeState) (asa : ℕ) (it : Call) (x : Coming) (r : Reply) → IsAgentCall it → InputMade ms calls n (input.Api asa it) x r
agent_made ms calls n asa it x r k = (call_in_range it k, by_reply r) where
  by_reply : (r : Reply) → OwnMade ms calls n asa it r
  by_reply (reply.Api a) = subst (OptionMade ms calls) (sym (begins_nothing n asa it a k)) tt
  by_reply _ = tt
