-- What the network of a script is made of.
use Rattle.std.proofs.Common.{◌≡◌, ◌↔◌, refl, sym, ap, ◌∙◌, subst, arith, ℕ, ◌+◌, ◌-◌, ◌*◌, ◌^◌, ◌≤◌, ◌==◌, Bool, List, length, map, filter, slice_get, Some}
use Rattle.std.proofs.lemmas.Bool.{eq-eqb, eqb-true}
use Rattle.std.proofs.lemmas.List.{length-map}
use Rattle.std.proofs.lemmas.Option.{get_or_from_slice_get, same_Some, slice_get-get_or, slice_get_within}
use Rattle.std.specs.List.{Contains}
use Rattle.grasp_laws_delivery.proofs.Came.Inputs.{IsOpening, opening_is}
use Rattle.grasp_laws_delivery.proofs.FromReady.{every_at}
use Rattle.grasp_laws_delivery.specs.Ready.{HasGoodEnds, HasGoodNumber, StreamsAreReady}
use Rattle.grasp_laws_network.proofs.EachNode.{IsMade, is_made, nodes_are_sound}
use Rattle.grasp_laws_network.proofs.GoodPlans.{at_number, count_numbers, member_count, member_node, not_zero, numbered_member, one_more}
use Rattle.grasp_laws_network.proofs.Here.{numbered_within}
use Rattle.grasp_laws_network.proofs.Lists.{filter_has, filtered, numbered_there, slice_map}
use Rattle.grasp_laws_network.proofs.LivesKept.{life_member, lives_are_kept}
use Rattle.grasp_model_network.specs.Events.{visit_of}
use Rattle.grasp_model_network.specs.Plans.{IsGoodPlan, IsNode}
use Rattle.grasp_model_network.specs.Runs.{IsReached}
use Rattle.grasp_model_network.specs.Setting.{Member, Setting, numbered, numbers_from, script_locator, script_member, script_roots, script_setting}
use Rattle.grasp_model_network.specs.Streams.{StreamState}
use Rattle.grasp_model_network.specs.Visits.{Visit}
use Rattle.grasp_model_network.specs.World.{Seat, WorldState, member_of, seat_at}
use Rattle.grasp_model_network.specs.declared.event.Event.TheVariants as event
use Rattle.grasp_model_network.specs.declared.plan.RootAt.{RootAt}
use Rattle.grasp_model_network.specs.declared.plan.WorldPlan.{WorldPlan}
use Rattle.grasp_pool.specs.declared.roots.RootPrefix.{RootPrefix}
use Rattle.grasp_types.specs.declared.address.Address.{Address}
use Rattle.grasp_types.specs.declared.address.Address.TheVariants as address
use Rattle.grasp_types.specs.declared.address.Locator.TheVariants as locator
use Rattle.grasp_types.specs.declared.address.Proto.TheVariants.{Tcp}
use Rattle.grasp_types.specs.declared.traffic.Input.TheVariants as input
use Rattle.grasp_laws_events.proofs.Numbered.{has_number}
use Rattle.grasp_laws_events.specs.Scripts.{IsScriptNode, ArrivesSo, ScriptsHaveSettings}
use Rattle.grasp_laws_events.specs.Steps.{IsTalkNumbered}

-- ---- members

script_at : (p : WorldPlan) (k : ℕ) (m : Member) → numbered (script_setting p).members k ≡ Some m → IsNode p.nodes k × (script_member p k ≡ m)
unfolding script_setting
script_at p k m found = let node = member_node p k m found in (node, same_Some (script_member p k) m (sym (numbered_member p k node) ∙ found))

pub has_slice : {A : Type 0} (xs : List A) (x : A) (h : Contains xs x) → slice_get xs h.0 ≡ Some x
has_slice xs x h = slice_get-get_or xs h.0 x h.1 ∙ ap (λ y. Some y) h.2

pub slice_has : {A : Type 0} (xs : List A) (i : ℕ) (x : A) → slice_get xs i ≡ Some x → Contains xs x
slice_has xs i x e = (i, slice_get_within xs i x e, get_or_from_slice_get xs i x x e)

abbrev is_root_of : ℕ → RootAt → Bool
is_root_of k r = r.node == k

abbrev root_in : RootAt → RootPrefix
root_in r = r.root

-- a root is a node's exactly where the plan has it at the node
roots_are : (roots : List RootAt) (k : ℕ) (r : RootPrefix) → Contains (script_roots roots k) r ↔ Contains roots (record { node = k; root = r })
roots_are roots k r = (there, back) where
  own : List RootAt
  own = filter (is_root_of k) roots

  there : Contains (script_roots roots k) r → Contains roots (record { node = k; root = r })
  there h = by (is_made root_in own h.0 r (has_slice (script_roots roots k) r h)) where
    by : IsMade root_in own h.0 r → Contains roots (record { node = k; root = r })
    by m =
        let f = filtered (is_root_of k) roots m.of (slice_has own h.0 m.of m.stands) in
        subst (λ (n : ℕ). Contains roots (record { node = n; root = r })) (eqb-true m.of.node k f.1)
        (subst (λ (q : RootPrefix). Contains roots (record { node = m.of.node; root = q })) m.made f.0)

  back : Contains roots (record { node = k; root = r }) → Contains (script_roots roots k) r
  back h =
      let f = filter_has (is_root_of k) roots (record { node = k; root = r }) h (eq-eqb k k refl) in
      slice_has (script_roots roots k) f.0 r (slice_map root_in own f.0 (record { node = k; root = r }) (has_slice own (record { node = k; root = r }) f))

same_number : 253 * 2 ^ 120 ≡ 64768 * 2 ^ 112
same_number = refl

script_node_is : (p : WorldPlan) (k : ℕ) → IsScriptNode p k (script_member p k)
script_node_is p k = record {
  address = ap (λ (n : ℕ). address.V6 (n + k)) same_number;
  listens = ap (λ (n : ℕ). locator.V6 (n + k) Tcp 7017) same_number;
  limit = refl;
  roots = roots_are p.roots k;
}

members_are : (p : WorldPlan) (k : ℕ) (m : Member) → numbered (script_setting p).members k ≡ Some m → IsScriptNode p k m
members_are p k m found = subst (IsScriptNode p k) (script_at p k m found).1 (script_node_is p k)

-- ---- peers

peers_are : (p : WorldPlan) (k : ℕ) (m : Member) → numbered (script_setting p).members k ≡ Some m → numbered (script_setting p).peers k ≡ Some m.plan.locator
unfolding script_setting
peers_are p k m found = by (script_at p k m found) where
  by : IsNode p.nodes k × (script_member p k ≡ m) → numbered (map script_locator (numbers_from 1 p.nodes)) k ≡ Some m.plan.locator
  by (node, same) =
      rw (not_zero k node.least)
      (at_number script_locator 1 p.nodes (k - 1) (let a : 1 ≤ k = node.least in let b : k ≤ p.nodes = node.most in omega arith)
      ∙ (ap (λ n. Some (script_locator n)) (one_more k node.least) ∙ ap (λ (x : Member). Some x.plan.locator) same))

peer_count : (p : WorldPlan) → length (script_setting p).peers ≡ p.nodes
unfolding script_setting
peer_count p = length-map (numbers_from 1 p.nodes) script_locator ∙ count_numbers 1 p.nodes

count : (p : WorldPlan) → length (script_setting p).members ≡ p.nodes
unfolding script_setting
count p = member_count p

lines_are : (p : WorldPlan) → (script_setting p).lines ≡ p.links
unfolding script_setting
lines_are p = refl

-- ---- arrivals

number_is : (k : ℕ) → 1 ≤ k → (2 * k - 1) + 1 ≡ 2 * k
number_is k least = omega arith

-- a life of a node has the address of its member
address_is : (p : WorldPlan) (w : WorldState) (life : ℕ) (seat : Seat) → IsReached (script_setting p) w → seat_at w life ≡ Some seat
    → seat.core.plan.address ≡ address.V6 (64768 * 2 ^ 112 + member_of w life)
address_is p w life seat r here = by (numbered_there s.members (member_of w life) member) where
  s : Setting
  s = script_setting p

  member : IsNode (length s.members) (member_of w life)
  member =
      let lives = lives_are_kept s w r in
      lives.members life (member_of w life) (life_member s w life lives (numbered_within w.seats life seat here))

  by : (m : Member) × (numbered s.members (member_of w life) ≡ Some m) → seat.core.plan.address ≡ address.V6 (64768 * 2 ^ 112 + member_of w life)
  by (m, found) = ap (λ q. q.address) (nodes_are_sound.plans s w r life seat m here found) ∙ (members_are p (member_of w life) m found).address

arrives_as : (p : WorldPlan) (node n : ℕ) → (script_setting p).arrives_as node n ≡ 2 * n - 1
unfolding script_setting
arrives_as p node n = refl

arrives_from : (p : WorldPlan) (n : ℕ) (a : Address) → (script_setting p).arrives_from n a ≡ a
unfolding script_setting
arrives_from p n a = refl

arrives_so : StreamsAreReady → (p : WorldPlan) (w : WorldState) (k : ℕ) (hold : Bool) (v : Visit) → IsGoodPlan p → IsReached (script_setting p) w
    → visit_of (script_setting p) w (event.Arrive k hold) ≡ Some v → ArrivesSo p w k v
arrives_so ready p w k hold v good r is = by (opening_is s w k v is) where
  s : Setting
  s = script_setting p

  by : IsOpening s w k v → ArrivesSo p w k v
  by o = record {
    talk = o.talk;
    found = found;
    number = 2 * k - 1;
    opener = member_of w o.talk.near.node;
    opened = o.is.input_is ∙ (ap (λ n. input.Opened n (s.arrives_from k o.near.core.plan.address)) (arrives_as p v.node k)
        ∙ ap (λ a. input.Opened (2 * k - 1) a) (arrives_from p k o.near.core.plan.address ∙ address_is p w o.talk.near.node o.near r o.dialled));
    is_number = number_is k least;
    is_opener = refl;
  } where
    found : IsTalkNumbered w k o.talk
    found = has_number w k o.talk o.found

    numbered_so : HasGoodNumber w.dials (Some k)
    numbered_so = subst (HasGoodNumber w.dials) found.number (every_at (λ (x : StreamState). HasGoodEnds s (length w.seats) w.dials x.near x.number x.far) w.streams (ready.ends s w r) found.place o.talk found.stands).dialled

    least : 1 ≤ k
    least = numbered_so.0

pub scripts_have_settings : StreamsAreReady → ScriptsHaveSettings
scripts_have_settings ready = record {
  count = count;
  members = members_are;
  lines = lines_are;
  peer_count = peer_count;
  peers = peers_are;
  arrivals = λ p w k hold v good r is. arrives_so ready p w k hold v good r is;
}
