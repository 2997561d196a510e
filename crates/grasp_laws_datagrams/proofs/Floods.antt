-- What a flood does that comes from a neighbour.
use Rattle.std.proofs.Common.{◌≡◌, ◌≢◌, ◌≤◌, nat_le, ℕ, Bool, true, false, cond, List, [], ◌∷◌, refl, arith}
use Rattle.std.specs.Bool.{Decides}
use Rattle.std.proofs.lemmas.Bool.Decides.{not_from_Decides}
use Rattle.grasp_flood.specs.Floods as flood
use Rattle.grasp_flood.specs.declared.heard.Heard as told
use Rattle.grasp_flood.specs.declared.heard.Heard.TheVariants as flooded
use Rattle.grasp_laws_hearing.proofs.Answering.{no_more}
use Rattle.grasp_laws_tables.proofs.FloodLaws.{floods_known}
use Rattle.grasp_laws_tables.specs.Floods.{IsHeardAs}
use Rattle.grasp_model_node.specs.Datagrams.{flood_relayed, flood_heard, after_flood}
use Rattle.grasp_model_node.specs.Moves.{with_floods, relay}
use Rattle.grasp_model_node.specs.Node.{NodeState}
use Rattle.grasp_model_node.specs.Queue.{other_ways}
use Rattle.grasp_types.specs.Origin.{origin_of}
use Rattle.grasp_types.specs.Same.{same_address}
use Rattle.grasp_types.specs.declared.address.Address.{Address}
use Rattle.grasp_types.specs.declared.flood.FloodPart.{FloodPart}
use Rattle.grasp_types.specs.declared.message.Message.TheVariants.{Flood}
use Rattle.grasp_laws_datagrams.proofs.Discoveries.{own_address, not_both}
use Rattle.grasp_laws_datagrams.proofs.Relaying.{relayed}
use Rattle.grasp_laws_datagrams.specs.Floods.{having_told, first_less, SendsItOn, FloodDoes}

sends_it_on : (n : NodeState) (link session : ℕ) (initiator : Address) (ttl : ℕ) (parts : List FloodPart)
    → SendsItOn n link session initiator ttl parts (flood_relayed n link session initiator ttl parts)
sends_it_on n link session initiator ttl [] = refl
sends_it_on n link session initiator ttl (part ∷ parts) = by (nat_le 2 part.objective.loops) (no_more 2 part.objective.loops) where
  by : (b : Bool) → Decides b (2 ≤ part.objective.loops)
      → SendsItOn n link session initiator ttl (part ∷ parts) (cond b (relay n (Flood session initiator ttl (first_less part ∷ parts)) (other_ways link n.plan.links)) n)
  by true d = (λ h. relayed n link (Flood session initiator ttl (first_less part ∷ parts)), λ few. let enough = d.0 refl in absurd (omega (arith, few, enough)))
  by false d = (λ h. absurd (not_from_Decides false d refl h), λ few. refl)

module _ (n : NodeState) (link session : ℕ) (initiator : Address) (ttl : ℕ) (parts : List FloodPart) where
  abbrev Does : NodeState → Type 0
  Does after = FloodDoes n link session initiator ttl parts after

  heard : initiator ≢ n.plan.address → (r : told.Heard) → IsHeardAs n.floods (origin_of session initiator) r → Does (flood_heard n link session initiator ttl parts r)
  unfolding with_floods
  heard other flooded.Known h = record {
    own = λ e. absurd (other e);
    known = λ o k. refl;
    no_place = λ unknown many. absurd (not_both (λ memory. memory.0 ≡ origin_of session initiator) n.floods.memories h unknown);
    new = λ o unknown room. absurd (not_both (λ memory. memory.0 ≡ origin_of session initiator) n.floods.memories h unknown);
  }
  heard other flooded.NoPlace h =
      let many = h.1 in
      record {
        own = λ e. refl;
        known = λ o k. absurd (not_both (λ memory. memory.0 ≡ origin_of session initiator) n.floods.memories k h.0);
        no_place = λ unknown most. refl;
        new = λ o unknown room. absurd (omega (arith, many, room));
      }
  heard other flooded.New h =
      let few = h.1 in
      record {
        own = λ e. absurd (other e);
        known = λ o k. absurd (not_both (λ memory. memory.0 ≡ origin_of session initiator) n.floods.memories k h.0);
        no_place = λ unknown many. absurd (omega (arith, few, many));
        new = λ o unknown room. sends_it_on (having_told n session initiator ttl parts) link session initiator ttl parts;
      }

  pub flood_does : Does (after_flood n link session initiator ttl parts)
  flood_does = by (same_address n.plan.address initiator) (own_address n initiator) where
    by : (b : Bool) → Decides b (initiator ≡ n.plan.address) → Does (cond b n (flood_heard n link session initiator ttl parts (flood.heard_reply n.floods (origin_of session initiator))))
    by true d = record { own = λ e. refl; known = λ o k. absurd (o (d.0 refl)); no_place = λ unknown many. refl; new = λ o unknown room. absurd (o (d.0 refl)) }
    by false d = heard (not_from_Decides false d refl) (flood.heard_reply n.floods (origin_of session initiator)) (floods_known n.floods (origin_of session initiator))
