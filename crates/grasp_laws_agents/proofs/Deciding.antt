-- What the agent's decisions make of its act, its entry and its pool.
use Rattle.std.proofs.Common.{◌≡◌, refl, ap, ◌∙◌, ℕ, ◌&&◌, nat_le, nat_lt, Bool, true, false, Option, None, Some}
use Rattle.grasp_agent.proofs.KeepDecisions.{GivenBy, give_given}
use Rattle.grasp_agent.specs.Decisions.{after_deciding, candidates, first_given, giver_decision, requester_decision}
use Rattle.grasp_agent.specs.Replies.{deciding, give_act, offering, want_act}
use Rattle.grasp_agent.specs.Values.{asked_in, offered_in, returned_in}
use Rattle.grasp_agent.specs.declared.act.Act.{Act}
use Rattle.grasp_agent.specs.declared.act.Act.TheVariants as act
use Rattle.grasp_agent.specs.declared.decision.Reason.{Reason}
use Rattle.grasp_agent.specs.declared.decision.GiverDecision.{GiverDecision}
use Rattle.grasp_agent.specs.declared.giving.Giving.{Giving}
use Rattle.grasp_cbor.specs.DataItem.{DataItem}
use Rattle.grasp_pool.specs.Functions.{can_gain}
use Rattle.grasp_pool.specs.Holdings.{Holding, Reserves}
use Rattle.grasp_pool.specs.Pools.{IsPool}
use Rattle.grasp_session.specs.Messages.{Side, Near}
use Rattle.grasp_session.specs.Transcript.{Transcript, peer_offer}
use Rattle.grasp_types.specs.Prefix.{AddressBlock as Prefix}
use Rattle.grasp_types.specs.declared.session.Handle.{Handle}
use Rattle.grasp_laws_agents.specs.Giving.{AcceptStands, IsDeciding, is_offering}

-- ---- as one that requests

-- an act in the session of a want, on this value: it offers nothing, and accepts only what the value offers, and nothing in another session
pub record Asks (h : Handle) (value : Option DataItem) (a : Act) : Type 0 where
  pub offers : (place : ℕ) → is_offering (Some a) place ≡ false
  pub accepts : (v : Transcript) → IsDeciding v → (peer_offer v).value ≡ value → AcceptStands (Some a) h Near v
  pub away : (l : Handle) (side : Side) (v : Transcript) → ¬ (h ≡ l) → AcceptStands (Some a) l side v

asks_nothing : (h : Handle) (value : Option DataItem) (reason : Reason) → Asks h value (act.Decline h reason)
asks_nothing h value reason = record { offers = λ place. refl; accepts = λ v d s. tt; away = λ l side v apart. tt }

asks_again : (h : Handle) (value : Option DataItem) (n : ℕ) → Asks h value (act.Counter h n)
asks_again h value n = record { offers = λ place. refl; accepts = λ v d s. tt; away = λ l side v apart. tt }

asks_accepting : (h : Handle) (value : Option DataItem) (p : Prefix) → offered_in value ≡ Some p → Asks h value (act.Accept h p)
asks_accepting h value p e = record { offers = λ place. refl; accepts = λ v d s same. (d, ap offered_in s ∙ e); away = λ l side v apart same. absurd (apart same) }

pub asks : (pool : Holding) (wanted longest : ℕ) (value : Option DataItem) (loops : ℕ) (h : Handle) → Asks h value (want_act h (requester_decision pool wanted longest value loops))
unfolding requester_decision
asks pool wanted longest value loops h = by_prefix (offered_in value) refl where
  by_tests : (p : Prefix) → offered_in value ≡ Some p → (b c d : Bool) → nat_lt longest p.length ≡ b → (nat_lt p.length wanted && nat_le 2 loops) ≡ c → can_gain pool p ≡ d
      → Asks h value (want_act h (requester_decision pool wanted longest value loops))
  by_tests p e true c d f i j = rw (e, f) (asks_nothing h value _)
  by_tests p e false true d f i j = rw (e, f, i) (asks_again h value wanted)
  by_tests p e false false true f i j = rw (e, f, i, j) (asks_accepting h value p e)
  by_tests p e false false false f i j = rw (e, f, i, j) (asks_nothing h value _)

  by_prefix : (o : Option Prefix) → offered_in value ≡ o → Asks h value (want_act h (requester_decision pool wanted longest value loops))
  by_prefix None e = rw e (asks_nothing h value _)
  by_prefix (Some p) e = by_tests p e (nat_lt longest p.length) (nat_lt p.length wanted && nat_le 2 loops) (can_gain pool p) refl refl refl

-- ---- as a giver

-- an act in the session of this entry on this value, the entry then, and the pool: a prefix is offered and reserved where the value gives none
-- back, or the one that the value gives back is accepted, or nothing is
pub data TurnsTo (place : ℕ) (g : Giving) (value : Option DataItem) (old : Holding) (a : Act) (f : Giving) (new : Holding) : Type 0 where
  offers : (p : Prefix) → a ≡ act.Offer place g.handle p → f ≡ record { handle = g.handle; offer = Some p; first = false } → Reserves old new p → returned_in value ≡ None → TurnsTo place g value old a f new
  accepts : (p : Prefix) → a ≡ act.Accept g.handle p → f ≡ offering g None → new ≡ old → returned_in value ≡ Some p → TurnsTo place g value old a f new
  declines : (reason : Reason) → a ≡ act.Decline g.handle reason → f ≡ offering g None → new ≡ old → TurnsTo place g value old a f new

module _ (place : ℕ) (g : Giving) (pool : Holding) (value : Option DataItem) (loops : ℕ) (first : Bool) where
  abbrev Turns : GiverDecision → Type 0
  Turns d = TurnsTo place g value pool (give_act place g.handle d) (deciding g d) (after_deciding pool d)

  by_given : returned_in value ≡ None → (n : ℕ) → asked_in value ≡ Some n → (b : Bool) → nat_le loops 1 ≡ b → (o : Option Prefix) → first_given pool (candidates n loops first) ≡ o
      → GivenBy pool (giver_decision pool value loops first) → Turns (giver_decision pool value loops first)
  unfolding giver_decision
  by_given r n e true f o i = rw (r, e, f) (λ s. declines _ refl refl refl)
  by_given r n e false f None i = rw (r, e, f, i) (λ s. declines _ refl refl refl)
  by_given r n e false f (Some p) i = rw (r, e, f, i) (λ s. offers p refl refl s.reserves r)

  by_asked : returned_in value ≡ None → (o : Option ℕ) → asked_in value ≡ o → GivenBy pool (giver_decision pool value loops first) → Turns (giver_decision pool value loops first)
  unfolding giver_decision
  by_asked r None e = rw (r, e) (λ s. declines _ refl refl refl)
  by_asked r (Some n) e = by_given r n e (nat_le loops 1) refl (first_given pool (candidates n loops first)) refl

  by_gain : (p : Prefix) → returned_in value ≡ Some p → (b : Bool) → can_gain pool p ≡ b → Turns (giver_decision pool value loops first)
  unfolding giver_decision
  by_gain p r true e = rw (r, e) (accepts p refl refl refl r)
  by_gain p r false e = rw (r, e) (declines _ refl refl refl)

  pub decided : IsPool pool → Turns (giver_decision pool value loops first)
  decided is = by_return (returned_in value) refl where
    by_return : (o : Option Prefix) → returned_in value ≡ o → Turns (giver_decision pool value loops first)
    by_return None r = by_asked r (asked_in value) refl (give_given pool value loops first is)
    by_return (Some p) r = by_gain p r (can_gain pool p) refl
