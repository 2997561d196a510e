-- Where an address that becomes free comes from.
use Rattle.std.proofs.Common.{◌≡◌, ◌⊎◌, inl, inr, ℕ, ◌<◌, Bool, true, false, cond, Contains, slice_get, Option, Some, None, IfSome, refl, subst}
use Rattle.grasp_cbor.specs.DataItem.{DataItem}
use Rattle.grasp_types.specs.Prefix.{AddressBlock as Prefix, span_of}
use Rattle.grasp_types.specs.declared.objective.Objective.{Objective}
use Rattle.grasp_types.specs.declared.reply.Reply.{Reply}
use Rattle.grasp_types.specs.declared.reply.Reply.TheVariants as reply
use Rattle.grasp_types.specs.declared.reply.ApiAnswer.TheVariants as answer
use Rattle.grasp_types.specs.declared.session.By.TheVariants.{Theirs}
use Rattle.grasp_types.specs.declared.session.Handle.{Handle}
use Rattle.grasp_types.specs.declared.session.Outcome.{Outcome}
use Rattle.grasp_types.specs.declared.session.Outcome.TheVariants as outcome
use Rattle.grasp_pool.specs.Holdings.{Holding, IsFree, IsNew}
use Rattle.grasp_pool.specs.Pools.{IsPool, room_of}
use Rattle.grasp_pool.specs.Functions.{can_gain, after_back, after_gain, after_gaining}
use Rattle.grasp_pool.proofs.Gaining.{can_gain_tells}
use Rattle.grasp_pool.proofs.Meanings.{back_means, back_keeps, gain_means}
use Rattle.grasp_agent.specs.Decisions.{giver_decision, after_deciding}
use Rattle.grasp_agent.specs.Kept.{ActStands, IsKept}
use Rattle.grasp_agent.specs.Laws.{GainsAreAccepted}
use Rattle.grasp_agent.specs.Replies.{giving_back, settled, settling}
use Rattle.grasp_agent.specs.States.{AgentState}
use Rattle.grasp_agent.specs.declared.act.Act.TheVariants as act
use Rattle.grasp_agent.specs.declared.decision.GiverDecision.{GiverDecision}
use Rattle.grasp_agent.specs.declared.decision.GiverDecision.TheVariants as giver
use Rattle.grasp_agent.specs.declared.giving.Giving.{Giving}
use Rattle.grasp_agent.proofs.KeepDecisions.{GivenBy, give_given}
use Rattle.grasp_agent.proofs.Keeping.{act_stands, offer_reserved}
use Rattle.grasp_agent.proofs.Returning.{return_reserved}
use Rattle.grasp_laws_agent.proofs.LawEffects.{IsGiver, PoolEffect, unchanged, dropped, gained, unsent, heard, turned, ended, pool_effect}

-- a decision frees nothing
given_free : (h : Holding) (d : GiverDecision) → GivenBy h d → (a : ℕ) → IsFree (after_deciding h d) a → IsFree h a
given_free h (giver.Offer p) given a free = ((given.reserves.free a).0 free).0
given_free h _ given a free = free

-- a decision of a giver frees nothing
give_free : (h : Holding) (v : Option DataItem) (loops : ℕ) (first : Bool) → IsPool h → (a : ℕ) → IsFree (after_deciding h (giver_decision h v loops first)) a → IsFree h a
give_free h v loops first pool a free = given_free h (giver_decision h v loops first) (give_given h v loops first pool) a free

-- an end frees at most its offer
settled_free : (h : Holding) (q : Prefix) → IsPool h → Contains h.reserved q → (e : Outcome) (a : ℕ) → IsFree (settled h q e) a → IsFree h a ⊎ span_of q a
settled_free h q pool has (outcome.Agreed Theirs o) a free = inl free
settled_free h q pool has (outcome.Declined Theirs reason) a free = ((back_means h q pool has).free a).0 free
settled_free h q pool has _ a free = inl free

module _ (s : AgentState) (r : Reply) (a : ℕ) (kept : IsKept s) where
  -- where the address comes from
  Comes : Type 0
  Comes = IsFree s.pool a ⊎ (((p : Prefix) × Contains s.pool.reserved p × span_of p a)
      ⊎ ((h : Handle) × (p : Prefix) × (s.act ≡ Some (act.Accept h p)) × (r ≡ reply.Api answer.Done) × span_of p a))

  -- the offer of a giving session is reserved
  offer_has : (place : ℕ) (g : Giving) (q : Prefix) → slice_get s.giving place ≡ Some g → g.offer ≡ Some q → Contains s.pool.reserved q
  offer_has place g q at e = subst (λ o. IfSome o (λ p. Contains s.pool.reserved p)) e (offer_reserved s place g at kept)

  -- an address that is free, or lies in a reserved prefix, comes from there
  of_offer : (q : Prefix) → Contains s.pool.reserved q → IsFree s.pool a ⊎ span_of q a → Comes
  unfolding Comes
  of_offer q has (inl free) = inl free
  of_offer q has (inr in_q) = inr (inl (q, has, in_q))

  dropping : (place : ℕ) (handle : Handle) (q : Prefix) → s.act ≡ Some (act.Offer place handle q) → IsFree (after_back s.pool q) a → Comes
  dropping place handle q is free =
      let stands : ActStands s (act.Offer place handle q) = act_stands s (act.Offer place handle q) is kept
      in let has : Contains s.pool.reserved q = offer_has place (record { handle = handle; offer = Some q; first = false }) q stands refl
      in of_offer q has (((back_means s.pool q kept.pool has).free a).0 free)

  gaining_free : (handle : Handle) (q : Prefix) → s.act ≡ Some (act.Accept handle q) → r ≡ reply.Api answer.Done → IsFree (after_gaining s.pool q) a → Comes
  unfolding Comes
  gaining_free handle q is done free = by (can_gain s.pool q) stands.2 free
    where
      stands : ActStands s (act.Accept handle q)
      stands = act_stands s (act.Accept handle q) is kept

      new : IsNew s.pool q × (0 < room_of s.pool)
      new = (can_gain_tells s.pool q).0 stands.2

      by : (b : Bool) → b ≡ true → IsFree (cond b (after_gain s.pool q) s.pool) a → Comes
      by true e free' = elim (((gain_means s.pool q kept.pool stands.1 new.0).free a).0 free') [
        | inl old ↦ inl old
        | inr in_q ↦ inr (inr (handle, q, is, done, in_q))
      ]
      by false e free' = inl free'

  turning : (place : ℕ) (g : Giving) (o : Objective) → IsGiver s place g → (offer : Option Prefix) → g.offer ≡ offer
      → IsFree (after_deciding (giving_back s.pool offer) (giver_decision (giving_back s.pool offer) o.value o.loops g.first)) a → Comes
  unfolding Comes
  turning place g o is None offer free = inl (give_free s.pool o.value o.loops g.first kept.pool a free)
  turning place g o is (Some q) offer free =
      let has : Contains s.pool.reserved q = offer_has place g q is.entry offer
      in of_offer q has (((back_means s.pool q kept.pool has).free a).0 (give_free (after_back s.pool q) o.value o.loops g.first (back_keeps s.pool q kept.pool has) a free))

  ending : (place : ℕ) (g : Giving) (o : Outcome) → IsGiver s place g → (offer : Option Prefix) → g.offer ≡ offer → IsFree (settling s.pool offer o) a → Comes
  unfolding Comes
  ending place g o is None offer free = inl free
  ending place g o is (Some q) offer free =
      let has : Contains s.pool.reserved q = offer_has place g q is.entry offer in of_offer q has (settled_free s.pool q kept.pool has o a free)

  comes : (h : Holding) → PoolEffect s r h → IsFree h a → Comes
  unfolding Comes
  comes h (unchanged e) free = inl (subst (λ x. IsFree x a) e free)
  comes h (dropped place handle q is refused last e) free = dropping place handle q is (subst (λ x. IsFree x a) e free)
  comes h (gained handle q is done e) free = gaining_free handle q is done (subst (λ x. IsFree x a) e free)
  comes h (unsent b is none refused last e) free =
      let has : Contains s.pool.reserved b.prefix = return_reserved s b is kept
      in of_offer b.prefix has (((back_means s.pool b.prefix kept.pool has).free a).0 (subst (λ x. IsFree x a) e free))
  comes h (heard handle b o is told e) free =
      let has : Contains s.pool.reserved b.prefix = return_reserved s b is.back kept
      in of_offer b.prefix has (settled_free s.pool b.prefix kept.pool has o a (subst (λ x. IsFree x a) e free))
  comes h (turned place g o is told e) free = turning place g o is g.offer refl (subst (λ x. IsFree x a) e free)
  comes h (ended place g o is told e) free = ending place g o is g.offer refl (subst (λ x. IsFree x a) e free)

-- an address that becomes free was an offer's, or is accepted
pub gains_accepted : GainsAreAccepted
unfolding Comes
gains_accepted s r a kept free = comes s r a kept _ (pool_effect s r) free
