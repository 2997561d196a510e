-- What is reserved or doubtful stays so until a session tells.
use Rattle.std.proofs.Common.{◌≡◌, ◌⊎◌, inl, inr, ℕ, Bool, true, false, cond, Contains, slice_get, Option, Some, None, IfSome, IsSome, refl, sym, ap, subst, ◌∙◌}
use Rattle.grasp_types.specs.Prefix.{AddressBlock as Prefix}
use Rattle.grasp_types.specs.declared.objective.Objective.{Objective}
use Rattle.grasp_types.specs.declared.reply.Reply.{Reply}
use Rattle.grasp_types.specs.declared.session.By.TheVariants.{Mine, Theirs}
use Rattle.grasp_types.specs.declared.session.Handle.{Handle}
use Rattle.grasp_types.specs.declared.session.Outcome.{Outcome}
use Rattle.grasp_types.specs.declared.session.Outcome.TheVariants as outcome
use Rattle.grasp_types.specs.declared.session.Progress.TheVariants as progress
use Rattle.grasp_pool.specs.Holdings.{Holding, IsListed}
use Rattle.grasp_pool.specs.Functions.{can_gain, after_back, after_gain, without, after_gaining}
use Rattle.grasp_pool.proofs.Equal.{add_members, without_members}
use Rattle.grasp_pool.proofs.Maximal.{cases_prefix}
use Rattle.grasp_agent.specs.Decisions.{giver_decision, after_deciding}
use Rattle.grasp_agent.specs.Kept.{ActStands, IsKept}
use Rattle.grasp_agent.specs.Laws.{MayEnd, of_entry, of_return, IsTold, by_act, by_return, IsUnsent, OffersStayListed, DoubtsStay}
use Rattle.grasp_agent.specs.Replies.{is_again, refused_in, answer_in, progress_in, giving_back, settled, settling}
use Rattle.grasp_agent.specs.States.{AgentState}
use Rattle.grasp_agent.specs.declared.act.Act.TheVariants as act
use Rattle.grasp_agent.specs.declared.decision.GiverDecision.{GiverDecision}
use Rattle.grasp_agent.specs.declared.decision.GiverDecision.TheVariants as giver
use Rattle.grasp_agent.specs.declared.back.Return.{Return}
use Rattle.grasp_agent.specs.declared.giving.Giving.{Giving}
use Rattle.grasp_agent.proofs.Keeping.{act_stands, offer_reserved}
use Rattle.grasp_agent.proofs.Returning.{return_reserved}
use Rattle.grasp_laws_agent.proofs.LawEffects.{IsGiver, IsReturner, PoolEffect, unchanged, dropped, gained, unsent, heard, turned, ended, pool_effect}

-- ---- doubtful prefixes

gaining_doubtful : (h : Holding) (q : Prefix) → (after_gaining h q).doubtful ≡ h.doubtful
gaining_doubtful h q = by (can_gain h q)
  where
    by : (b : Bool) → (cond b (after_gain h q) h).doubtful ≡ h.doubtful
    by true = refl
    by false = refl

given_doubtful : (h : Holding) (d : GiverDecision) → (after_deciding h d).doubtful ≡ h.doubtful
given_doubtful h (giver.Offer p) = refl
given_doubtful h _ = refl

back_doubtful : (h : Holding) (o : Option Prefix) → (giving_back h o).doubtful ≡ h.doubtful
back_doubtful h None = refl
back_doubtful h (Some q) = refl

settled_doubtful : (h : Holding) (q : Prefix) (e : Outcome) (p : Prefix) → Contains h.doubtful p → Contains (settled h q e).doubtful p
settled_doubtful h q (outcome.Agreed Theirs o) p has = has
settled_doubtful h q (outcome.Declined Theirs reason) p has = has
settled_doubtful h q _ p has = (add_members q h.doubtful p).1 (inl has)

settling_doubtful : (h : Holding) (o : Option Prefix) (e : Outcome) (p : Prefix) → Contains h.doubtful p → Contains (settling h o e).doubtful p
settling_doubtful h None e p has = has
settling_doubtful h (Some q) e p has = settled_doubtful h q e p has

doubts_after : (s : AgentState) (r : Reply) (p : Prefix) (h : Holding) → PoolEffect s r h → Contains s.pool.doubtful p → Contains h.doubtful p
doubts_after s r p h (unchanged e) has = subst (λ x. Contains x.doubtful p) (sym e) has
doubts_after s r p h (dropped place handle q is refused last e) has = subst (λ x. Contains x.doubtful p) (sym e) has
doubts_after s r p h (gained handle q is done e) has = subst (λ x. Contains x p) (sym (ap (λ x. x.doubtful) e ∙ gaining_doubtful s.pool q)) has
doubts_after s r p h (turned place g o is told e) has =
    subst (λ x. Contains x p) (sym (ap (λ x. x.doubtful) e ∙ given_doubtful (giving_back s.pool g.offer) (giver_decision (giving_back s.pool g.offer) o.value o.loops g.first) ∙ back_doubtful s.pool g.offer)) has
doubts_after s r p h (unsent b is none refused last e) has = subst (λ x. Contains x.doubtful p) (sym e) has
doubts_after s r p h (heard handle b o is told e) has = subst (λ x. Contains x.doubtful p) (sym e) (settled_doubtful s.pool b.prefix o p has)
doubts_after s r p h (ended place g o is told e) has = subst (λ x. Contains x.doubtful p) (sym e) (settling_doubtful s.pool g.offer o p has)

-- a doubtful prefix stays in doubt
pub doubts_stay : DoubtsStay
doubts_stay s r p kept has = doubts_after s r p _ (pool_effect s r) has

-- ---- reserved prefixes

gaining_reserved : (h : Holding) (q : Prefix) → (after_gaining h q).reserved ≡ h.reserved
gaining_reserved h q = by (can_gain h q)
  where
    by : (b : Bool) → (cond b (after_gain h q) h).reserved ≡ h.reserved
    by true = refl
    by false = refl

given_reserved : (h : Holding) (d : GiverDecision) (p : Prefix) → Contains h.reserved p → Contains (after_deciding h d).reserved p
given_reserved h (giver.Offer q) p has = (add_members q h.reserved p).1 (inl has)
given_reserved h _ p has = has

-- where it ends by the peer's word p may be anything, and by all else p is in doubt
settled_listed : (h : Holding) (q : Prefix) (e : Outcome) → IsListed (settled h q e) q ⊎ MayEnd (Some (progress.Ended e))
settled_listed h q (outcome.Agreed Theirs o) = inr tt
settled_listed h q (outcome.Declined Theirs reason) = inr tt
settled_listed h q _ = inl (inr ((add_members q h.doubtful q).1 (inr refl)))

settled_reserved : (h : Holding) (q : Prefix) (e : Outcome) → (settled h q e).reserved ≡ without q.address h.reserved
settled_reserved h q (outcome.Agreed Theirs o) = refl
settled_reserved h q (outcome.Agreed Mine o) = refl
settled_reserved h q (outcome.Declined Theirs reason) = refl
settled_reserved h q (outcome.Declined Mine reason) = refl
settled_reserved h q (outcome.Synchronized o) = refl
settled_reserved h q (outcome.TimedOut deadline now) = refl
settled_reserved h q outcome.Broken = refl
settled_reserved h q outcome.OutOfMemory = refl
settled_reserved h q (outcome.Invalid by) = refl

module _ (s : AgentState) (r : Reply) (p : Prefix) (kept : IsKept s) (has : Contains s.pool.reserved p) where
  -- another prefix leaves p
  others : (q : Prefix) → Contains s.pool.reserved q → ¬ (p ≡ q) → Contains (without q.address s.pool.reserved) p
  others q hasq other = (without_members q s.pool.reserved kept.pool.reserved hasq p).1 (has, other)

  -- the offer of a giving session is reserved
  offer_has : (place : ℕ) (g : Giving) (q : Prefix) → slice_get s.giving place ≡ Some g → g.offer ≡ Some q → Contains s.pool.reserved q
  offer_has place g q at e = subst (λ o. IfSome o (λ p. Contains s.pool.reserved p)) e (offer_reserved s place g at kept)

  -- the reply tells of the session that offers p
  told_of : (place : ℕ) (g : Giving) (q : Prefix) → IsGiver s place g → g.offer ≡ Some q → p ≡ q → MayEnd (progress_in (answer_in r)) → IsTold s r p
  told_of place g q is offer same told =
      record { idle = is.idle; offers = of_entry place g is.duty is.entry (subst (λ x. g.offer ≡ Some x) (sym same) offer); told = told }

  dropping : (h : Holding) (place : ℕ) (handle : Handle) (q : Prefix) → s.act ≡ Some (act.Offer place handle q) → IsSome (refused_in r) → is_again r ≡ false
      → h ≡ after_back s.pool q → IsListed h p ⊎ (IsTold s r p ⊎ IsUnsent s r p)
  dropping h place handle q is refused last e = elim (cases_prefix p q) [
    | inl same ↦
        inr (inr (record { offer = by_act place handle (subst (λ x. s.act ≡ Some (act.Offer place handle x)) (sym same) is); refused = refused; last = last }))
    | inr other ↦
        let stands : ActStands s (act.Offer place handle q) = act_stands s (act.Offer place handle q) is kept
        in let hasq : Contains s.pool.reserved q = offer_has place (record { handle = handle; offer = Some q; first = false }) q stands refl
        in inl (inl (subst (λ x. Contains x.reserved p) (sym e) (others q hasq other)))
  ]

  turning : (h : Holding) (place : ℕ) (g : Giving) (o : Objective) → IsGiver s place g → progress_in (answer_in r) ≡ Some (progress.Turn o) → (d : GiverDecision)
      → (offer : Option Prefix) → g.offer ≡ offer → h ≡ after_deciding (giving_back s.pool offer) d → IsListed h p ⊎ (IsTold s r p ⊎ IsUnsent s r p)
  turning h place g o is told d None offer e = inl (inl (subst (λ x. Contains x.reserved p) (sym e) (given_reserved s.pool d p has)))
  turning h place g o is told d (Some q) offer e = elim (cases_prefix p q) [
    | inl same ↦ inr (inl (told_of place g q is offer same (subst MayEnd (sym told) tt)))
    | inr other ↦ inl (inl (subst (λ x. Contains x.reserved p) (sym e) (given_reserved (after_back s.pool q) d p (others q (offer_has place g q is.entry offer) other))))
  ]

  unsending : (h : Holding) (b : Return) → s.back ≡ Some b → b.session ≡ None → IsSome (refused_in r) → is_again r ≡ false
      → h ≡ after_back s.pool b.prefix → IsListed h p ⊎ (IsTold s r p ⊎ IsUnsent s r p)
  unsending h b is none refused last e = elim (cases_prefix p b.prefix) [
    | inl same ↦ inr (inr (record { offer = by_return b is none (sym same); refused = refused; last = last }))
    | inr other ↦ inl (inl (subst (λ x. Contains x.reserved p) (sym e) (others b.prefix (return_reserved s b is kept) other)))
  ]

  -- the session of an offer ended
  ended_so : (h : Holding) (q : Prefix) (o : Outcome) → Contains s.pool.reserved q → progress_in (answer_in r) ≡ Some (progress.Ended o)
      → h ≡ settled s.pool q o → (p ≡ q → MayEnd (progress_in (answer_in r)) → IsTold s r p) → IsListed h p ⊎ (IsTold s r p ⊎ IsUnsent s r p)
  ended_so h q o hasq told e tells = elim (cases_prefix p q) [
    | inl same ↦ elim (settled_listed s.pool q o) [
      | inl listed ↦ inl (subst (λ x. IsListed x p) (sym e) (subst (λ x. IsListed (settled s.pool q o) x) (sym same) listed))
      | inr may ↦ inr (inl (tells same (subst MayEnd (sym told) may)))
    ]
    | inr other ↦ inl (inl (subst (λ x. Contains x p) (sym (ap (λ x. x.reserved) e ∙ settled_reserved s.pool q o)) (others q hasq other)))
  ]

  ending : (h : Holding) (place : ℕ) (g : Giving) (o : Outcome) → IsGiver s place g → progress_in (answer_in r) ≡ Some (progress.Ended o)
      → (offer : Option Prefix) → g.offer ≡ offer → h ≡ settling s.pool offer o → IsListed h p ⊎ (IsTold s r p ⊎ IsUnsent s r p)
  ending h place g o is told None offer e = inl (inl (subst (λ x. Contains x.reserved p) (sym e) has))
  ending h place g o is told (Some q) offer e = ended_so h q o (offer_has place g q is.entry offer) told e (told_of place g q is offer)

  hearing : (h : Holding) (handle : Handle) (b : Return) (o : Outcome) → IsReturner s handle b → progress_in (answer_in r) ≡ Some (progress.Ended o)
      → h ≡ settled s.pool b.prefix o → IsListed h p ⊎ (IsTold s r p ⊎ IsUnsent s r p)
  hearing h handle b o is told e =
      ended_so h b.prefix o (return_reserved s b is.back kept) told e
      (λ same may. record { idle = is.idle; offers = of_return handle b is.duty is.back is.session (sym same); told = may })

  listed_after : (h : Holding) → PoolEffect s r h → IsListed h p ⊎ (IsTold s r p ⊎ IsUnsent s r p)
  listed_after h (unchanged e) = inl (inl (subst (λ x. Contains x.reserved p) (sym e) has))
  listed_after h (dropped place handle q is refused last e) = dropping h place handle q is refused last e
  listed_after h (gained handle q is done e) = inl (inl (subst (λ x. Contains x p) (sym (ap (λ x. x.reserved) e ∙ gaining_reserved s.pool q)) has))
  listed_after h (unsent b is none refused last e) = unsending h b is none refused last e
  listed_after h (heard handle b o is told e) = hearing h handle b o is told e
  listed_after h (turned place g o is told e) = turning h place g o is told (giver_decision (giving_back s.pool g.offer) o.value o.loops g.first) g.offer refl e
  listed_after h (ended place g o is told e) = ending h place g o is told g.offer refl e

-- an offer stays listed until its session tells
pub offers_stay : OffersStayListed
offers_stay s r p kept has = listed_after s r p kept has _ (pool_effect s r)
