-- The pool after a reply is the one before with just the change that the reply makes.
use Rattle.std.proofs.Common.{◌≡◌, ℕ, Bool, true, false, cond, slice_get, Contains, Option, Some, None, IfSome, refl}
use Rattle.grasp_types.specs.Prefix.{AddressBlock as Prefix}
use Rattle.grasp_types.specs.declared.objective.Objective.{Objective}
use Rattle.grasp_types.specs.declared.reply.Reply.{Reply}
use Rattle.grasp_types.specs.declared.reply.Reply.TheVariants as reply
use Rattle.grasp_types.specs.declared.session.By.TheVariants.{Mine, Theirs}
use Rattle.grasp_types.specs.declared.session.Handle.{Handle}
use Rattle.grasp_types.specs.declared.session.Outcome.{Outcome}
use Rattle.grasp_types.specs.declared.session.Outcome.TheVariants as outcome
use Rattle.grasp_types.specs.declared.session.Progress.{Progress}
use Rattle.grasp_types.specs.declared.session.Progress.TheVariants as progress
use Rattle.grasp_pool.specs.Holdings.{Holding}
use Rattle.grasp_pool.specs.Pools.{IsPool}
use Rattle.grasp_pool.proofs.Meanings.{back_means}
use Rattle.grasp_agent.specs.Changes.{back_change, dropping_change, doing_change, act_change, returning_change, settled_change, settling_change, heard_change, give_change, duty_change, serving_change, change_of}
use Rattle.grasp_agent.specs.Decisions.{giver_decision, after_deciding}
use Rattle.grasp_agent.specs.Kept.{IsKept, returned}
use Rattle.grasp_agent.specs.Replies.{answer_in, is_done, started_in, incoming_in, progress_in, is_again, after_opening, after_asking, advanced, after_act, after_doing, after_dropping, after_unsent, after_returning, after_back_progress, giving_back, settling, give_act, after_giver_turn, after_give_progress, after_duty, after_serving, after_reply}
use Rattle.grasp_agent.specs.States.{AgentState, is_open, is_asking, is_returning, duty_of, offered_by}
use Rattle.grasp_agent.specs.declared.act.Act.{Act}
use Rattle.grasp_agent.specs.declared.act.Act.TheVariants as act
use Rattle.grasp_agent.specs.declared.back.Return.{Return}
use Rattle.grasp_agent.specs.declared.change.PoolChange.{PoolChange}
use Rattle.grasp_agent.specs.declared.change.PoolChange.TheVariants.{Stays, Decided}
use Rattle.grasp_agent.specs.declared.decision.GiverDecision.{GiverDecision}
use Rattle.grasp_agent.specs.declared.decision.GiverDecision.TheVariants as giver
use Rattle.grasp_agent.specs.declared.duty.Duty.{Duty}
use Rattle.grasp_agent.specs.declared.duty.Duty.TheVariants as duty
use Rattle.grasp_agent.specs.declared.giving.Giving.{Giving}
use Rattle.grasp_agent.proofs.KeepDecisions.{GivenBy, give_given}
use Rattle.grasp_agent.proofs.KeepForms.{act_reserved}
use Rattle.grasp_agent.proofs.Keeping.{between, offer_reserved}
use Rattle.grasp_agent.proofs.Returning.{return_reserved}
use Rattle.grasp_laws_agent.specs.Changes.{OffersIn, Changes, RepliesChangePools}
use Rattle.grasp_laws_agent.specs.Moves.{Settled}
use Rattle.grasp_laws_agent.proofs.Facts.{takes_back}
use Rattle.grasp_laws_agent.proofs.LawEffects.{incoming_pool, opening_pool, asking_pool, sending_pool, want_pool}
use Rattle.grasp_laws_agent.proofs.LawMoves.{accepted_gains}
use Rattle.grasp_laws_agent.proofs.Returning.{settles}

-- the agent afterwards has the pool of s with just this change
abbrev Fits : AgentState → AgentState → PoolChange → Type 0
Fits s t e = Changes e (offered_by t.act) s.pool t.pool

-- ---- acts

doing : (b : Bool) (s : AgentState) (a : Act) → s.act ≡ Some a → IsKept s → Fits s (cond b (after_doing s a) s) (cond b (doing_change a) Stays)
doing false s a is k = refl
doing true s (act.Accept h p) is k = accepted_gains s h p is k
doing true s _ is k = refl

dropping : (s : AgentState) (a : Act) → s.act ≡ Some a → IsKept s → Fits s (after_dropping s a) (dropping_change a)
dropping s (act.Offer place h p) is k = back_means s.pool p k.pool (act_reserved s place h p is k)
dropping s _ is k = refl

acting : (s : AgentState) (a : Act) (r : Reply) → s.act ≡ Some a → IsKept s → Fits s (after_act s a r) (act_change a r)
acting s a (reply.Refused x) is k = dropping s a is k
acting s a (reply.Api x) is k = doing (is_done (Some x)) s a is k
acting s a _ is k = refl

-- ---- offers whose session ended

as_change : (e : Outcome) (p : Prefix) (offer : Option Prefix) (old new : Holding) → Settled e p old new → Changes (settled_change p e) offer old new
as_change (outcome.Agreed Theirs o) p offer old new is = is
as_change (outcome.Agreed Mine o) p offer old new is = is
as_change (outcome.Declined Theirs reason) p offer old new is = is
as_change (outcome.Declined Mine reason) p offer old new is = is
as_change _ p offer old new is = is

-- ---- the return

returning : (s : AgentState) (r : Reply) → IsKept s → Fits s (after_returning s r) (returning_change (returned s.back) r)
returning s (reply.Refused x) k = by s.back refl
  where
    by : (b : Option Return) → s.back ≡ b → Fits s (after_unsent s b) (back_change (returned b))
    by None e = refl
    by (Some b) e = back_means s.pool b.prefix k.pool (return_reserved s b e k)
returning s (reply.Api a) k = sending_pool s s.back (started_in (Some a))
returning s _ k = sending_pool s s.back None

hearing : (s : AgentState) → IsKept s → (b : Option Return) → s.back ≡ b → (p : Option Progress) → Fits s (after_back_progress s b p) (heard_change (returned b) p)
hearing s k (Some b) e (Some (progress.Ended o)) =
    as_change o b.prefix (offered_by s.act) s.pool _ (settles s.pool b.prefix o k.pool (return_reserved s b e k))
hearing s k None e (Some (progress.Ended o)) = refl
hearing s k None e _ = refl
hearing s k (Some b) e _ = refl

-- ---- giving sessions

-- what is decided is offered
offers_in : (h : Holding) (place : ℕ) (handle : Handle) (d : GiverDecision) → GivenBy h d → OffersIn (offered_by (Some (give_act place handle d))) h (after_deciding h d)
offers_in h place handle (giver.Offer p) given = given.reserves
offers_in h place handle _ given = refl

module _ (s : AgentState) (place : ℕ) (g : Giving) (at : slice_get s.giving place ≡ Some g) (k : IsKept s) where
  turning : (o : Objective) → Fits s (after_giver_turn s place g o) (Decided g.offer)
  turning o =
      let h : Holding = giving_back s.pool g.offer
      in let pool : IsPool h = (between s place g at k).pool
      in (
        h,
        takes_back s.pool g.offer k.pool (offer_reserved s place g at k),
        offers_in h place g.handle (giver_decision h o.value o.loops g.first) (give_given h o.value o.loops g.first pool),
      )

  settling_so : (e : Outcome) (offer : Option Prefix) → IfSome offer (λ p. Contains s.pool.reserved p)
      → Changes (settling_change offer e) (offered_by s.act) s.pool (settling s.pool offer e)
  settling_so e None has = refl
  settling_so e (Some p) has = as_change e p (offered_by s.act) s.pool _ (settles s.pool p e k.pool has)

  giving : (p : Option Progress) → Fits s (after_give_progress s place (Some g) p) (give_change (Some g) p)
  giving (Some (progress.Turn o)) = turning o
  giving (Some (progress.Ended e)) = settling_so e g.offer (offer_reserved s place g at k)
  giving _ = refl

-- ---- all replies

doing_duty : (s : AgentState) (r : Reply) (d : Duty) → IsKept s → Fits s (after_duty s d r) (duty_change s d r)
doing_duty s r duty.Listen k = incoming_pool s (incoming_in (answer_in r))
doing_duty s r (duty.Want h) k = want_pool s s.want h (progress_in (answer_in r))
doing_duty s r (duty.Return h) k = hearing s k s.back refl (progress_in (answer_in r))
doing_duty s r (duty.Give place h) k = by (slice_get s.giving place) refl
  where
    by : (o : Option Giving) → slice_get s.giving place ≡ o
        → Fits s (after_give_progress s place o (progress_in (answer_in r))) (give_change o (progress_in (answer_in r)))
    by None e = refl
    by (Some g) e = giving s place g e k (progress_in (answer_in r))

serving : (s : AgentState) (r : Reply) (a : Option Act) → s.act ≡ a → IsKept s → Fits s (after_serving s a r) (serving_change s a r)
serving s r (Some a) is k = acting s a r is k
serving s r None is k = by (is_asking s.want) (is_returning s.back)
  where
    by : (b c : Bool)
        → Fits s (cond b (after_asking s r) (cond c (after_returning s r) (advanced (after_duty s (duty_of s) r))))
        (cond b Stays (cond c (returning_change (returned s.back) r) (duty_change s (duty_of s) r)))
    by true c = asking_pool s r
    by false true = returning s r k
    by false false = doing_duty s r (duty_of s) k

pub replies_change_pools : RepliesChangePools
unfolding after_reply change_of
replies_change_pools s r k = by (is_again r) (is_open s.stage)
  where
    by : (again serves : Bool)
        → Fits s (cond again s (cond serves (after_serving s s.act r) (after_opening s r))) (cond again Stays (cond serves (serving_change s s.act r) Stays))
    by true serves = refl
    by false true = serving s r s.act refl k
    by false false = opening_pool s s.stage r
