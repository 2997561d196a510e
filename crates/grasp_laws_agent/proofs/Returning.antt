-- What becomes of a return: its session begins, its request is refused, or its session ends.
use Rattle.std.proofs.Common.{◌≡◌, true, Contains, Option, Some, None, refl, ap}
use Rattle.grasp_types.specs.Prefix.{AddressBlock as Prefix}
use Rattle.grasp_types.specs.declared.refusal.ApiRefused.{ApiRefused}
use Rattle.grasp_types.specs.declared.reply.Reply.{Reply}
use Rattle.grasp_types.specs.declared.reply.Reply.TheVariants as reply
use Rattle.grasp_types.specs.declared.session.By.TheVariants.{Theirs}
use Rattle.grasp_types.specs.declared.session.Handle.{Handle}
use Rattle.grasp_types.specs.declared.session.Outcome.{Outcome}
use Rattle.grasp_types.specs.declared.session.Outcome.TheVariants as outcome
use Rattle.grasp_types.specs.declared.session.Progress.TheVariants as progress
use Rattle.grasp_pool.specs.Holdings.{Holding}
use Rattle.grasp_pool.specs.Pools.{IsPool}
use Rattle.grasp_pool.proofs.Meanings.{back_means, confirm_means, doubt_means}
use Rattle.grasp_agent.specs.Kept.{IsKept}
use Rattle.grasp_agent.specs.Replies.{answer_in, started_in, after_sending, after_unsent, after_returning, after_back_progress, settled, advanced}
use Rattle.grasp_agent.specs.States.{AgentState, is_returning, back_session}
use Rattle.grasp_agent.specs.declared.back.Return.{Return}
use Rattle.grasp_agent.proofs.Returning.{return_reserved}
use Rattle.grasp_laws_agent.specs.Moves.{hands, is_unsent, hears, Effect, Settled}

-- an offer whose session ended
pub settles : (h : Holding) (p : Prefix) (e : Outcome) → IsPool h → Contains h.reserved p → Settled e p h (settled h p e)
settles h p (outcome.Agreed Theirs o) pool has = confirm_means h p pool has
settles h p (outcome.Declined Theirs reason) pool has = back_means h p pool has
settles h p _ pool has = doubt_means h p pool has

-- the reply that began the session of a return
pub returned_started : (s : AgentState) (r : Reply) (h : Handle) → started_in (answer_in r) ≡ Some h → after_returning s r ≡ after_sending s s.back (Some h)
returned_started s (reply.Api a) h e = ap (after_sending s s.back) e
returned_started s _ h e = absurd (cc)

module _ (s : AgentState) (o : Option Return) where
  pub hands_so : (h : Handle) → s.back ≡ o → is_returning o ≡ true → Effect s (hands h) (after_sending s o (Some h))
  hands_so h e returns = by o e returns
    where
      by : (x : Option Return) → s.back ≡ x → is_returning x ≡ true → Effect s (hands h) (after_sending s x (Some h))
      by None f k = absurd (cc)
      by (Some b) f k = (refl, refl, (refl, refl), refl, (b, f, refl))

  pub unsent_so : (x : ApiRefused) → s.back ≡ o → is_returning o ≡ true → IsKept s → Effect s (is_unsent x) (after_unsent s o)
  unsent_so x e returns k = by o e returns
    where
      by : (y : Option Return) → s.back ≡ y → is_returning y ≡ true → Effect s (is_unsent x) (after_unsent s y)
      by None f i = absurd (cc)
      by (Some b) f i = (refl, (refl, refl), refl, refl, (b, f, back_means s.pool b.prefix k.pool (return_reserved s b f k)))

  pub hears_so : (h : Handle) (e : Outcome) → s.back ≡ o → back_session o ≡ Some h → IsKept s
      → Effect s (hears h e) (advanced (after_back_progress s o (Some (progress.Ended e))))
  hears_so h e is at k = by o is at
    where
      by : (x : Option Return) → s.back ≡ x → back_session x ≡ Some h → Effect s (hears h e) (advanced (after_back_progress s x (Some (progress.Ended e))))
      by None f i = absurd (cc)
      by (Some b) f i = (refl, (refl, refl), refl, refl, (b, f, settles s.pool b.prefix e k.pool (return_reserved s b f k)))
