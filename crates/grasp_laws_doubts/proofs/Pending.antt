-- What becomes of an offer that an agent of prefixes has decided and not yet made, and when its next call is a step.
use Rattle.std.proofs.Common.{◌≡◌, ◌⊎◌, inl, inr, refl, sym, ap, ◌∙◌, subst, ℕ, Bool, true, false, cond, Contains, Option, None, Some}
use Rattle.std.proofs.lemmas.Bool.{false≢true}
use Rattle.std.proofs.lemmas.Option.{none-some, same_Some}
use Rattle.grasp_agent.proofs.Reading.{prefix_again}
use Rattle.grasp_agent.specs.Calls.{act_call, next_call, opening_call, serving_call}
use Rattle.grasp_agent.specs.Replies.{after_opening, after_reply, after_serving, is_again}
use Rattle.grasp_agent.specs.States.{AgentState, duty_of, is_open, offered_by}
use Rattle.grasp_agent.specs.Values.{length_value, offered_in, prefix_value}
use Rattle.grasp_agent.specs.declared.act.Act.{Act}
use Rattle.grasp_agent.specs.declared.act.Act.TheVariants as act
use Rattle.grasp_agent.specs.declared.duty.Duty.TheVariants as duty
use Rattle.grasp_agent.specs.declared.stage.Stage.TheVariants.{Serving}
use Rattle.grasp_cbor.specs.DataItem.{DataItem}
use Rattle.grasp_laws_agent.proofs.LawNext.{next_calls_are}
use Rattle.grasp_laws_agent.specs.Next.{NextIs, acts, does, hands_back, opens, requests}
use Rattle.grasp_pool.proofs.Meanings.{back_means}
use Rattle.grasp_pool.specs.Functions.{after_back}
use Rattle.grasp_pool.specs.Holdings.{GivesBack, IsListed}
use Rattle.grasp_pool.specs.Pools.{IsPool}
use Rattle.grasp_types.specs.Prefix.{AddressBlock as Prefix, IsPrefix}
use Rattle.grasp_types.specs.declared.call.Call.{Call}
use Rattle.grasp_types.specs.declared.call.Call.TheVariants as call
use Rattle.grasp_types.specs.declared.reply.ApiAnswer.{ApiAnswer}
use Rattle.grasp_types.specs.declared.reply.ApiAnswer.TheVariants as answer
use Rattle.grasp_types.specs.declared.reply.Reply.{Reply}
use Rattle.grasp_types.specs.declared.reply.Reply.TheVariants as reply
use Rattle.grasp_types.specs.declared.session.Handle.{Handle}

-- ---- after a reply

-- it is still to be made, or was made, or its prefix is free again
module _ (a : AgentState) (r : Reply) (place : ℕ) (h : Handle) (p : Prefix) (stage : a.stage ≡ Serving) (pool : IsPool a.pool) (reserved : Contains a.pool.reserved p) (is : a.act ≡ Some (act.Offer place h p)) where
  abbrev Over : AgentState → Type 0
  Over b = (offered_by b.act ≡ Some p) ⊎ ((r ≡ reply.Api answer.Done) ⊎ (IsListed b.pool p → ⊥))

  pending : Over a
  pending = inl (ap offered_by is)

  gives_back : GivesBack a.pool (after_back a.pool p) p
  gives_back = back_means a.pool p pool reserved

  not_listed : IsListed (after_back a.pool p) p → ⊥
  not_listed (inl c) = ((gives_back.reserved p).0 c).1 refl
  not_listed (inr c) = pool.once p reserved (subst (λ ps. Contains ps p) gives_back.doubtful c)

  by_answer : (x : ApiAnswer) → r ≡ reply.Api x → Over (after_serving a (Some (act.Offer place h p)) (reply.Api x))
  by_answer answer.Done e = inr (inl e)
  by_answer _ e = pending

  by_reply : (x : Reply) → r ≡ x → Over (after_serving a (Some (act.Offer place h p)) x)
  by_reply (reply.Refused refused) e = inr (inr not_listed)
  by_reply (reply.Api x) e = by_answer x e
  by_reply _ e = pending

  by_again : (b : Bool) → Over (cond b a (cond (is_open a.stage) (after_serving a a.act r) (after_opening a r)))
  by_again true = pending
  by_again false =
      subst (λ b. Over (cond b (after_serving a a.act r) (after_opening a r))) (sym (ap is_open stage))
      (subst (λ o. Over (after_serving a o r)) (sym is) (by_reply r refl))

  pub pending_over : Over (after_reply a r)
  unfolding after_reply
  pending_over = by_again (is_again r)

-- ---- a step

-- an act that isn't done comes before all
pub next_act : (a : AgentState) (c : Act) → a.stage ≡ Serving → a.act ≡ Some c → next_call a ≡ act_call c
unfolding next_call
next_act a c stage e =
    ap (λ g. cond (is_open g) (serving_call a.act a.want a.back (duty_of a)) (opening_call g)) stage ∙ ap (λ o. serving_call o a.want a.back (duty_of a)) e

no_length : (n : ℕ) → offered_in (Some (length_value n)) ≡ None
unfolding offered_in
no_length n = refl

-- where the next call is a step that offers a prefix, that is an offer which was decided
module _ (a : AgentState) (stage : a.stage ≡ Serving) (h : Handle) (v : DataItem) (p : Prefix) (offers : offered_in (Some v) ≡ Some p) (valid : (place : ℕ) (k : Handle) (q : Prefix) → a.act ≡ Some (act.Offer place k q) → IsPrefix q.address q.length) where
  by_act : (c : Act) → a.act ≡ Some c → act_call c ≡ call.NegotiateStep h v → (place : ℕ) × (a.act ≡ Some (act.Offer place h p))
  by_act (act.Offer place k q) is e = (place, is ∙ ap (λ (c : Act). Some c) (both (handle_is e) (prefix_is e))) where
    handle_is : call.NegotiateStep k (prefix_value q) ≡ call.NegotiateStep h v → k ≡ h
    handle_is f = cc

    value_is : call.NegotiateStep k (prefix_value q) ≡ call.NegotiateStep h v → prefix_value q ≡ v
    value_is f = cc

    prefix_is : call.NegotiateStep k (prefix_value q) ≡ call.NegotiateStep h v → q ≡ p
    prefix_is f = same_Some q p (sym (prefix_again q (valid place k q is)) ∙ (ap (λ z. offered_in (Some z)) (value_is f) ∙ offers))

    both : k ≡ h → q ≡ p → act.Offer place k q ≡ act.Offer place h p
    both f g = cc
  by_act (act.Counter k n) is e = absurd (none-some p (sym (no_length n) ∙ (ap (λ z. offered_in (Some z)) (value_is e) ∙ offers))) where
    value_is : call.NegotiateStep k (length_value n) ≡ call.NegotiateStep h v → length_value n ≡ v
    value_is f = cc
  by_act (act.Accept k q) is e = absurd (cc)
  by_act (act.Decline k reason) is e = absurd (cc)

  by_next : (c : Call) → NextIs a c → c ≡ call.NegotiateStep h v → (place : ℕ) × (a.act ≡ Some (act.Offer place h p))
  by_next _ (opens shut) e = absurd (false≢true (sym shut ∙ ap is_open stage))
  by_next _ (acts c serves is) e = by_act c is e
  by_next _ (requests w next is none) e = absurd (cc)
  by_next _ (hands_back b next is none) e = absurd (cc)
  by_next _ (does duty.Listen next is) e = absurd (cc)
  by_next _ (does (duty.Want k) next is) e = absurd (cc)
  by_next _ (does (duty.Return k) next is) e = absurd (cc)
  by_next _ (does (duty.Give place k) next is) e = absurd (cc)

  pub step_decided : next_call a ≡ call.NegotiateStep h v → (place : ℕ) × (a.act ≡ Some (act.Offer place h p))
  step_decided e = by_next (next_call a) (next_calls_are a) e
