-- What a doubter that is told of a call has as it had it, and which offers it still knows.
use Rattle.std.proofs.Common.{◌≡◌, ◌⊎◌, refl, sym, ap, ◌∙◌, subst, ℕ, nat_lt, not, Bool, true, false, cond, List, [], ◌∷◌, ◌++◌, length, Contains, Option, None, Some}
use Rattle.std.proofs.lemmas.Bool.{false_from_ne_true}
use Rattle.std.proofs.lemmas.List.Elements.{Contains-append_left}
use Rattle.grasp_agent.specs.Replies.{answer_in}
use Rattle.grasp_agent.specs.Values.{offered_in}
use Rattle.grasp_pool.specs.Holdings.{Holding, IsListed}
use Rattle.grasp_types.specs.Prefix.{AddressBlock as Prefix}
use Rattle.grasp_types.specs.declared.address.Address.{Address}
use Rattle.grasp_types.specs.declared.call.Call.{Call}
use Rattle.grasp_types.specs.declared.call.Call.TheVariants as call
use Rattle.grasp_types.specs.declared.reply.ApiAnswer.{ApiAnswer}
use Rattle.grasp_types.specs.declared.reply.ApiAnswer.TheVariants as answer
use Rattle.grasp_types.specs.declared.reply.Reply.{Reply}
use Rattle.grasp_types.specs.declared.reply.Reply.TheVariants as reply
use Rattle.grasp_types.specs.declared.session.By.TheVariants.{Mine, Theirs}
use Rattle.grasp_types.specs.declared.session.Handle.{Handle}
use Rattle.grasp_types.specs.declared.session.Outcome.{Outcome}
use Rattle.grasp_types.specs.declared.session.Outcome.TheVariants as outcome
use Rattle.grasp_types.specs.declared.session.Progress.{Progress}
use Rattle.grasp_types.specs.declared.session.Progress.TheVariants as progress
use Rattle.grasp_cbor.specs.DataItem.{DataItem}
use Rattle.grasp_doubter.specs.Seeing.{accepting, after_answer, after_answer_in, after_done, after_ending, after_outcome, after_progress, after_saw, after_step, is_set_aside, opener_of, polled, with_sent, without_opener, without_sent}
use Rattle.grasp_doubter.specs.States.{DoubterState, is_prefix}
use Rattle.grasp_doubter.specs.declared.asking.Ask.{Ask}
use Rattle.grasp_doubter.specs.declared.duty.DoubtAct.{DoubtAct}
use Rattle.grasp_doubter.specs.declared.seen.Sent.{Sent}
use Rattle.grasp_laws_network.proofs.Lists.{filter_has}
use Rattle.grasp_laws_network.proofs.Offers.{same_prefix, so_listed}
use Rattle.grasp_laws_doubts.proofs.Sent.{IsStepOf, progress_sent}

-- ---- what it asks and answers

-- the doubter has the question, the answer and the address that it had
pub record HasRest (d f : DoubterState) : Type 0 where
  pub ask : f.ask ≡ d.ask
  pub act : f.act ≡ d.act
  pub address : f.address ≡ d.address

rest_itself : (d : DoubterState) → HasRest d d
rest_itself d = record { ask = refl; act = refl; address = refl }

accepting_rest : (d : DoubterState) (p : Option Prefix) → HasRest d (accepting d p)
accepting_rest d None = rest_itself d
accepting_rest d (Some p) = by_room (nat_lt (length d.accepted) 1024) where
  by_room : (b : Bool) → HasRest d (cond b (record d { accepted = d.accepted ++ p ∷ [] }) (record d { lost = true }))
  by_room true = record { ask = refl; act = refl; address = refl }
  by_room false = record { ask = refl; act = refl; address = refl }

outcome_rest : (d : DoubterState) (e : Outcome) → HasRest d (after_outcome d e)
outcome_rest d (outcome.Agreed Mine o) = accepting_rest d (offered_in o.value)
outcome_rest d (outcome.Agreed Theirs o) = rest_itself d
outcome_rest d _ = rest_itself d

ending_rest : (d : DoubterState) (h : Option Handle) (e : Outcome) → HasRest d (after_ending d h e)
ending_rest d None e = outcome_rest d e
ending_rest d (Some h) e = let k = outcome_rest (record d { openers = without_opener d.openers h }) e in record { ask = k.ask; act = k.act; address = k.address }

progress_rest : (d : DoubterState) (h : Option Handle) (x : Progress) → HasRest d (after_progress d h x)
progress_rest d h (progress.Ended e) = ending_rest d h e
progress_rest d h _ = rest_itself d

step_rest : (d : DoubterState) (h : Handle) (o : Option Prefix) → HasRest d (after_step d h o)
step_rest d h None = rest_itself d
step_rest d h (Some p) = record { ask = refl; act = refl; address = refl }

done_rest : (d : DoubterState) (c : Call) → HasRest d (after_done d c)
done_rest d (call.NegotiateStep h v) = step_rest d h (offered_in (Some v))
done_rest d _ = rest_itself d

answer_rest : (d : DoubterState) (c : Call) (x : ApiAnswer) → HasRest d (after_answer d c x)
answer_rest d c (answer.Incoming h from o) = record { ask = refl; act = refl; address = refl }
answer_rest d c answer.Done = done_rest d c
answer_rest d c (answer.Polled x) = progress_rest d (polled c) x
answer_rest d c _ = rest_itself d

in_rest : (d : DoubterState) (c : Call) (o : Option ApiAnswer) → HasRest d (after_answer_in d c o)
in_rest d c None = rest_itself d
in_rest d c (Some x) = answer_rest d c x

pub saw_rest : (d : DoubterState) (h : Holding) (c : Call) (r : Reply) → HasRest d (after_saw d h c r)
unfolding after_saw
saw_rest d h c r = let k = in_rest d c (answer_in r) in record { ask = k.ask; act = k.act; address = k.address }

-- ---- the offers that it still knows

module _ (d : DoubterState) (x : Sent) (has : Contains d.offered x) where
  not_same : (p : Prefix) → (x.prefix ≡ p → ⊥) → not (is_prefix x.prefix p) ≡ true
  not_same p apart = ap not (false_from_ne_true (is_prefix x.prefix p) (λ e. apart (same_prefix x.prefix p e)))

  others_stay : (p : Prefix) → (x.prefix ≡ p → ⊥) → Contains (without_sent d.offered p) x
  others_stay p apart = filter_has (λ (s : Sent). not (is_prefix s.prefix p)) d.offered x has (not_same p apart)

  with_stay : (p : Prefix) (o : Option Address) → (x.prefix ≡ p → ⊥) → Contains (with_sent d.offered p o) x
  with_stay p None apart = others_stay p apart
  with_stay p (Some a) apart = by_room (nat_lt (length (without_sent d.offered p)) 4096) where
    by_room : (b : Bool) → Contains (cond b (without_sent d.offered p ++ record { prefix = p; address = a } ∷ []) (without_sent d.offered p)) x
    by_room true = Contains-append_left (without_sent d.offered p) (record { prefix = p; address = a } ∷ []) x (others_stay p apart)
    by_room false = others_stay p apart

  step_stays : (h : Handle) (o : Option Prefix) → ((p : Prefix) → o ≡ Some p → x.prefix ≡ p → ⊥) → Contains (after_step d h o).offered x
  step_stays h None apart = has
  step_stays h (Some p) apart = with_stay p (opener_of d.openers h) (apart p refl)

  abbrev NoStep : Call → Reply → Type 0
  NoStep c r = (h : Handle) → IsStepOf c r h x.prefix → ⊥

  done_stays : (c : Call) → NoStep c (reply.Api answer.Done) → Contains (after_done d c).offered x
  done_stays (call.NegotiateStep h v) none =
      step_stays h (offered_in (Some v)) (λ p e same. none h (record { value = v; call_is = refl; done = refl; offers = e ∙ ap (λ q. Some q) (sym same) }))
  done_stays _ none = has

  answer_stays : (c : Call) (a : ApiAnswer) → NoStep c (reply.Api a) → Contains (after_answer d c a).offered x
  answer_stays c (answer.Incoming h from o) none = has
  answer_stays c answer.Done none = done_stays c none
  answer_stays c (answer.Polled y) none = subst (λ ss. Contains ss x) (sym (progress_sent d (polled c) y)) has
  answer_stays c _ none = has

  -- an offer of a prefix that is reserved or in doubt then, and that wasn't offered just now
  pub saw_stays : (h : Holding) (c : Call) (r : Reply) → IsListed h x.prefix → ((k : Handle) → IsStepOf c r k x.prefix → ⊥) → Contains (after_saw d h c r).offered x
  unfolding after_saw
  saw_stays h c r aside none = by_reply r none where
    by_reply : (r : Reply) → NoStep c r → Contains (after_saw d h c r).offered x
    by_reply (reply.Api a) none = filter_has (λ (s : Sent). is_set_aside h s.prefix) (after_answer_in d c (Some a)).offered x (answer_stays c a none) (so_listed h x.prefix aside)
    by_reply _ none = filter_has (λ (s : Sent). is_set_aside h s.prefix) d.offered x has (so_listed h x.prefix aside)
