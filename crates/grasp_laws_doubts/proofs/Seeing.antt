-- What a doubter keeps of a call that it is told.
use Rattle.std.proofs.Common.{◌≡◌, ◌⊎◌, inl, inr, refl, subst, ℕ, Bool, true, false, cond, nat_lt, List, [], ◌∷◌, ◌++◌, length, Contains, Option, None, Some}
use Rattle.std.proofs.lemmas.List.Elements.{Contains-append_left, Contains-push}
use Rattle.std.proofs.lemmas.Option.{none-some, same_Some}
use Rattle.grasp_agent.specs.Replies.{answer_in}
use Rattle.grasp_agent.specs.Values.{offered_in}
use Rattle.grasp_pool.specs.Holdings.{Holding}
use Rattle.grasp_types.specs.Prefix.{AddressBlock as Prefix}
use Rattle.grasp_types.specs.declared.call.Call.{Call}
use Rattle.grasp_types.specs.declared.call.Call.TheVariants as call
use Rattle.grasp_types.specs.declared.objective.Objective.{Objective}
use Rattle.grasp_types.specs.declared.reply.ApiAnswer.{ApiAnswer}
use Rattle.grasp_types.specs.declared.reply.ApiAnswer.TheVariants as answer
use Rattle.grasp_types.specs.declared.reply.Reply.{Reply}
use Rattle.grasp_types.specs.declared.reply.Reply.TheVariants as reply
use Rattle.grasp_types.specs.declared.session.By.TheVariants.{Mine, Theirs}
use Rattle.grasp_types.specs.declared.session.Handle.{Handle}
use Rattle.grasp_types.specs.declared.session.Outcome.{Outcome}
use Rattle.grasp_types.specs.declared.session.Outcome.TheVariants as outcome
use Rattle.grasp_types.specs.declared.session.Progress.{Progress}
use Rattle.grasp_types.specs.declared.session.Progress.TheVariants as progress
use Rattle.grasp_doubter.specs.Seeing.{accepting, after_answer, after_answer_in, after_done, after_ending, after_outcome, after_progress, after_saw, after_step, forgetting, polled, with_accepted, without_opener}
use Rattle.grasp_doubter.specs.States.{DoubterState}
use Rattle.grasp_laws_doubts.specs.Remembering.{Remembers}

-- ---- one more prefix

pub with_itself : (d : DoubterState) (p : Prefix) → Remembers (with_accepted d p) p
with_itself d p = by_room (nat_lt (length d.accepted) 1024) where
  by_room : (b : Bool) → Remembers (cond b (record d { accepted = d.accepted ++ p ∷ [] }) (record d { lost = true })) p
  by_room true = inl (Contains-push d.accepted p)
  by_room false = inr refl

with_others : (d : DoubterState) (q p : Prefix) → Remembers d p → Remembers (with_accepted d q) p
with_others d q p k = by_room (nat_lt (length d.accepted) 1024) k where
  by_room : (b : Bool) → Remembers d p → Remembers (cond b (record d { accepted = d.accepted ++ q ∷ [] }) (record d { lost = true })) p
  by_room true (inl c) = inl (Contains-append_left d.accepted (q ∷ []) p c)
  by_room true (inr lost) = inr lost
  by_room false k = inr refl

accepting_keeps : (d : DoubterState) (o : Option Prefix) (p : Prefix) → Remembers d p → Remembers (accepting d o) p
accepting_keeps d None p k = k
accepting_keeps d (Some q) p k = with_others d q p k

-- ---- a call and its reply

outcome_keeps : (d : DoubterState) (e : Outcome) (p : Prefix) → Remembers d p → Remembers (after_outcome d e) p
outcome_keeps d (outcome.Agreed Mine o) p k = accepting_keeps d (offered_in o.value) p k
outcome_keeps d (outcome.Agreed Theirs o) p k = k
outcome_keeps d _ p k = k

ending_keeps : (d : DoubterState) (h : Option Handle) (e : Outcome) (p : Prefix) → Remembers d p → Remembers (after_ending d h e) p
ending_keeps d None e p k = outcome_keeps d e p k
ending_keeps d (Some h) e p k = outcome_keeps (record d { openers = without_opener d.openers h }) e p k

progress_keeps : (d : DoubterState) (h : Option Handle) (x : Progress) (p : Prefix) → Remembers d p → Remembers (after_progress d h x) p
progress_keeps d h (progress.Ended e) p k = ending_keeps d h e p k
progress_keeps d h _ p k = k

step_keeps : (d : DoubterState) (h : Handle) (o : Option Prefix) (p : Prefix) → Remembers d p → Remembers (after_step d h o) p
step_keeps d h None p k = k
step_keeps d h (Some q) p k = k

done_keeps : (d : DoubterState) (c : Call) (p : Prefix) → Remembers d p → Remembers (after_done d c) p
done_keeps d (call.NegotiateStep h v) p k = step_keeps d h (offered_in (Some v)) p k
done_keeps d _ p k = k

answer_keeps : (d : DoubterState) (c : Call) (x : ApiAnswer) (p : Prefix) → Remembers d p → Remembers (after_answer d c x) p
answer_keeps d c (answer.Incoming h from o) p k = k
answer_keeps d c answer.Done p k = done_keeps d c p k
answer_keeps d c (answer.Polled x) p k = progress_keeps d (polled c) x p k
answer_keeps d c _ p k = k

in_keeps : (d : DoubterState) (c : Call) (o : Option ApiAnswer) (p : Prefix) → Remembers d p → Remembers (after_answer_in d c o) p
in_keeps d c None p k = k
in_keeps d c (Some x) p k = answer_keeps d c x p k

-- what it knew it knows
pub saw_keeps : (d : DoubterState) (h : Holding) (c : Call) (r : Reply) (p : Prefix) → Remembers d p → Remembers (after_saw d h c r) p
unfolding after_saw
saw_keeps d h c r p k = in_keeps d c (answer_in r) p k

-- and a poll that tells that this end has accepted tells it what was accepted
pub saw_accepted : (d : DoubterState) (holding : Holding) (h : Handle) (o : Objective) (p : Prefix) → offered_in o.value ≡ Some p
    → Remembers (after_saw d holding (call.Poll h) (reply.Api (answer.Polled (progress.Ended (outcome.Agreed Mine o))))) p
unfolding after_saw
saw_accepted d holding h o p e = from (offered_in o.value) e where
  from : (x : Option Prefix) → x ≡ Some p → Remembers (forgetting holding (accepting (record d { openers = without_opener d.openers h }) x)) p
  from None f = absurd (none-some p f)
  from (Some q) f = ap_remembers q p (same_Some q p f) where
    ap_remembers : (q p : Prefix) → q ≡ p → Remembers (with_accepted (record d { openers = without_opener d.openers h }) q) p
    ap_remembers q p same = subst (λ z. Remembers (with_accepted (record d { openers = without_opener d.openers h }) q) z) same (with_itself (record d { openers = without_opener d.openers h }) q)
