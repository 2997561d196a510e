-- What a doubter keeps of the offers that it is told of.
use Rattle.std.proofs.Common.{◌≡◌, ◌⊎◌, inl, inr, refl, sym, ap, ◌∙◌, subst, ℕ, nat_lt, not, Bool, true, false, cond, List, [], ◌∷◌, ◌++◌, length, Contains, Option, None, Some}
use Rattle.std.proofs.lemmas.Bool.{true≢false}
use Rattle.std.proofs.lemmas.List.Elements.{Contains-append_cases}
use Rattle.std.proofs.lemmas.Option.{none-some, same_Some}
use Rattle.grasp_agent.specs.Values.{offered_in}
use Rattle.grasp_pool.specs.Holdings.{Holding, IsListed}
use Rattle.grasp_types.specs.Prefix.{AddressBlock as Prefix}
use Rattle.grasp_types.specs.declared.address.Address.{Address}
use Rattle.grasp_types.specs.declared.call.Call.{Call}
use Rattle.grasp_types.specs.declared.call.Call.TheVariants as call
use Rattle.grasp_types.specs.declared.reply.ApiAnswer.{ApiAnswer}
use Rattle.grasp_types.specs.declared.reply.ApiAnswer.TheVariants as answer
use Rattle.grasp_types.specs.declared.reply.Reply.{Reply}
use Rattle.grasp_types.specs.declared.reply.Reply.TheVariants as reply
use Rattle.grasp_types.specs.declared.session.By.TheVariants.{Mine, Theirs}
use Rattle.grasp_types.specs.declared.session.Handle.{Handle}
use Rattle.grasp_types.specs.declared.session.Outcome.{Outcome}
use Rattle.grasp_types.specs.declared.session.Outcome.TheVariants as outcome
use Rattle.grasp_types.specs.declared.session.Progress.{Progress}
use Rattle.grasp_types.specs.declared.session.Progress.TheVariants as progress
use Rattle.grasp_cbor.specs.DataItem.{DataItem}
use Rattle.grasp_doubter.specs.Seeing.{accepting, after_answer, after_answer_in, after_done, after_ending, after_outcome, after_progress, after_saw, after_step, is_set_aside, opener_of, polled, with_sent, without_opener, without_sent}
use Rattle.grasp_doubter.specs.States.{DoubterState, is_prefix}
use Rattle.grasp_doubter.specs.declared.seen.Sent.{Sent}
use Rattle.grasp_laws_network.proofs.Lists.{filtered}
use Rattle.grasp_laws_network.proofs.Offers.{listed_so, prefix_itself}
use Rattle.grasp_laws_prefixes.proofs.Listing.{either_in, none_in}

-- the call was a step that was done and offered this prefix, in this session
pub record IsStepOf (c : Call) (r : Reply) (h : Handle) (p : Prefix) : Type 0 where
  pub value : DataItem
  pub call_is : c ≡ call.NegotiateStep h value
  pub done : r ≡ reply.Api answer.Done
  pub offers : offered_in (Some value) ≡ Some p

-- an entry that it keeps was kept, and the call didn't offer its prefix; or the call offered it to the opener of its session
pub data WasSent (d : DoubterState) (c : Call) (r : Reply) (x : Sent) : Type 0 where
  kept : Contains d.offered x → ((h : Handle) → IsStepOf c r h x.prefix → ⊥) → WasSent d c r x
  made : (h : Handle) → IsStepOf c r h x.prefix → opener_of d.openers h ≡ Some x.address → WasSent d c r x

-- ---- what isn't done by a step

accepting_sent : (d : DoubterState) (p : Option Prefix) → (accepting d p).offered ≡ d.offered
accepting_sent d None = refl
accepting_sent d (Some p) = by_room (nat_lt (length d.accepted) 1024) where
  by_room : (b : Bool) → (cond b (record d { accepted = d.accepted ++ p ∷ [] }) (record d { lost = true })).offered ≡ d.offered
  by_room true = refl
  by_room false = refl

outcome_sent : (d : DoubterState) (e : Outcome) → (after_outcome d e).offered ≡ d.offered
outcome_sent d (outcome.Agreed Mine o) = accepting_sent d (offered_in o.value)
outcome_sent d (outcome.Agreed Theirs o) = refl
outcome_sent d _ = refl

ending_sent : (d : DoubterState) (h : Option Handle) (e : Outcome) → (after_ending d h e).offered ≡ d.offered
ending_sent d None e = outcome_sent d e
ending_sent d (Some h) e = outcome_sent (record d { openers = without_opener d.openers h }) e

pub progress_sent : (d : DoubterState) (h : Option Handle) (x : Progress) → (after_progress d h x).offered ≡ d.offered
progress_sent d h (progress.Ended e) = ending_sent d h e
progress_sent d h _ = refl

-- ---- a step

pub not_itself : (p q : Prefix) → not (is_prefix p q) ≡ true → p ≡ q → ⊥
not_itself p q e same = true≢false (sym e ∙ ap not (prefix_itself p q same))

only_sent : (x y : Sent) → Contains (x ∷ []) y → x ≡ y
only_sent x y c = by_case (either_in x [] y c) where
  by_case : (x ≡ y) ⊎ Contains [] y → x ≡ y
  by_case (inl e) = e
  by_case (inr none) = absurd (none_in y none)

module _ (d : DoubterState) (h : Handle) (v : DataItem) (x : Sent) where
  abbrev Was : Type 0
  Was = WasSent d (call.NegotiateStep h v) (reply.Api answer.Done) x

  -- the entries of other prefixes
  others : (p : Prefix) → offered_in (Some v) ≡ Some p → Contains (without_sent d.offered p) x → Was
  others p e c = let f = filtered (λ (s : Sent). not (is_prefix s.prefix p)) d.offered x c in kept f.0 (λ k s. not_itself x.prefix p f.1 (sym (same_prefix s))) where
    same_prefix : {k : Handle} → IsStepOf (call.NegotiateStep h v) (reply.Api answer.Done) k x.prefix → p ≡ x.prefix
    same_prefix s = same_Some p x.prefix (sym e ∙ (ap (λ z. offered_in (Some z)) (value_is s.call_is) ∙ s.offers)) where
      value_is : {k : Handle} {u : DataItem} → call.NegotiateStep h v ≡ call.NegotiateStep k u → v ≡ u
      value_is f = cc

  with_address : (p : Prefix) (a : Address) → offered_in (Some v) ≡ Some p → opener_of d.openers h ≡ Some a → (b : Bool)
      → Contains (cond b (without_sent d.offered p ++ record { prefix = p; address = a } ∷ []) (without_sent d.offered p)) x → Was
  with_address p a e opens false c = others p e c
  with_address p a e opens true c = by_case (Contains-append_cases (without_sent d.offered p) (record { prefix = p; address = a } ∷ []) x c) where
    by_case : Contains (without_sent d.offered p) x ⊎ Contains (record { prefix = p; address = a } ∷ []) x → Was
    by_case (inl c) = others p e c
    by_case (inr c) =
        let same = only_sent (record { prefix = p; address = a }) x c in
        made h (record { value = v; call_is = refl; done = refl; offers = e ∙ ap (λ (s : Sent). Some s.prefix) same }) (opens ∙ ap (λ (s : Sent). Some s.address) same)

  by_opener : (p : Prefix) → offered_in (Some v) ≡ Some p → (o : Option Address) → opener_of d.openers h ≡ o → Contains (with_sent d.offered p o) x → Was
  by_opener p e None opens c = others p e c
  by_opener p e (Some a) opens c = with_address p a e opens (nat_lt (length (without_sent d.offered p)) 4096) c

  step_sent : (o : Option Prefix) → offered_in (Some v) ≡ o → Contains (after_step d h o).offered x → Was
  step_sent None e c = kept c (λ k s. absurd (none-some x.prefix (sym e ∙ (ap (λ z. offered_in (Some z)) (value_is s.call_is) ∙ s.offers)))) where
    value_is : {k : Handle} {u : DataItem} → call.NegotiateStep h v ≡ call.NegotiateStep k u → v ≡ u
    value_is f = cc
  step_sent (Some p) e c = by_opener p e (opener_of d.openers h) refl c

-- ---- a call and its reply

done_sent : (d : DoubterState) (c : Call) (x : Sent) → Contains (after_done d c).offered x → WasSent d c (reply.Api answer.Done) x
done_sent d c x has = no_step c has where
  no_step : (c : Call) → Contains (after_done d c).offered x → WasSent d c (reply.Api answer.Done) x
  no_step (call.NegotiateStep h v) has = step_sent d h v x (offered_in (Some v)) refl has
  no_step (call.RegisterAsa name) has = kept has (λ h s. let e = s.call_is in cc)
  no_step call.DeregisterAsa has = kept has (λ h s. let e = s.call_is in cc)
  no_step (call.RegisterObjective name flags) has = kept has (λ h s. let e = s.call_is in cc)
  no_step (call.DeregisterObjective name) has = kept has (λ h s. let e = s.call_is in cc)
  no_step (call.Discover name kind loops timeout) has = kept has (λ h s. let e = s.call_is in cc)
  no_step (call.RequestNegotiate name value loops timeout dry peer) has = kept has (λ h s. let e = s.call_is in cc)
  no_step (call.ListenNegotiate name) has = kept has (λ h s. let e = s.call_is in cc)
  no_step (call.StopListenNegotiate name) has = kept has (λ h s. let e = s.call_is in cc)
  no_step (call.NegotiateWait handle millis) has = kept has (λ h s. let e = s.call_is in cc)
  no_step (call.EndNegotiate handle verdict) has = kept has (λ h s. let e = s.call_is in cc)
  no_step (call.SendInvalid handle detail) has = kept has (λ h s. let e = s.call_is in cc)
  no_step (call.Poll handle) has = kept has (λ h s. let e = s.call_is in cc)
  no_step (call.Synchronize name loops timeout peer) has = kept has (λ h s. let e = s.call_is in cc)
  no_step (call.ListenSynchronize name value) has = kept has (λ h s. let e = s.call_is in cc)
  no_step (call.StopListenSynchronize name) has = kept has (λ h s. let e = s.call_is in cc)
  no_step (call.Flood name value ttl loops) has = kept has (λ h s. let e = s.call_is in cc)
  no_step (call.GetFlood name) has = kept has (λ h s. let e = s.call_is in cc)
  no_step (call.ExpireFlood name initiator) has = kept has (λ h s. let e = s.call_is in cc)

not_done : (d : DoubterState) (c : Call) (a : ApiAnswer) (x : Sent) → (a ≡ answer.Done → ⊥) → Contains d.offered x → WasSent d c (reply.Api a) x
not_done d c a x other has = kept has (λ h s. other (answer_is s.done)) where
  answer_is : reply.Api a ≡ reply.Api answer.Done → a ≡ answer.Done
  answer_is e = cc

answer_sent : (d : DoubterState) (c : Call) (a : ApiAnswer) (x : Sent) → Contains (after_answer d c a).offered x → WasSent d c (reply.Api a) x
answer_sent d c a x has = other a has where
  other : (a : ApiAnswer) → Contains (after_answer d c a).offered x → WasSent d c (reply.Api a) x
  other (answer.Incoming h from o) has = not_done d c (answer.Incoming h from o) x (λ e. cc) has
  other answer.Done has = done_sent d c x has
  other (answer.Polled y) has = not_done d c (answer.Polled y) x (λ e. cc) (subst (λ ss. Contains ss x) (progress_sent d (polled c) y) has)
  other _ has = kept has (λ h s. let e = s.done in cc)

-- what it keeps then is reserved or in doubt, and was kept or is offered just now
pub saw_sent : (d : DoubterState) (h : Holding) (c : Call) (r : Reply) (x : Sent) → Contains (after_saw d h c r).offered x → IsListed h x.prefix × WasSent d c r x
unfolding after_saw
saw_sent d h c r x has = other r has where
  other : (r : Reply) → Contains (after_saw d h c r).offered x → IsListed h x.prefix × WasSent d c r x
  other (reply.Api a) has =
      let f = filtered (λ (s : Sent). is_set_aside h s.prefix) (after_answer_in d c (Some a)).offered x has in (listed_so h x.prefix f.1, answer_sent d c a x f.0)
  other _ has = let f = filtered (λ (s : Sent). is_set_aside h s.prefix) d.offered x has in (listed_so h x.prefix f.1, kept f.0 (λ h s. let e = s.done in cc))
