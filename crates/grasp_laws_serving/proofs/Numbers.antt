-- The numbers that a node gives agents once one is registered: none of them is 1.
use Rattle.std.proofs.Common.{◌≡◌, ◌≢◌, refl, sym, ap, ◌∙◌, subst, arith, ℕ, ◌+◌, ◌≤◌, List, [], ◌∷◌, Option, Some, None, Result, Ok, Err, Bool, true, false, cond}
use Rattle.std.proofs.lemmas.Option.{none-some, same_Some}
use Rattle.std.specs.List.{AllByRecursion}
use Rattle.grasp_agent.specs.Calls.{agent_name, next_call, objective_name}
use Rattle.grasp_agent.specs.Replies.{after_reply, answer_in, asa_in}
use Rattle.grasp_asa.specs.Answers.{after_deregister_asa, after_deregister_objective, after_listen, after_offer, after_register_objective, deregister_asa_answer, deregister_objective_answer, listen_answer, names_of, offer_answer, register_objective_answer}
use Rattle.grasp_asa.specs.Registrations.{Registrations}
use Rattle.grasp_cbor.specs.DataItem.{DataItem}
use Rattle.grasp_discovery.specs.declared.answers.Find.{Find}
use Rattle.grasp_discovery.specs.declared.answers.Find.TheVariants as find
use Rattle.grasp_laws_agents.proofs.SameRegistered.{adopted_registered, declines_registered, looked_registered, polling_registered, withouts_registered}
use Rattle.grasp_laws_node.proofs.Beginning.{beginnings_end}
use Rattle.grasp_laws_node.proofs.DatagramsAlone.{datagrams_leave}
use Rattle.grasp_laws_node.proofs.Meaning.Registry.{register_asa_means_lem}
use Rattle.grasp_laws_node.proofs.StreamsAlone.{peers_leave}
use Rattle.grasp_laws_node.specs.MeansRegistry.{RegisterAsaFacts}
use Rattle.grasp_model_network.specs.Openings.{answered_seat, opened_seat}
use Rattle.grasp_model_node.specs.Begin.{begin, expired}
use Rattle.grasp_model_node.specs.Declines.{after_declines, declines_of}
use Rattle.grasp_model_node.specs.Draining.{after_drain}
use Rattle.grasp_model_node.specs.FloodCalls.{find_of, found_as}
use Rattle.grasp_model_node.specs.Moves.{begin_closing, dial_record, queue_up, with_discoveries, with_draw, with_floods, with_reading, with_registrations, with_sessions}
use Rattle.grasp_model_node.specs.Node.{NodeState}
use Rattle.grasp_model_node.specs.Opening.{MayOpen, is_ignored}
use Rattle.grasp_model_node.specs.RegistryCalls.{declines_for, with_mark, without_agent, without_objective, without_searches}
use Rattle.grasp_model_node.specs.SessionCalls.{incoming, opener_at, polled, started, taken_in}
use Rattle.grasp_model_node.specs.Step.{Acts, Calls, Coming, Drains, MayCall, NodeStep, TakesBytes, TakesDatagram, after_call}
use Rattle.grasp_model_node.specs.Streams.{is_full}
use Rattle.grasp_model_node.specs.declared.plan.NodePlan.{NodePlan}
use Rattle.grasp_pool.specs.Holdings.{Holding}
use Rattle.grasp_session.specs.Sessions.{adopt_reply, poll_reply, start_reply, untaken_reply}
use Rattle.grasp_session.specs.declared.answer.SessionRefused.{SessionRefused}
use Rattle.grasp_shared.specs.History.{Entry, History, IsLegalHistory, IsStep}
use Rattle.grasp_types.specs.declared.call.Call.{Call}
use Rattle.grasp_types.specs.declared.call.Call.TheVariants as call
use Rattle.grasp_types.specs.declared.refusal.ApiRefused.{ApiRefused}
use Rattle.grasp_types.specs.declared.reply.ApiAnswer.{ApiAnswer}
use Rattle.grasp_types.specs.declared.reply.ApiAnswer.TheVariants as answer
use Rattle.grasp_types.specs.declared.reply.Reply.{Reply}
use Rattle.grasp_types.specs.declared.reply.Reply.TheVariants as reply
use Rattle.grasp_types.specs.declared.session.Handle.{Handle}
use Rattle.grasp_types.specs.declared.session.Progress.{Progress}
use Rattle.grasp_types.specs.declared.address.Address.{Address}
use Rattle.grasp_types.specs.declared.objective.Objective.{Objective}
use Rattle.grasp_types.specs.declared.traffic.Input.{Input}
use Rattle.grasp_types.specs.declared.traffic.Input.TheVariants as input

-- ---- how many agents were ever registered

abbrev made_at : NodeState → ℕ
made_at n = n.registrations.made

abbrev pub HasSome : NodeState → Type 0
HasSome n = 1 ≤ n.registrations.made

some_still : (n m : NodeState) → m.registrations.made ≡ n.registrations.made → HasSome n → HasSome m
some_still n m e h = subst (λ (k : ℕ). 1 ≤ k) (sym e) h

left_made : (r : Registrations) (asa : ℕ) (x : Result (Unit {0}) ApiRefused) → (after_deregister_asa r asa x).made ≡ r.made
left_made r asa (Ok u) = refl
left_made r asa (Err e) = refl

declared_made : (r : Registrations) (asa : ℕ) (name : List ℕ) (flags : ℕ) (x : Result (Unit {0}) ApiRefused) → (after_register_objective r asa name flags x).made ≡ r.made
declared_made r asa name flags (Ok u) = refl
declared_made r asa name flags (Err e) = refl

dropped_made : (r : Registrations) (asa : ℕ) (name : List ℕ) (x : Result (Unit {0}) ApiRefused) → (after_deregister_objective r asa name x).made ≡ r.made
dropped_made r asa name (Ok u) = refl
dropped_made r asa name (Err e) = refl

marked_made : (r : Registrations) (name : List ℕ) (on : Bool) (x : Result (Unit {0}) ApiRefused) → (after_listen r name on x).made ≡ r.made
marked_made r name on (Ok u) = refl
marked_made r name on (Err e) = refl

offered_made : (r : Registrations) (name : List ℕ) (value : Option DataItem) (x : Result (Unit {0}) ApiRefused) → (after_offer r name value x).made ≡ r.made
offered_made r name value (Ok u) = refl
offered_made r name value (Err e) = refl

abbrev of_made : (x y : Registrations) → x ≡ y → x.made ≡ y.made
of_made x y e = ap (λ (r : Registrations). r.made) e

call_has : (n : NodeState) (asa : ℕ) (c : Call) (a : ApiAnswer) → MayCall n asa c (Ok a) → HasSome n → HasSome (after_call n asa c (Ok a))
unfolding with_registrations with_sessions with_discoveries with_floods with_draw begin_closing dial_record queue_up
call_has n asa (call.RegisterAsa name) a may h =
    let f : RegisterAsaFacts n name a (after_call n asa (call.RegisterAsa name) (Ok a)) = register_asa_means_lem n name a may in
    let e : (after_call n asa (call.RegisterAsa name) (Ok a)).registrations.made ≡ n.registrations.made + 1 = ap made_at f.leads in
    subst (λ (k : ℕ). 1 ≤ k) (sym e) (omega (arith, h))
call_has n asa call.DeregisterAsa a may h =
    some_still n (after_call n asa call.DeregisterAsa (Ok a))
    (of_made _ _ (withouts_registered 64 (without_searches (after_declines (without_agent n asa) (declines_for n.sessions (names_of n.registrations asa))) asa) asa
    ∙ declines_registered (without_agent n asa) (declines_for n.sessions (names_of n.registrations asa))) ∙ left_made n.registrations asa (deregister_asa_answer n.registrations asa)) h
call_has n asa (call.RegisterObjective name flags) a may h =
    some_still n (after_call n asa (call.RegisterObjective name flags) (Ok a)) (declared_made n.registrations asa name flags (register_objective_answer n.registrations asa name flags)) h
call_has n asa (call.DeregisterObjective name) a may h =
    some_still n (after_call n asa (call.DeregisterObjective name) (Ok a))
    (of_made _ _ (declines_registered (without_objective n asa name) (declines_of n.sessions name)) ∙ dropped_made n.registrations asa name (deregister_objective_answer n.registrations asa name)) h
call_has n asa (call.Discover name kind loops timeout) a may h =
    some_still n (after_call n asa (call.Discover name kind loops timeout) (Ok a)) (of_made _ _ (looked_registered n asa name kind loops timeout (find_of n asa name kind))) h
call_has n asa (call.ListenNegotiate name) a may h =
    some_still n (after_call n asa (call.ListenNegotiate name) (Ok a))
    (of_made _ _ (adopted_registered (with_mark n asa name true) asa (untaken_reply n.sessions name)) ∙ marked_made n.registrations name true (listen_answer n.registrations asa name)) h
call_has n asa (call.StopListenNegotiate name) a may h =
    some_still n (after_call n asa (call.StopListenNegotiate name) (Ok a))
    (of_made _ _ (declines_registered (with_mark n asa name false) (declines_of n.sessions name)) ∙ marked_made n.registrations name false (listen_answer n.registrations asa name)) h
call_has n asa (call.Poll handle) a may h = some_still n (after_call n asa (call.Poll handle) (Ok a)) (of_made _ _ (polling_registered n handle a)) h
call_has n asa (call.ListenSynchronize name value) a may h =
    some_still n (after_call n asa (call.ListenSynchronize name value) (Ok a)) (offered_made n.registrations name (Some value) (offer_answer n.registrations asa name)) h
call_has n asa (call.StopListenSynchronize name) a may h =
    some_still n (after_call n asa (call.StopListenSynchronize name) (Ok a)) (offered_made n.registrations name None (offer_answer n.registrations asa name)) h
call_has n asa _ a may h = h

calls_have : (n after : NodeState) (asa : ℕ) (c : Call) (r : Reply) → Calls n asa c r after → HasSome n → HasSome after
calls_have n after asa c (reply.Api a) t h = subst HasSome (sym t.1) (call_has n asa c a t.0 h)
calls_have n after asa c (reply.Refused refused) t h = subst HasSome (sym t.1) h
calls_have n after asa c _ t h = absurd t

drains_have : (n after : NodeState) (max : ℕ) (r : Reply) → Drains n max r after → HasSome n → HasSome after
unfolding after_drain
drains_have n after max (reply.Outputs outputs) d h = subst HasSome (sym d.1) h
drains_have n after max reply.OutOfMemory d h = subst HasSome (sym d.1) h
drains_have n after max _ d h = absurd d

begun_has : (n : NodeState) (now : ℕ) → HasSome n → HasSome (begin n now)
begun_has n now h = some_still n (begin n now) (of_made _ _ (beginnings_end n now).0.registrations) h

step_has : (n after : NodeState) (now : ℕ) (i : Input) (x : Coming) (r : Reply) → NodeStep n now i x r after → HasSome n → HasSome after
step_has n after now (input.Api asa c) x r s h = calls_have (begin n now) after asa c r s.acts (begun_has n now h)
step_has n after now (input.Datagram link from bytes) x r s h = some_still (begin n now) after (of_made _ _ (datagrams_leave n after now link from bytes x r s).registrations) (begun_has n now h)
step_has n after now (input.Opened stream from) x r s h = some_still (begin n now) after (of_made _ _ ((peers_leave n after now stream x r).0 from s).registrations) (begun_has n now h)
step_has n after now (input.Bytes stream bytes) x r s h = some_still (begin n now) after (of_made _ _ ((peers_leave n after now stream x r).1 bytes s).registrations) (begun_has n now h)
step_has n after now (input.Closed stream) x r s h = some_still (begin n now) after (of_made _ _ ((peers_leave n after now stream x r).2 s).registrations) (begun_has n now h)
step_has n after now (input.Drain max) x r s h = drains_have (begin n now) after max r s.acts (begun_has n now h)

-- the opening calls have registered the agent of prefixes
pub opened_has : (plan : NodePlan) (h : Holding) → HasSome (opened_seat plan h).core
unfolding answered_seat opened_seat next_call agent_name objective_name after_reply begin expired with_reading with_registrations with_sessions with_discoveries with_floods begin_closing
opened_has plan h = omega arith

-- ---- the numbers that a node gives

-- whoever is registered by this reply isn't agent 1
abbrev pub GivesOthers : Reply → Type 0
GivesOthers r = (number : ℕ) → asa_in (answer_in r) ≡ Some number → number ≢ 1

above : (made number : ℕ) → 1 ≤ made → number ≡ made + 1 → number ≢ 1
above made number h e f = omega (arith, h, e, f)

-- such an answer gives no number
none_given : (a b : ApiAnswer) → a ≡ b → asa_in (Some b) ≡ None → (number : ℕ) → asa_in (Some a) ≡ Some number → number ≢ 1
none_given a b is none number told = absurd (none-some number (sym none ∙ (ap (λ (x : ApiAnswer). asa_in (Some x)) (sym is) ∙ told)))

found_none : (f : Find) → asa_in (Some (found_as f)) ≡ None
found_none (find.Found locators) = refl
found_none find.NotYet = refl
found_none find.Nothing = refl
found_none find.Fresh = refl

started_none : (x : Result Handle SessionRefused) → asa_in (Some (started x)) ≡ None
started_none (Ok h) = refl
started_none (Err e) = refl

polled_none : (x : Result Progress SessionRefused) → asa_in (Some (polled x)) ≡ None
polled_none (Ok p) = refl
polled_none (Err e) = refl

incoming_none : (h : Handle) (from : Address) (o : Option Objective) → asa_in (Some (incoming h from o)) ≡ None
incoming_none h from None = refl
incoming_none h from (Some o) = refl

taken_none : (n : NodeState) (o : Option Handle) → asa_in (Some (taken_in n o)) ≡ None
taken_none n None = refl
taken_none n (Some h) = incoming_none h (opener_at n h) (adopt_reply n.sessions h)

answers_give : (n : NodeState) (asa : ℕ) (c : Call) (a : ApiAnswer) → HasSome n → MayCall n asa c (Ok a) → GivesOthers (reply.Api a)
answers_give n asa (call.RegisterAsa name) a h t =
    λ number told. above n.registrations.made number h (same_Some number (n.registrations.made + 1) (sym told ∙ ap (λ (x : ApiAnswer). asa_in (Some x)) t.2))
answers_give n asa call.DeregisterAsa a h t = none_given a answer.Done t.2 refl
answers_give n asa (call.RegisterObjective name flags) a h t = none_given a answer.Done t.2 refl
answers_give n asa (call.DeregisterObjective name) a h t = none_given a answer.Done t.2 refl
answers_give n asa (call.Discover name kind loops timeout) a h t = none_given a _ t.2 (found_none (find_of n asa name kind))
answers_give n asa (call.RequestNegotiate name value loops timeout dry peer) a h t = none_given a _ t.2 (started_none (start_reply n.sessions))
answers_give n asa (call.ListenNegotiate name) a h t = none_given a _ t.2 (taken_none n (untaken_reply n.sessions name))
answers_give n asa (call.StopListenNegotiate name) a h t = none_given a answer.Done t.2 refl
answers_give n asa (call.NegotiateStep handle value) a h t = none_given a answer.Done t.2 refl
answers_give n asa (call.NegotiateWait handle millis) a h t = none_given a answer.Done t.2 refl
answers_give n asa (call.EndNegotiate handle verdict) a h t = none_given a answer.Done t.2 refl
answers_give n asa (call.SendInvalid handle detail) a h t = none_given a answer.Done t.2 refl
answers_give n asa (call.Poll handle) a h t = none_given a _ t.2 (polled_none (poll_reply n.sessions asa handle))
answers_give n asa (call.Synchronize name loops timeout peer) a h t = none_given a _ t.2 (started_none (start_reply n.sessions))
answers_give n asa (call.ListenSynchronize name value) a h t = none_given a answer.Done t.2 refl
answers_give n asa (call.StopListenSynchronize name) a h t = none_given a answer.Done t.2 refl
answers_give n asa (call.Flood name value ttl loops) a h t = none_given a answer.Done t.2 refl
answers_give n asa (call.GetFlood name) a h t = none_given a _ t.2 refl
answers_give n asa (call.ExpireFlood name initiator) a h t = none_given a answer.Done t.2 refl

-- no reply that isn't an answer gives a number
other_gives : (r : Reply) → answer_in r ≡ None → GivesOthers r
other_gives r e number told = absurd (none-some number (ap asa_in (sym e) ∙ told))

calls_give : (n after : NodeState) (asa : ℕ) (c : Call) (r : Reply) → HasSome n → Calls n asa c r after → GivesOthers r
calls_give n after asa c (reply.Api a) h t = answers_give n asa c a h t.0
calls_give n after asa c (reply.Refused refused) h t = other_gives (reply.Refused refused) refl
calls_give n after asa c _ h t = absurd t

takes_give : (n after : NodeState) (link from : ℕ) (x : Coming) (r : Reply) → TakesDatagram n link from x r after → GivesOthers r
takes_give n after link from x reply.Taken t = other_gives reply.Taken refl
takes_give n after link from x reply.OutOfMemory t = other_gives reply.OutOfMemory refl
takes_give n after link from x _ t = absurd t

bytes_give : (n after : NodeState) (stream : ℕ) (bytes : List ℕ) (x : Coming) (r : Reply) → TakesBytes n stream bytes x r after → GivesOthers r
bytes_give n after stream bytes x reply.Taken t = other_gives reply.Taken refl
bytes_give n after stream bytes x reply.OutOfMemory t = other_gives reply.OutOfMemory refl
bytes_give n after stream bytes x _ t = absurd t

drains_give : (n after : NodeState) (max : ℕ) (r : Reply) → Drains n max r after → GivesOthers r
drains_give n after max (reply.Outputs outputs) t = other_gives (reply.Outputs outputs) refl
drains_give n after max reply.OutOfMemory t = other_gives reply.OutOfMemory refl
drains_give n after max _ t = absurd t

opened_none : (ignored full : Bool) → answer_in (cond ignored reply.Taken (cond full reply.Turned reply.Taken)) ≡ None
opened_none true full = refl
opened_none false true = refl
opened_none false false = refl

opens_give : (n : NodeState) (stream : ℕ) (r : Reply) → MayOpen n stream r → GivesOthers r
opens_give n stream (reply.Api a) t = absurd (none-some a (sym (opened_none (is_ignored n stream) (is_full n.streams)) ∙ sym (ap answer_in t)))
opens_give n stream (reply.Refused refused) t = other_gives (reply.Refused refused) refl
opens_give n stream (reply.Outputs outputs) t = other_gives (reply.Outputs outputs) refl
opens_give n stream reply.Taken t = other_gives reply.Taken refl
opens_give n stream reply.Turned t = other_gives reply.Turned refl
opens_give n stream reply.OutOfMemory t = other_gives reply.OutOfMemory refl

acts_give : (n after : NodeState) (i : Input) (x : Coming) (r : Reply) → HasSome n → Acts n i x r after → GivesOthers r
acts_give n after (input.Api asa c) x r h t = calls_give n after asa c r h t
acts_give n after (input.Datagram link from bytes) x r h t = takes_give n after link from x r t
acts_give n after (input.Opened stream from) x r h t = opens_give n stream r t.0
acts_give n after (input.Bytes stream bytes) x r h t = bytes_give n after stream bytes x r t
acts_give n after (input.Closed stream) x r h t = other_gives r (ap answer_in t.0)
acts_give n after (input.Drain max) x r h t = drains_give n after max r t

pub all_give : (es : History) (n to : NodeState) → IsLegalHistory n es to → HasSome n → AllByRecursion (λ (e : Entry). GivesOthers e.reply) es
all_give [] n to legal h = tt
all_give (e ∷ es) n to legal h =
    let s : IsStep n e legal.0 = legal.1 in (
      acts_give (begin n e.now) legal.0 e.input s.coming e.reply (begun_has n e.now h) s.step.acts,
      all_give es legal.0 to legal.2 (step_has n legal.0 e.now e.input s.coming e.reply s.step h),
    )
