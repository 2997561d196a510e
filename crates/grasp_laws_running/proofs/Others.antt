-- The other agents of a running node call under numbers that the node gave them, and these are above 1.
use Rattle.std.proofs.Common.{◌≡◌, ◌≢◌, refl, sym, ap, ◌∙◌, subst, arith, ℕ, zero, suc, ◌+◌, ◌≤◌, ◌==◌, ◌++◌, Bool, true, false, cond, filter, List, [], ◌∷◌, slice_get, Option, Some, None, Result, Ok, Err}
use Rattle.std.proofs.lemmas.Option.{none-some, same_Some}
use Rattle.std.specs.List.{AllByRecursion}
use Rattle.grasp_agent.specs.Announcing.{BeaconState, ReaderState, after_beacon, after_keep, beacon_call, reader_call, registered_beacon, registered_reader, keeping, reads_in}
use Rattle.grasp_agent.specs.Replies.{answer_in, asa_in, is_done}
use Rattle.grasp_agent.specs.declared.beacon.Step.{Step}
use Rattle.grasp_agent.specs.declared.beacon.Step.TheVariants.{Registering, Declaring, Offering, Flooding, Repeating}
use Rattle.grasp_asa.specs.Answers.{after_deregister_asa, after_deregister_objective, after_listen, after_offer, after_register_objective, deregister_asa_answer, deregister_objective_answer, listen_answer, names_of, offer_answer, register_objective_answer}
use Rattle.grasp_asa.specs.Registrations.{Registrations}
use Rattle.grasp_cbor.specs.DataItem.{DataItem}
use Rattle.grasp_laws_agents.proofs.SameRegistered.{adopted_registered, declines_registered, looked_registered, polling_registered, withouts_registered}
use Rattle.grasp_laws_node.proofs.Beginning.{beginnings_end}
use Rattle.grasp_laws_node.proofs.DatagramsAlone.{datagrams_leave}
use Rattle.grasp_laws_node.proofs.Meaning.Registry.{register_asa_means_lem}
use Rattle.grasp_laws_node.proofs.StreamsAlone.{peers_leave}
use Rattle.grasp_laws_node.specs.MeansRegistry.{RegisterAsaFacts}
use Rattle.grasp_laws_running.specs.Others.{IsInRange, IsOthersCall, OthersCallAsOthers}
use Rattle.grasp_model_network.specs.Openings.{answered_seat, opened_seat}
use Rattle.grasp_model_network.specs.Ranges.{IsCall}
use Rattle.grasp_model_network.specs.World.{Seat}
use Rattle.grasp_model_node.specs.Begin.{begin, expired}
use Rattle.grasp_model_node.specs.Declines.{after_declines, declines_of}
use Rattle.grasp_model_node.specs.Draining.{after_drain}
use Rattle.grasp_model_node.specs.FloodCalls.{find_of}
use Rattle.grasp_model_node.specs.Moves.{begin_closing, dial_record, queue_up, with_discoveries, with_draw, with_floods, with_reading, with_registrations, with_sessions}
use Rattle.grasp_model_node.specs.Node.{NodeState}
use Rattle.grasp_model_node.specs.RegistryCalls.{declines_for, with_mark, without_agent, without_objective, without_searches}
use Rattle.grasp_model_node.specs.Step.{Calls, Coming, Drains, MayCall, NodeStep, after_call}
use Rattle.grasp_model_node.specs.declared.plan.NodePlan.{NodePlan}
use Rattle.grasp_agent.specs.Calls.{agent_name, next_call, objective_name}
use Rattle.grasp_agent.specs.Replies.{after_reply}
use Rattle.grasp_node_main.specs.Crew.{beacons_from, crew_of, readers_from}
use Rattle.grasp_node_main.specs.Networks.{NodesOpenAsSeats}
use Rattle.grasp_node_main.specs.Workers.{AreCallsOf, after_turn, next_input}
use Rattle.grasp_node_main.specs.declared.plan.BeaconPlan.{BeaconPlan}
use Rattle.grasp_node_main.specs.declared.worker.Worker.{Worker}
use Rattle.grasp_node_main.specs.declared.worker.Worker.TheVariants.{Manager, Beacon, Reader}
use Rattle.grasp_pool.specs.Functions.{pool_of}
use Rattle.grasp_pool.specs.Holdings.{Holding}
use Rattle.grasp_session.specs.Sessions.{untaken_reply}
use Rattle.grasp_shared.specs.History.{Entry, History, IsLegalHistory, IsStep, own_calls}
use Rattle.grasp_types.specs.declared.call.Call.{Call}
use Rattle.grasp_types.specs.declared.call.Call.TheVariants as call
use Rattle.grasp_types.specs.declared.flood.FloodRead.{FloodRead}
use Rattle.grasp_types.specs.declared.refusal.ApiRefused.{ApiRefused}
use Rattle.grasp_types.specs.declared.reply.ApiAnswer.{ApiAnswer}
use Rattle.grasp_types.specs.declared.reply.Reply.{Reply}
use Rattle.grasp_types.specs.declared.reply.Reply.TheVariants as reply
use Rattle.grasp_types.specs.declared.traffic.Input.{Input}
use Rattle.grasp_types.specs.declared.traffic.Input.TheVariants as input

-- ---- how many agents were ever registered

abbrev made_at : NodeState → ℕ
made_at n = n.registrations.made

abbrev HasSome : NodeState → Type 0
HasSome n = 1 ≤ n.registrations.made

some_still : (n m : NodeState) → m.registrations.made ≡ n.registrations.made → HasSome n → HasSome m
some_still n m e h = subst (λ (k : ℕ). 1 ≤ k) (sym e) h

left_made : (r : Registrations) (asa : ℕ) (x : Result (Unit {0}) ApiRefused) → (after_deregister_asa r asa x).made ≡ r.made
left_made r asa (Ok u) = refl
left_made r asa (Err e) = refl

declared_made : (r : Registrations) (asa : ℕ) (name : List ℕ) (flags : ℕ) (x : Result (Unit {0}) ApiRefused) → (after_register_objective r asa name flags x).made ≡ r.made
declared_made r asa name flags (Ok u) = refl
declared_made r asa name flags (Err e) = refl

dropped_made : (r : Registrations) (asa : ℕ) (name : List ℕ) (x : Result (Unit {0}) ApiRefused) → (after_deregister_objective r asa name x).made ≡ r.made
dropped_made r asa name (Ok u) = refl
dropped_made r asa name (Err e) = refl

marked_made : (r : Registrations) (name : List ℕ) (on : Bool) (x : Result (Unit {0}) ApiRefused) → (after_listen r name on x).made ≡ r.made
marked_made r name on (Ok u) = refl
marked_made r name on (Err e) = refl

offered_made : (r : Registrations) (name : List ℕ) (value : Option DataItem) (x : Result (Unit {0}) ApiRefused) → (after_offer r name value x).made ≡ r.made
offered_made r name value (Ok u) = refl
offered_made r name value (Err e) = refl

abbrev of_made : (x y : Registrations) → x ≡ y → x.made ≡ y.made
of_made x y e = ap (λ (r : Registrations). r.made) e

call_has : (n : NodeState) (asa : ℕ) (c : Call) (a : ApiAnswer) → MayCall n asa c (Ok a) → HasSome n → HasSome (after_call n asa c (Ok a))
unfolding with_registrations with_sessions with_discoveries with_floods with_draw begin_closing dial_record queue_up
call_has n asa (call.RegisterAsa name) a may h =
    let f : RegisterAsaFacts n name a (after_call n asa (call.RegisterAsa name) (Ok a)) = register_asa_means_lem n name a may in
    let e : (after_call n asa (call.RegisterAsa name) (Ok a)).registrations.made ≡ n.registrations.made + 1 = ap made_at f.leads in
    subst (λ (k : ℕ). 1 ≤ k) (sym e) (omega (arith, h))
call_has n asa call.DeregisterAsa a may h =
    some_still n (after_call n asa call.DeregisterAsa (Ok a))
    (of_made _ _ (withouts_registered 64 (without_searches (after_declines (without_agent n asa) (declines_for n.sessions (names_of n.registrations asa))) asa) asa
    ∙ declines_registered (without_agent n asa) (declines_for n.sessions (names_of n.registrations asa))) ∙ left_made n.registrations asa (deregister_asa_answer n.registrations asa)) h
call_has n asa (call.RegisterObjective name flags) a may h =
    some_still n (after_call n asa (call.RegisterObjective name flags) (Ok a)) (declared_made n.registrations asa name flags (register_objective_answer n.registrations asa name flags)) h
call_has n asa (call.DeregisterObjective name) a may h =
    some_still n (after_call n asa (call.DeregisterObjective name) (Ok a))
    (of_made _ _ (declines_registered (without_objective n asa name) (declines_of n.sessions name)) ∙ dropped_made n.registrations asa name (deregister_objective_answer n.registrations asa name)) h
call_has n asa (call.Discover name kind loops timeout) a may h =
    some_still n (after_call n asa (call.Discover name kind loops timeout) (Ok a)) (of_made _ _ (looked_registered n asa name kind loops timeout (find_of n asa name kind))) h
call_has n asa (call.ListenNegotiate name) a may h =
    some_still n (after_call n asa (call.ListenNegotiate name) (Ok a))
    (of_made _ _ (adopted_registered (with_mark n asa name true) asa (untaken_reply n.sessions name)) ∙ marked_made n.registrations name true (listen_answer n.registrations asa name)) h
call_has n asa (call.StopListenNegotiate name) a may h =
    some_still n (after_call n asa (call.StopListenNegotiate name) (Ok a))
    (of_made _ _ (declines_registered (with_mark n asa name false) (declines_of n.sessions name)) ∙ marked_made n.registrations name false (listen_answer n.registrations asa name)) h
call_has n asa (call.Poll handle) a may h = some_still n (after_call n asa (call.Poll handle) (Ok a)) (of_made _ _ (polling_registered n handle a)) h
call_has n asa (call.ListenSynchronize name value) a may h =
    some_still n (after_call n asa (call.ListenSynchronize name value) (Ok a)) (offered_made n.registrations name (Some value) (offer_answer n.registrations asa name)) h
call_has n asa (call.StopListenSynchronize name) a may h =
    some_still n (after_call n asa (call.StopListenSynchronize name) (Ok a)) (offered_made n.registrations name None (offer_answer n.registrations asa name)) h
call_has n asa _ a may h = h

calls_have : (n after : NodeState) (asa : ℕ) (c : Call) (r : Reply) → Calls n asa c r after → HasSome n → HasSome after
calls_have n after asa c (reply.Api a) t h = subst HasSome (sym t.1) (call_has n asa c a t.0 h)
calls_have n after asa c (reply.Refused refused) t h = subst HasSome (sym t.1) h
calls_have n after asa c _ t h = absurd t

drains_have : (n after : NodeState) (max : ℕ) (r : Reply) → Drains n max r after → HasSome n → HasSome after
unfolding after_drain
drains_have n after max (reply.Outputs outputs) d h = subst HasSome (sym d.1) h
drains_have n after max reply.OutOfMemory d h = subst HasSome (sym d.1) h
drains_have n after max _ d h = absurd d

begun_has : (n : NodeState) (now : ℕ) → HasSome n → HasSome (begin n now)
begun_has n now h = some_still n (begin n now) (of_made _ _ (beginnings_end n now).0.registrations) h

step_has : (n after : NodeState) (now : ℕ) (i : Input) (x : Coming) (r : Reply) → NodeStep n now i x r after → HasSome n → HasSome after
step_has n after now (input.Api asa c) x r s h = calls_have (begin n now) after asa c r s.acts (begun_has n now h)
step_has n after now (input.Datagram link from bytes) x r s h = some_still (begin n now) after (of_made _ _ (datagrams_leave n after now link from bytes x r s).registrations) (begun_has n now h)
step_has n after now (input.Opened stream from) x r s h = some_still (begin n now) after (of_made _ _ ((peers_leave n after now stream x r).0 from s).registrations) (begun_has n now h)
step_has n after now (input.Bytes stream bytes) x r s h = some_still (begin n now) after (of_made _ _ ((peers_leave n after now stream x r).1 bytes s).registrations) (begun_has n now h)
step_has n after now (input.Closed stream) x r s h = some_still (begin n now) after (of_made _ _ ((peers_leave n after now stream x r).2 s).registrations) (begun_has n now h)
step_has n after now (input.Drain max) x r s h = drains_have (begin n now) after max r s.acts (begun_has n now h)

-- ---- the numbers that a node gives

-- whoever is registered by this call isn't agent 1
abbrev GivesOthers : Entry → Type 0
GivesOthers e = (asa : ℕ) (name : List ℕ) (number : ℕ) → e.input ≡ input.Api asa (call.RegisterAsa name) → asa_in (answer_in e.reply) ≡ Some number → number ≢ 1

above : (made number : ℕ) → 1 ≤ made → number ≡ made + 1 → number ≢ 1
above made number h e f = omega (arith, h, e, f)

registered : (n after : NodeState) (asa : ℕ) (name : List ℕ) (number : ℕ) (r : Reply) → HasSome n → Calls n asa (call.RegisterAsa name) r after → asa_in (answer_in r) ≡ Some number → number ≢ 1
registered n after asa name number (reply.Api a) h t is =
    let f = register_asa_means_lem n name a t.0 in
    above n.registrations.made number h (same_Some number (n.registrations.made + 1) (sym is ∙ ap (λ (x : ApiAnswer). asa_in (Some x)) f.told))
registered n after asa name number (reply.Refused refused) h t is = absurd (none-some number is)
registered n after asa name number _ h t is = absurd t

gives : (n : NodeState) (e : Entry) (after : NodeState) → IsStep n e after → HasSome n → GivesOthers e
gives n e after s h asa name number is told =
    registered (begin n e.now) after asa name number e.reply (begun_has n e.now h) (subst (λ (i : Input). NodeStep n e.now i s.coming e.reply after) is s.step).acts told

all_give : (es : History) (n to : NodeState) → IsLegalHistory n es to → HasSome n → AllByRecursion GivesOthers es
all_give [] n to legal h = tt
all_give (e ∷ es) n to legal h =
    let s : IsStep n e legal.0 = legal.1 in (gives n e legal.0 s h, all_give es legal.0 to legal.2 (step_has n legal.0 e.now e.input s.coming e.reply s.step h))

kept_if : {A : Type 0} (P : A → Type 0) (x : A) (xs : List A) (b : Bool) → P x → AllByRecursion P xs → AllByRecursion P (cond b (x ∷ xs) xs)
kept_if P x xs true first rest = (first, rest)
kept_if P x xs false first rest = rest

kept_all : {A : Type 0} (P : A → Type 0) (p : A → Bool) (xs : List A) → AllByRecursion P xs → AllByRecursion P (filter p xs)
kept_all P p [] all = tt
kept_all P p (x ∷ xs) all = kept_if P x (filter p xs) (p x) all.0 (kept_all P p xs all.1)

-- the opening calls have registered the agent of prefixes
opened_has : (plan : NodePlan) (h : Holding) → HasSome (opened_seat plan h).core
unfolding answered_seat opened_seat next_call agent_name objective_name after_reply begin expired with_reading with_registrations with_sessions with_discoveries with_floods begin_closing
opened_has plan h = omega arith

-- ---- the agents

-- a beacon or a reader, that isn't agent 1 and whose calls are within their ranges
record IsOtherBeacon (b : BeaconState) : Type 0 where
  number : b.asa ≢ 1
  called : IsCall (call.Flood b.name b.value b.ttl b.loops)

abbrev IsOther : Worker → Type 0
IsOther (Manager m) = ⊥
IsOther (Beacon b) = IsOtherBeacon b
IsOther (Reader r) = r.asa ≢ 1

beacon_calls : (b : BeaconState) → IsOtherBeacon b → IsCall (beacon_call b)
unfolding beacon_call
beacon_calls b h = by_step b.step where
  by_step : (s : Step) → IsCall (beacon_call (record b { step = s }))
  by_step Registering = tt
  by_step Declaring = (h.called.0, omega arith)
  by_step Offering = h.called.1
  by_step Flooding = h.called
  by_step Repeating = h.called.1

reader_calls : (r : ReaderState) → IsCall (reader_call r)
unfolding reader_call
reader_calls r = by_state r.registered where
  by_state : (b : Bool) → IsCall (cond b (call.GetFlood r.name) (reader_call (record r { registered = false })))
  by_state true = tt
  by_state false = tt

worker_calls : (w : Worker) → IsOther w → IsOthersCall (next_input w)
worker_calls (Manager m) h = absurd h
worker_calls (Beacon b) h = (h.number, beacon_calls b h)
worker_calls (Reader r) h = (h, reader_calls r)

numbered : (b : BeaconState) (o : Option ℕ) → ((number : ℕ) → o ≡ Some number → number ≢ 1) → IsOtherBeacon b → IsOtherBeacon (registered_beacon b o)
numbered b None given h = h
numbered b (Some number) given h = record { number = given number refl; called = h.called }

done_or : (b c : BeaconState) (t : Bool) → IsOtherBeacon b → IsOtherBeacon c → IsOtherBeacon (cond t c b)
done_or b c true h k = k
done_or b c false h k = h

beacon_after : (b : BeaconState) (r : Reply) → ((asa : ℕ) (name : List ℕ) (number : ℕ) → input.Api b.asa (beacon_call b) ≡ input.Api asa (call.RegisterAsa name) → asa_in (answer_in r) ≡ Some number → number ≢ 1) → IsOtherBeacon b → IsOtherBeacon (after_beacon b r)
unfolding after_beacon beacon_call
beacon_after b r given h = by_step b.step refl where
  by_step : (s : Step) → b.step ≡ s → IsOtherBeacon (after_beacon (record b { step = s }) r)
  by_step Registering is = numbered (record b { step = Registering }) (asa_in (answer_in r)) (λ number told. given b.asa _ number (ap (λ (s : Step). input.Api b.asa (beacon_call (record b { step = s }))) is) told) (record { number = h.number; called = h.called })
  by_step Declaring is = done_or (record b { step = Declaring }) (record b { step = Offering }) (is_done (answer_in r)) (record { number = h.number; called = h.called }) (record { number = h.number; called = h.called })
  by_step Offering is = done_or (record b { step = Offering }) (record b { step = Flooding }) (is_done (answer_in r)) (record { number = h.number; called = h.called }) (record { number = h.number; called = h.called })
  by_step Flooding is = done_or (record b { step = Flooding }) (record b { step = Repeating }) (is_done (answer_in r)) (record { number = h.number; called = h.called }) (record { number = h.number; called = h.called })
  by_step Repeating is = record { number = h.number; called = h.called }

reader_number : (s : ReaderState) (o : Option ℕ) → ((number : ℕ) → o ≡ Some number → number ≢ 1) → s.asa ≢ 1 → (registered_reader s o).asa ≢ 1
reader_number s None given h = h
reader_number s (Some number) given h = given number refl

reader_keeps : (s : ReaderState) (o : Option (List FloodRead)) → s.asa ≢ 1 → (keeping s o).asa ≢ 1
reader_keeps s None h = h
reader_keeps s (Some reads) h = h

reader_after : (s : ReaderState) (r : Reply) → ((asa : ℕ) (name : List ℕ) (number : ℕ) → input.Api s.asa (reader_call s) ≡ input.Api asa (call.RegisterAsa name) → asa_in (answer_in r) ≡ Some number → number ≢ 1) → s.asa ≢ 1 → (after_keep s r).asa ≢ 1
unfolding after_keep reader_call
reader_after s r given h = by_state s.registered refl where
  by_state : (b : Bool) → s.registered ≡ b → (after_keep (record s { registered = b }) r).asa ≢ 1
  by_state true is = reader_keeps (record s { registered = true }) (reads_in (answer_in r)) h
  by_state false is =
      reader_number (record s { registered = false }) (asa_in (answer_in r))
      (λ number told. given s.asa _ number (ap (λ (b : Bool). input.Api s.asa (reader_call (record s { registered = b }))) is) told) h

abbrev Given : Worker → Reply → Type 0
Given w r = (asa : ℕ) (name : List ℕ) (number : ℕ) → next_input w ≡ input.Api asa (call.RegisterAsa name) → asa_in (answer_in r) ≡ Some number → number ≢ 1

worker_after : (w : Worker) (r : Reply) → Given w r → IsOther w → IsOther (after_turn w r)
worker_after (Manager m) r given h = absurd h
worker_after (Beacon b) r given h = beacon_after b r given h
worker_after (Reader s) r given h = reader_after s r given h

all_call : (es : History) (w : Worker) → IsOther w → AreCallsOf w es → AllByRecursion GivesOthers es → AllByRecursion (λ (e : Entry). IsOthersCall e.input) es
all_call [] w h calls give = tt
all_call (e ∷ es) w h calls give = (
  subst IsOthersCall (sym calls.1) (worker_calls w h),
  all_call es (after_turn w e.reply) (worker_after w e.reply (λ asa name number is told. give.0 asa name number (calls.1 ∙ is) told) h) calls.2 give.1,
)

-- ---- the agents of a plan

unnumbered : (n : ℕ) → n ≡ 0 → n ≢ 1
unnumbered n is one = omega (arith, is, one)

all_beacons : (number : ℕ) (bs : List BeaconPlan) → AllByRecursion IsInRange bs → AllByRecursion IsOther (beacons_from number bs)
all_beacons number [] h = tt
all_beacons number (b ∷ bs) h = (record { number = unnumbered 0 refl; called = (h.0.name, h.0.value, h.0.ttl, h.0.loops) }, all_beacons (number + 1) bs h.1)

all_readers : (number : ℕ) (names : List (List ℕ)) → AllByRecursion IsOther (readers_from number names)
all_readers number [] = tt
all_readers number (name ∷ names) = (unnumbered 0 refl, all_readers (number + 1) names)

all_append : {A : Type 0} (P : A → Type 0) (xs ys : List A) → AllByRecursion P xs → AllByRecursion P ys → AllByRecursion P (xs ++ ys)
all_append P [] ys a b = b
all_append P (x ∷ xs) ys a b = (a.0, all_append P xs ys a.1 b)

at_place : {A : Type 0} (P : A → Type 0) (xs : List A) (i : ℕ) (x : A) → AllByRecursion P xs → slice_get xs i ≡ Some x → P x
at_place P [] i x all e = absurd (none-some x e)
at_place P (y ∷ ys) zero x all e = subst P (same_Some y x e) all.0
at_place P (y ∷ ys) (suc i) x all e = at_place P ys i x all.1 e

pub others_call_as_others : NodesOpenAsSeats → OthersCallAsOthers
others_call_as_others seated plan old new workers ran range place w least there = by_place place least there where
  has : HasSome ran.opened
  has = subst (λ (y : Seat). HasSome y.core) (seated plan.node (pool_of plan.roots) ran.opened ran.opening) (opened_has plan.node (pool_of plan.roots))

  others : AllByRecursion IsOther (beacons_from 1 plan.beacons ++ readers_from 1 plan.readers)
  others = all_append IsOther (beacons_from 1 plan.beacons) (readers_from 1 plan.readers) (all_beacons 1 plan.beacons range) (all_readers 1 plan.readers)

  by_place : (i : ℕ) → 1 ≤ i → slice_get (crew_of plan) i ≡ Some w → AllByRecursion (λ (e : Entry). IsOthersCall e.input) (own_calls (i + 1) ran.history)
  by_place zero low at = absurd (omega (arith, low))
  by_place (suc i) low at =
      all_call (own_calls (suc i + 1) ran.history) w (at_place IsOther (beacons_from 1 plan.beacons ++ readers_from 1 plan.readers) i w others at) (ran.agents (suc i) w at).0
      (kept_all GivesOthers (λ (e : Entry). e.caller == (suc i + 1)) ran.history (all_give ran.history ran.opened ran.to ran.legal has))
