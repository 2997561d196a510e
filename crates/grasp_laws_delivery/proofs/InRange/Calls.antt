-- Each call leaves a node with messages in range.
use Rattle.std.proofs.Common.{◌≡◌, refl, ℕ, ◌≤◌, ◌<◌, ◌^◌, not, length, zero, suc, Bool, true, false, cond, List, [], ◌∷◌, ◌++◌, Option, Some, None, Ok, arith}
use Rattle.std.proofs.lemmas.Bool.{not-false}
use Rattle.grasp_asa.specs.Answers.{after_register_asa, register_asa_answer, after_deregister_asa, deregister_asa_answer, after_register_objective, register_objective_answer, after_deregister_objective, deregister_objective_answer, after_listen, listen_answer, after_offer, offer_answer, names_of}
use Rattle.grasp_cbor.specs.DataItem.{DataItem}
use Rattle.grasp_discovery.specs.Discoveries.{without_asa, after_find, search_from, with_search}
use Rattle.grasp_discovery.specs.Topic.{topic_of}
use Rattle.grasp_discovery.specs.declared.answers.Find.{Find}
use Rattle.grasp_discovery.specs.declared.answers.Find.TheVariants as find
use Rattle.grasp_flood.specs.Flood.{key_of}
use Rattle.grasp_flood.specs.Floods.{after_drop}
use Rattle.grasp_session.specs.Sessions.{after_say, stream_reply, after_remove, after_poll, after_adopt, untaken_reply, untaken_above_reply, owner_reply, start_reply, after_start}
use Rattle.grasp_session.specs.Transcript.{Saying, SayStep, SayWait, SayEnd, SayInvalid}
use Rattle.std.proofs.lemmas.Nat.{and_le_r}
use Rattle.std.specs.Prelude.{IfSome}
use Rattle.grasp_model_network.specs.Ranges.{IsCall}
use Rattle.grasp_session.specs.Sessions.{Sessions, session_at, SessionState}
use Rattle.grasp_session.specs.Transcript.{session_of}
use Rattle.grasp_types.specs.Message.{IsMessage}
use Rattle.grasp_types.specs.Objective.{IsObjective, IsValue, dry_flags}
use Rattle.grasp_types.specs.declared.address.Locator.{Locator}
use Rattle.grasp_types.specs.declared.call.Call.{Call}
use Rattle.grasp_types.specs.declared.call.Call.TheVariants as calls
use Rattle.grasp_types.specs.declared.message.Message.{Message}
use Rattle.grasp_types.specs.declared.objective.Objective.{Objective}
use Rattle.grasp_types.specs.declared.reply.ApiAnswer.{ApiAnswer}
use Rattle.grasp_types.specs.declared.reply.ApiAnswer.TheVariants as answers
use Rattle.grasp_types.specs.declared.session.Handle.{Handle}
use Rattle.grasp_types.specs.declared.session.Kind.{Kind}
use Rattle.grasp_types.specs.declared.session.Kind.TheVariants.{Negotiation, Synchronization}
use Rattle.grasp_wire.specs.Cutter.{no_past}
use Rattle.grasp_wire.specs.Laws.{IsSendable}
use Rattle.grasp_model_node.proofs.Facts.{session_below}
use Rattle.grasp_model_node.specs.Declines.{Declining, unlistened, declined_for, decline_at, next_decline, declines_above, declines_of, may_decline, declined, removed, after_decline, after_declines}
use Rattle.grasp_model_node.specs.Draws.{next_session}
use Rattle.grasp_model_node.specs.FloodCalls.{to_all, discovery_message, find_of, begun, looked, flood_message}
use Rattle.grasp_model_node.specs.Moves.{with_registrations, with_sessions, with_discoveries, with_draw, dial_record}
use Rattle.grasp_model_node.specs.Node.{NodeState}
use Rattle.grasp_model_node.specs.Queue.{all_ways, along, encoding, fits, has_room, send, dial}
use Rattle.grasp_model_node.specs.RegistryCalls.{declines_for, without_objective, without_agent, without_searches, close_stream, without_session, without_sessions, with_mark}
use Rattle.grasp_model_node.specs.SessionCalls.{flags_or, stream_at, act_message, said, said_last, after_polling, with_adopted, begun_by, requested, request_of, negotiated, synchronized}
use Rattle.grasp_model_node.specs.Refusals.{late}
use Rattle.grasp_model_node.specs.Step.{MayCall, after_call}
use Rattle.grasp_model_node.specs.Tests.{sending, owned_flags}
use Rattle.grasp_model_node.specs.Streams.{next_stream}
use Rattle.grasp_model_node.specs.declared.plan.NodePlan.{NodePlan}
use Rattle.grasp_laws_delivery.proofs.InRange.Moves.{IsInRange, one_send, dial_send, along_send, fitting, either, draw_real, registrations_real, sessions_real, discoveries_real, floods_real, queue_real, closing_real, dial_real}
use Rattle.grasp_laws_delivery.proofs.Fine.Registry.{agent_entered, leaving_entered, objective_entered, dropping_entered, listen_entered, offer_entered}
use Rattle.grasp_laws_delivery.proofs.Fine.Said.{IsSaying, message_is}
use Rattle.grasp_laws_delivery.proofs.Fine.Sessions.{AreFine, IsFine, at_fine, start_fine, say_fine, reply_is, poll_fine, remove_fine, adopt_fine}
use Rattle.grasp_laws_delivery.proofs.Fine.Short.{noop_short, wait_short, decline_short, unlistened_is}

-- ---- what a call may send

not_late : (long full : Bool) → late (record { too_long = long; outbox_full = full }) ≡ Ok tt → long ≡ false
not_late true full e = absurd (cc)
not_late false full e = refl

-- a message that isn't too long can be sent
sendable : (plan : NodePlan) (n : NodeState) (m : Message) (count : ℕ) → IsMessage m → n.plan ≡ plan → late (sending n m count) ≡ Ok tt → IsSendable plan.limit m
sendable plan n m count is same e = fitting plan n m is same (not-false (fits n.plan.limit m) (not_late (not (fits n.plan.limit m)) (not (has_room n.queue count)) e))

-- ---- declines

decline_real : (plan : NodePlan) (n : NodeState) (d : Declining) → IsSendable plan.limit d.message → IsInRange plan n → IsInRange plan (after_decline n d)
decline_real plan n d is k =
    let z = after_say n.sessions n.reading d.handle (SayEnd (declined_for unlistened)) in
    closing_real plan (cond (may_decline n d.handle) (declined n d) (removed n d.handle)) d.stream
    (either plan (may_decline n d.handle) (declined n d) (removed n d.handle)
    (queue_real plan (with_sessions n z) (send d.stream d.message ∷ []) (one_send plan.limit d.stream d.message is) (sessions_real plan n z (say_fine n.sessions n.reading d.handle (SayEnd (declined_for unlistened)) unlistened_is k.sessions) k))
    (sessions_real plan n (after_remove n.sessions d.handle) (remove_fine n.sessions d.handle k.sessions) k))

-- each of them can be sent
abbrev AreDeclines : ℕ → List Declining → Type 0
AreDeclines limit [] = Unit {0}
AreDeclines limit (d ∷ ds) = IsSendable limit d.message × AreDeclines limit ds

declines_real : (plan : NodePlan) (n : NodeState) (ds : List Declining) → AreDeclines plan.limit ds → IsInRange plan n → IsInRange plan (after_declines n ds)
unfolding after_declines
declines_real plan n [] are k = k
declines_real plan n (d ∷ ds) are k = declines_real plan (after_decline n d) ds are.1 (decline_real plan n d are.0 k)

above_are : (limit : ℕ) → 2048 ≤ limit → (z : Sessions) → AreFine z → (name : List ℕ) (count above : ℕ) → AreDeclines limit (declines_above z name count above)
unfolding declines_above
above_are limit least z fine name zero above = tt
above_are limit least z fine name (suc count) above = by_handle (untaken_above_reply z name above) (λ number. above_are limit least z fine name count number) where
  by_state : (h : Handle) (o : Option SessionState) (rest : List Declining) → IsFine o → AreDeclines limit rest → AreDeclines limit (decline_at h o rest)
  by_state h None rest f are = are
  by_state h (Some x) rest f are = ((message_is x.view (SayEnd (declined_for unlistened)) f unlistened_is, decline_short (session_of x.view) limit least), are)

  by_handle : (o : Option Handle) → ((number : ℕ) → AreDeclines limit (declines_above z name count number)) → AreDeclines limit (next_decline z (λ number. declines_above z name count number) o)
  by_handle None rest = tt
  by_handle (Some h) rest = by_state h (session_at z h) (declines_above z name count h.number) (at_fine z h fine) (rest h.number)

of_are : (limit : ℕ) → 2048 ≤ limit → (z : Sessions) → AreFine z → (name : List ℕ) → AreDeclines limit (declines_of z name)
of_are limit least z fine name = above_are limit least z fine name 64 0

both_are : (limit : ℕ) (xs ys : List Declining) → AreDeclines limit xs → AreDeclines limit ys → AreDeclines limit (xs ++ ys)
both_are limit [] ys a b = b
both_are limit (x ∷ xs) ys a b = (a.0, both_are limit xs ys a.1 b)

for_are : (limit : ℕ) → 2048 ≤ limit → (z : Sessions) → AreFine z → (names : List (List ℕ)) → AreDeclines limit (declines_for z names)
for_are limit least z fine [] = tt
for_are limit least z fine (name ∷ names) = both_are limit (declines_of z name) (declines_for z names) (of_are limit least z fine name) (for_are limit least z fine names)

-- ---- the registry

close_stream_real : (plan : NodePlan) (n : NodeState) (o : Option ℕ) → IsInRange plan n → IsInRange plan (close_stream n o)
close_stream_real plan n None k = k
close_stream_real plan n (Some stream) k = closing_real plan n stream k

without_session_real : (plan : NodePlan) (n : NodeState) (o : Option Handle) → IsInRange plan n → IsInRange plan (without_session n o)
without_session_real plan n None k = k
without_session_real plan n (Some h) k =
    close_stream_real plan (with_sessions n (after_remove n.sessions h)) (stream_reply n.sessions h) (sessions_real plan n (after_remove n.sessions h) (remove_fine n.sessions h k.sessions) k)

without_sessions_real : (plan : NodePlan) (count : ℕ) (n : NodeState) (asa : ℕ) → IsInRange plan n → IsInRange plan (without_sessions count n asa)
unfolding without_sessions
without_sessions_real plan zero n asa k = k
without_sessions_real plan (suc count) n asa k =
    without_session_real plan (without_sessions count n asa) (owner_reply (without_sessions count n asa).sessions asa) (without_sessions_real plan count n asa k)

mark_real : (plan : NodePlan) (n : NodeState) (asa : ℕ) (name : List ℕ) (on : Bool) → IsInRange plan n → IsInRange plan (with_mark n asa name on)
mark_real plan n asa name on k =
    registrations_real plan n (after_listen n.registrations name on (listen_answer n.registrations asa name)) (listen_entered n.registrations name on (listen_answer n.registrations asa name) k.registrations) k

deregister_asa_real : (plan : NodePlan) (n : NodeState) (asa : ℕ) → 2048 ≤ plan.limit → IsInRange plan n
    → IsInRange plan (without_sessions 64 (without_searches (after_declines (without_agent n asa) (declines_for n.sessions (names_of n.registrations asa))) asa) asa)
deregister_asa_real plan n asa least k =
    let ds = declines_for n.sessions (names_of n.registrations asa) in
    let left = declines_real plan (without_agent n asa) ds (for_are plan.limit least n.sessions k.sessions (names_of n.registrations asa))
    (registrations_real plan n (after_deregister_asa n.registrations asa (deregister_asa_answer n.registrations asa)) (leaving_entered n.registrations asa (deregister_asa_answer n.registrations asa) k.registrations) k) in
    without_sessions_real plan 64 (without_searches (after_declines (without_agent n asa) ds) asa) asa
    (discoveries_real plan (after_declines (without_agent n asa) ds) (without_asa (after_declines (without_agent n asa) ds).discoveries asa) left.cached left)

-- ---- sessions

said_real : (plan : NodePlan) (n : NodeState) (h : Handle) (saying : Saying) → IsSaying saying → IsSendable plan.limit (act_message n h saying) → IsInRange plan n → IsInRange plan (said n h saying)
said_real plan n h saying is fit k =
    let z = after_say n.sessions n.reading h saying in
    queue_real plan (with_sessions n z) (send (stream_at n h) (act_message n h saying) ∷ []) (one_send plan.limit (stream_at n h) (act_message n h saying) fit)
    (sessions_real plan n z (say_fine n.sessions n.reading h saying is k.sessions) k)

act_real : (plan : NodePlan) (n : NodeState) (h : Handle) (saying : Saying) → IsSaying saying → late (sending n (act_message n h saying) 1) ≡ Ok tt → IsInRange plan n → IsInRange plan (said n h saying)
act_real plan n h saying is e k = said_real plan n h saying is (sendable plan n (act_message n h saying) 1 (reply_is n.sessions h saying is k.sessions) k.plan_is e) k

last_real : (plan : NodePlan) (n : NodeState) (h : Handle) (saying : Saying) → IsSaying saying → late (sending n (act_message n h saying) 1) ≡ Ok tt → IsInRange plan n → IsInRange plan (said_last n h saying)
last_real plan n h saying is e k = closing_real plan (said n h saying) (stream_at n h) (act_real plan n h saying is e k)

-- a wait always fits
wait_fits : (n : NodeState) (h : Handle) (millis limit : ℕ) → 2048 ≤ limit → length (encoding (act_message n h (SayWait millis))) ≤ limit
wait_fits n h millis limit least = by_state (session_at n.sessions h) refl where
  by_state : (o : Option SessionState) → session_at n.sessions h ≡ o → length (encoding (act_message n h (SayWait millis))) ≤ limit
  by_state None e = rw e (noop_short limit least)
  by_state (Some x) e = rw e (wait_short (session_of x.view) millis limit least)

wait_real : (plan : NodePlan) (n : NodeState) (h : Handle) (millis : ℕ) → 2048 ≤ plan.limit → millis < 2 ^ 32 → IsInRange plan n → IsInRange plan (said n h (SayWait millis))
wait_real plan n h millis least is k = said_real plan n h (SayWait millis) is (reply_is n.sessions h (SayWait millis) is k.sessions, wait_fits n h millis plan.limit least) k

polling_real : (plan : NodePlan) (n : NodeState) (h : Handle) (a : ApiAnswer) → IsInRange plan n → IsInRange plan (after_polling n h (Ok a))
polling_real plan n h (answers.Polled p) k = sessions_real plan n (after_poll n.sessions h (Ok p)) (poll_fine n.sessions h (Ok p) k.sessions) k
polling_real plan n h a k = k

adopted_real : (plan : NodePlan) (n : NodeState) (asa : ℕ) (o : Option Handle) → IsInRange plan n → IsInRange plan (with_adopted n asa o)
adopted_real plan n asa None k = k
adopted_real plan n asa (Some h) k = sessions_real plan n (after_adopt n.sessions asa h) (adopt_fine n.sessions asa h k.sessions) k

request_is : (kind : Kind) (session : ℕ) (o : Objective) → session < 2 ^ 32 → IsObjective o → IsMessage (request_of kind session o)
request_is Negotiation session o small is = (small, is)
request_is Synchronization session o small is = (small, is)

requested_real : (plan : NodePlan) (n : NodeState) (asa : ℕ) (kind : Kind) (timeout : ℕ) (o : Objective) (peer : Locator) → IsObjective o → late (sending n (request_of kind (next_session n) o) 2) ≡ Ok tt → IsInRange plan n
    → IsInRange plan (requested n asa kind timeout o peer)
requested_real plan n asa kind timeout o peer is e k =
    let z = after_start n.sessions n.reading (begun_by n asa kind timeout o) (start_reply n.sessions) in
    let m = with_draw (with_sessions n z) in
    queue_real plan (dial_record m (Some no_past)) (dial (next_stream n.streams) peer ∷ send (next_stream n.streams) (request_of kind (next_session n) o) ∷ [])
    (dial_send plan.limit (next_stream n.streams) peer (request_of kind (next_session n) o) (sendable plan n (request_of kind (next_session n) o) 2 (request_is kind (next_session n) o (session_below n) is) k.plan_is e))
    (dial_real plan m (Some no_past) (draw_real plan (with_sessions n z) (sessions_real plan n z (start_fine n.sessions n.reading (begun_by n asa kind timeout o) (start_reply n.sessions) (session_below n) is k.sessions) k)))

-- flags with F_NEG_DRY or without are flags
dry_small : (flags : ℕ) (dry : Bool) → dry_flags flags dry ≤ 15
dry_small flags true = let h = and_le_r flags 7 in omega (arith, h)
dry_small flags false = let h = and_le_r flags 7 in omega (arith, h)

-- ---- searches and floods

to_all_real : (plan : NodePlan) (n : NodeState) (m : Message) → IsInRange plan n → IsInRange plan (to_all n m)
to_all_real plan n m k = queue_real plan n (along m (all_ways n.plan.links)) (along_send plan.limit m (all_ways n.plan.links)) k

begun_real : (plan : NodePlan) (n : NodeState) (asa : ℕ) (name : List ℕ) (kind : Kind) (loops timeout : ℕ) → IsInRange plan n → IsInRange plan (begun n asa name kind loops timeout)
begun_real plan n asa name kind loops timeout k =
    let d = with_search n.discoveries (search_from n.reading asa (topic_of name kind) (next_session n) timeout) in
    to_all_real plan (with_draw (with_discoveries n d)) (discovery_message n name kind loops) (draw_real plan (with_discoveries n d) (discoveries_real plan n d k.cached k))

looked_real : (plan : NodePlan) (n : NodeState) (asa : ℕ) (name : List ℕ) (kind : Kind) (loops timeout : ℕ) (f : Find) → IsInRange plan n → IsInRange plan (looked n asa name kind loops timeout f)
looked_real plan n asa name kind loops timeout find.Fresh k = begun_real plan n asa name kind loops timeout k
looked_real plan n asa name kind loops timeout (find.Found locators) k = discoveries_real plan n (after_find n.discoveries asa (topic_of name kind) (find.Found locators)) k.cached k
looked_real plan n asa name kind loops timeout find.NotYet k = discoveries_real plan n (after_find n.discoveries asa (topic_of name kind) find.NotYet) k.cached k
looked_real plan n asa name kind loops timeout find.Nothing k = discoveries_real plan n (after_find n.discoveries asa (topic_of name kind) find.Nothing) k.cached k

-- ---- all calls

offer_real : (plan : NodePlan) (n : NodeState) (asa : ℕ) (name : List ℕ) (value : Option DataItem) → IfSome value IsValue → IsInRange plan n
    → IsInRange plan (with_registrations n (after_offer n.registrations name value (offer_answer n.registrations asa name)))
offer_real plan n asa name value is k =
    registrations_real plan n (after_offer n.registrations name value (offer_answer n.registrations asa name)) (offer_entered n.registrations name value (offer_answer n.registrations asa name) is k.registrations) k

pub answered_real : (plan : NodePlan) (n : NodeState) (asa : ℕ) (call : Call) (a : ApiAnswer) → 2048 ≤ plan.limit → IsCall call → MayCall n asa call (Ok a) → IsInRange plan n → IsInRange plan (after_call n asa call (Ok a))
answered_real plan n asa (calls.RegisterAsa name) a l is may k =
    registrations_real plan n (after_register_asa n.registrations name (register_asa_answer n.registrations name)) (agent_entered n.registrations name (register_asa_answer n.registrations name) k.registrations) k
answered_real plan n asa calls.DeregisterAsa a l is may k = deregister_asa_real plan n asa l k
answered_real plan n asa (calls.RegisterObjective name flags) a l is may k =
    registrations_real plan n (after_register_objective n.registrations asa name flags (register_objective_answer n.registrations asa name flags))
    (objective_entered n.registrations asa name flags (register_objective_answer n.registrations asa name flags) is.1 k.registrations) k
answered_real plan n asa (calls.DeregisterObjective name) a l is may k =
    declines_real plan (without_objective n asa name) (declines_of n.sessions name) (of_are plan.limit l n.sessions k.sessions name)
    (registrations_real plan n (after_deregister_objective n.registrations asa name (deregister_objective_answer n.registrations asa name))
    (dropping_entered n.registrations asa name (deregister_objective_answer n.registrations asa name) k.registrations) k)
answered_real plan n asa (calls.Discover name kind loops timeout) a l is may k = looked_real plan n asa name kind loops timeout (find_of n asa name kind) k
answered_real plan n asa (calls.RequestNegotiate name value loops timeout dry peer) a l is may k =
    requested_real plan n asa Negotiation timeout (negotiated n asa name value loops dry) peer (record { name = is.0; flags = dry_small (flags_or (owned_flags n asa name)) dry; loops = is.2; value = is.1 }) may.1 k
answered_real plan n asa (calls.ListenNegotiate name) a l is may k = adopted_real plan (with_mark n asa name true) asa (untaken_reply n.sessions name) (mark_real plan n asa name true k)
answered_real plan n asa (calls.StopListenNegotiate name) a l is may k =
    declines_real plan (with_mark n asa name false) (declines_of n.sessions name) (of_are plan.limit l n.sessions k.sessions name) (mark_real plan n asa name false k)
answered_real plan n asa (calls.NegotiateStep h value) a l is may k = act_real plan n h (SayStep value) is may.1 k
answered_real plan n asa (calls.NegotiateWait h millis) a l is may k = wait_real plan n h millis l is k
answered_real plan n asa (calls.EndNegotiate h verdict) a l is may k = last_real plan n h (SayEnd verdict) is may.1 k
answered_real plan n asa (calls.SendInvalid h detail) a l is may k = last_real plan n h (SayInvalid detail) is may.1 k
answered_real plan n asa (calls.Poll h) a l is may k = polling_real plan n h a k
answered_real plan n asa (calls.Synchronize name loops timeout peer) a l is may k =
    requested_real plan n asa Synchronization timeout (synchronized n asa name loops) peer (record { name = is.0; flags = dry_small (flags_or (owned_flags n asa name)) false; loops = is.1; value = tt }) may.1 k
answered_real plan n asa (calls.ListenSynchronize name value) a l is may k = offer_real plan n asa name (Some value) is k
answered_real plan n asa (calls.StopListenSynchronize name) a l is may k = offer_real plan n asa name None tt k
answered_real plan n asa (calls.Flood name value ttl loops) a l is may k = to_all_real plan (with_draw n) (flood_message n asa name value ttl loops) (draw_real plan n k)
answered_real plan n asa (calls.GetFlood name) a l is may k = k
answered_real plan n asa (calls.ExpireFlood name initiator) a l is may k = floods_real plan n (after_drop n.floods (key_of name initiator)) k
