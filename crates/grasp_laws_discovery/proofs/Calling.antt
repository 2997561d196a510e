-- Each call of an agent leaves it so: no agent makes a node queue a response, or cache anything.
use Rattle.std.proofs.Common.{◌≡◌, refl, ℕ, zero, suc, Bool, true, false, cond, List, [], ◌∷◌, ◌++◌, Option, Some, None, Ok}
use Rattle.grasp_asa.specs.Answers.{after_register_asa, register_asa_answer, after_deregister_asa, deregister_asa_answer, after_register_objective, register_objective_answer, after_deregister_objective, deregister_objective_answer, after_listen, listen_answer, after_offer, offer_answer, names_of}
use Rattle.grasp_cbor.specs.DataItem.{DataItem}
use Rattle.grasp_discovery.specs.Discoveries.{Discoveries, without_asa, after_find, search_from, with_search}
use Rattle.grasp_discovery.specs.Topic.{topic_of}
use Rattle.grasp_discovery.specs.declared.answers.Find.{Find}
use Rattle.grasp_discovery.specs.declared.answers.Find.TheVariants as find
use Rattle.grasp_discovery.specs.declared.search.Search.{Search}
use Rattle.grasp_flood.specs.Flood.{key_of}
use Rattle.grasp_flood.specs.Floods.{after_drop}
use Rattle.grasp_session.specs.Sessions.{Sessions, SessionState, session_at, say_reply, after_say, stream_reply, after_remove, after_poll, after_adopt, untaken_reply, untaken_above_reply, owner_reply, start_reply, after_start}
use Rattle.grasp_session.specs.Transcript.{Transcript, Saying, SayStep, SayWait, SayEnd, SayInvalid, message_of}
use Rattle.grasp_types.specs.declared.address.Locator.{Locator}
use Rattle.grasp_types.specs.declared.call.Call.{Call}
use Rattle.grasp_types.specs.declared.call.Call.TheVariants as calls
use Rattle.grasp_types.specs.declared.message.Message.{Message}
use Rattle.grasp_types.specs.declared.objective.Objective.{Objective}
use Rattle.grasp_types.specs.declared.reply.ApiAnswer.{ApiAnswer}
use Rattle.grasp_types.specs.declared.reply.ApiAnswer.TheVariants as answers
use Rattle.grasp_types.specs.declared.session.Handle.{Handle}
use Rattle.grasp_types.specs.declared.session.Kind.{Kind}
use Rattle.grasp_types.specs.declared.session.Kind.TheVariants.{Negotiation, Synchronization}
use Rattle.grasp_wire.specs.Cutter.{no_past}
use Rattle.grasp_laws_node.specs.Alone.{IsNoResponse}
use Rattle.grasp_model_node.specs.Declines.{Declining, unlistened, declined_for, decline_at, next_decline, declines_above, declines_of, may_decline, declined, removed, after_decline, after_declines}
use Rattle.grasp_model_node.specs.Draws.{next_session}
use Rattle.grasp_model_node.specs.FloodCalls.{to_all, discovery_message, find_of, begun, looked, flood_message}
use Rattle.grasp_model_node.specs.Moves.{with_registrations, with_sessions, with_discoveries, with_draw, dial_record}
use Rattle.grasp_model_node.specs.Node.{NodeState}
use Rattle.grasp_model_node.specs.Queue.{Queued, all_ways, along, send, dial}
use Rattle.grasp_model_node.specs.RegistryCalls.{declines_for, without_objective, without_agent, without_searches, close_stream, without_session, without_sessions, with_mark}
use Rattle.grasp_model_node.specs.SessionCalls.{stream_at, act_message, said, said_last, after_polling, with_adopted, begun_by, requested, request_of, negotiated, synchronized}
use Rattle.grasp_model_node.specs.Step.{after_call}
use Rattle.grasp_model_node.specs.Streams.{next_stream}
use Rattle.grasp_model_node.specs.declared.plan.NodePlan.{NodePlan}
use Rattle.grasp_laws_discovery.proofs.Keeping.{Silently, Keeps, either_keeps, draw_keeps, registrations_keeps, sessions_keeps, discoveries_keeps, floods_keeps, closing_keeps, dial_keeps, queue_keeps, one_so, along_so, dial_so}

-- other searches leave it so
abbrev pub KeepsSearches : (NodePlan → Discoveries → Type 0) → Type 0
KeepsSearches P = (plan : NodePlan) (d : Discoveries) (xs : List Search) → P plan d → P plan (record d { searches = xs })

module _ (old : List Queued) (Q : Queued → Type 0) (P : NodePlan → Discoveries → Type 0) (silent : Silently Q) (searches : KeepsSearches P) where
  -- what is said in a session is no response
  saying_silent : (v : Transcript) (saying : Saying) → IsNoResponse (message_of v saying)
  saying_silent v (SayStep value) = tt
  saying_silent v _ = tt

  act_silent : (z : Sessions) (h : Handle) (saying : Saying) → IsNoResponse (say_reply z h saying)
  act_silent z h saying = by_state (session_at z h) refl where
    by_state : (o : Option SessionState) → session_at z h ≡ o → IsNoResponse (say_reply z h saying)
    by_state None e = rw e tt
    by_state (Some x) e = rw e (saying_silent x.view saying)

  request_silent : (kind : Kind) (session : ℕ) (o : Objective) → IsNoResponse (request_of kind session o)
  request_silent Negotiation session o = tt
  request_silent Synchronization session o = tt

  -- ---- declines

  decline_keeps : (n : NodeState) (d : Declining) → IsNoResponse d.message → Keeps old Q P n → Keeps old Q P (after_decline n d)
  decline_keeps n d is k =
      let z = after_say n.sessions n.reading d.handle (SayEnd (declined_for unlistened)) in
      closing_keeps old Q P (cond (may_decline n d.handle) (declined n d) (removed n d.handle)) d.stream
      (either_keeps old Q P (may_decline n d.handle) (declined n d) (removed n d.handle)
      (queue_keeps old Q P (with_sessions n z) (send d.stream d.message ∷ []) (one_so old Q P d.stream d.message (silent (send d.stream d.message) is)) (sessions_keeps old Q P n z k))
      (sessions_keeps old Q P n (after_remove n.sessions d.handle) k))

  -- none of them is a response
  abbrev AreDeclines : List Declining → Type 0
  AreDeclines [] = Unit {0}
  AreDeclines (d ∷ ds) = IsNoResponse d.message × AreDeclines ds

  declines_keeps : (n : NodeState) (ds : List Declining) → AreDeclines ds → Keeps old Q P n → Keeps old Q P (after_declines n ds)
  unfolding after_declines
  declines_keeps n [] are k = k
  declines_keeps n (d ∷ ds) are k = declines_keeps (after_decline n d) ds are.1 (decline_keeps n d are.0 k)

  above_are : (z : Sessions) (name : List ℕ) (count above : ℕ) → AreDeclines (declines_above z name count above)
  unfolding declines_above
  above_are z name zero above = tt
  above_are z name (suc count) above = by_handle (untaken_above_reply z name above) (λ number. above_are z name count number) where
    by_state : (h : Handle) (o : Option SessionState) (rest : List Declining) → AreDeclines rest → AreDeclines (decline_at h o rest)
    by_state h None rest are = are
    by_state h (Some x) rest are = (tt, are)

    by_handle : (o : Option Handle) → ((number : ℕ) → AreDeclines (declines_above z name count number)) → AreDeclines (next_decline z (λ number. declines_above z name count number) o)
    by_handle None rest = tt
    by_handle (Some h) rest = by_state h (session_at z h) (declines_above z name count h.number) (rest h.number)

  of_are : (z : Sessions) (name : List ℕ) → AreDeclines (declines_of z name)
  of_are z name = above_are z name 64 0

  both_are : (xs ys : List Declining) → AreDeclines xs → AreDeclines ys → AreDeclines (xs ++ ys)
  both_are [] ys a b = b
  both_are (x ∷ xs) ys a b = (a.0, both_are xs ys a.1 b)

  for_are : (z : Sessions) (names : List (List ℕ)) → AreDeclines (declines_for z names)
  for_are z [] = tt
  for_are z (name ∷ names) = both_are (declines_of z name) (declines_for z names) (of_are z name) (for_are z names)

  -- ---- the registry

  close_stream_keeps : (n : NodeState) (o : Option ℕ) → Keeps old Q P n → Keeps old Q P (close_stream n o)
  close_stream_keeps n None k = k
  close_stream_keeps n (Some stream) k = closing_keeps old Q P n stream k

  without_session_keeps : (n : NodeState) (o : Option Handle) → Keeps old Q P n → Keeps old Q P (without_session n o)
  without_session_keeps n None k = k
  without_session_keeps n (Some h) k =
      close_stream_keeps (with_sessions n (after_remove n.sessions h)) (stream_reply n.sessions h) (sessions_keeps old Q P n (after_remove n.sessions h) k)

  without_sessions_keeps : (count : ℕ) (n : NodeState) (asa : ℕ) → Keeps old Q P n → Keeps old Q P (without_sessions count n asa)
  unfolding without_sessions
  without_sessions_keeps zero n asa k = k
  without_sessions_keeps (suc count) n asa k =
      without_session_keeps (without_sessions count n asa) (owner_reply (without_sessions count n asa).sessions asa) (without_sessions_keeps count n asa k)

  mark_keeps : (n : NodeState) (asa : ℕ) (name : List ℕ) (on : Bool) → Keeps old Q P n → Keeps old Q P (with_mark n asa name on)
  mark_keeps n asa name on k = registrations_keeps old Q P n (after_listen n.registrations name on (listen_answer n.registrations asa name)) k

  deregister_asa_keeps : (n : NodeState) (asa : ℕ) → Keeps old Q P n
      → Keeps old Q P (without_sessions 64 (without_searches (after_declines (without_agent n asa) (declines_for n.sessions (names_of n.registrations asa))) asa) asa)
  deregister_asa_keeps n asa k = from (declines_keeps (without_agent n asa) ds (for_are n.sessions (names_of n.registrations asa)) gone) where
    ds : List Declining
    ds = declines_for n.sessions (names_of n.registrations asa)

    gone : Keeps old Q P (without_agent n asa)
    gone = registrations_keeps old Q P n (after_deregister_asa n.registrations asa (deregister_asa_answer n.registrations asa)) k

    from : Keeps old Q P (after_declines (without_agent n asa) ds) → Keeps old Q P (without_sessions 64 (without_searches (after_declines (without_agent n asa) ds) asa) asa)
    from left =
        without_sessions_keeps 64 (without_searches (after_declines (without_agent n asa) ds) asa) asa
        (discoveries_keeps old Q P (after_declines (without_agent n asa) ds) (without_asa (after_declines (without_agent n asa) ds).discoveries asa)
        (searches (after_declines (without_agent n asa) ds).plan (after_declines (without_agent n asa) ds).discoveries (without_asa (after_declines (without_agent n asa) ds).discoveries asa).searches left.has) left)

  -- ---- sessions

  said_keeps : (n : NodeState) (h : Handle) (saying : Saying) → Keeps old Q P n → Keeps old Q P (said n h saying)
  said_keeps n h saying k =
      let z = after_say n.sessions n.reading h saying in
      queue_keeps old Q P (with_sessions n z) (send (stream_at n h) (act_message n h saying) ∷ []) (one_so old Q P (stream_at n h) (act_message n h saying) (silent (send (stream_at n h) (act_message n h saying)) (act_silent n.sessions h saying)))
      (sessions_keeps old Q P n z k)

  last_keeps : (n : NodeState) (h : Handle) (saying : Saying) → Keeps old Q P n → Keeps old Q P (said_last n h saying)
  last_keeps n h saying k = closing_keeps old Q P (said n h saying) (stream_at n h) (said_keeps n h saying k)

  polling_keeps : (n : NodeState) (h : Handle) (a : ApiAnswer) → Keeps old Q P n → Keeps old Q P (after_polling n h (Ok a))
  polling_keeps n h (answers.Polled p) k = sessions_keeps old Q P n (after_poll n.sessions h (Ok p)) k
  polling_keeps n h a k = k

  adopted_keeps : (n : NodeState) (asa : ℕ) (o : Option Handle) → Keeps old Q P n → Keeps old Q P (with_adopted n asa o)
  adopted_keeps n asa None k = k
  adopted_keeps n asa (Some h) k = sessions_keeps old Q P n (after_adopt n.sessions asa h) k

  requested_keeps : (n : NodeState) (asa : ℕ) (kind : Kind) (timeout : ℕ) (o : Objective) (peer : Locator) → Keeps old Q P n → Keeps old Q P (requested n asa kind timeout o peer)
  requested_keeps n asa kind timeout o peer k =
      let z = after_start n.sessions n.reading (begun_by n asa kind timeout o) (start_reply n.sessions) in
      let m = with_draw (with_sessions n z) in
      queue_keeps old Q P (dial_record m (Some no_past)) (dial (next_stream n.streams) peer ∷ send (next_stream n.streams) (request_of kind (next_session n) o) ∷ [])
      (dial_so old Q P silent (next_stream n.streams) peer (request_of kind (next_session n) o) (silent (send (next_stream n.streams) (request_of kind (next_session n) o)) (request_silent kind (next_session n) o)))
      (dial_keeps old Q P m (Some no_past) (draw_keeps old Q P (with_sessions n z) (sessions_keeps old Q P n z k)))

  -- ---- searches and floods

  to_all_keeps : (n : NodeState) (m : Message) → Keeps old Q P n → Keeps old Q P (to_all n m)
  to_all_keeps n m k = queue_keeps old Q P n (along m (all_ways n.plan.links)) (along_so old Q P silent m (all_ways n.plan.links)) k

  begun_keeps : (n : NodeState) (asa : ℕ) (name : List ℕ) (kind : Kind) (loops timeout : ℕ) → Keeps old Q P n → Keeps old Q P (begun n asa name kind loops timeout)
  begun_keeps n asa name kind loops timeout k =
      let d = with_search n.discoveries (search_from n.reading asa (topic_of name kind) (next_session n) timeout) in
      to_all_keeps (with_draw (with_discoveries n d)) (discovery_message n name kind loops) (draw_keeps old Q P (with_discoveries n d) (discoveries_keeps old Q P n d (searches n.plan n.discoveries d.searches k.has) k))

  looked_keeps : (n : NodeState) (asa : ℕ) (name : List ℕ) (kind : Kind) (loops timeout : ℕ) (f : Find) → Keeps old Q P n → Keeps old Q P (looked n asa name kind loops timeout f)
  looked_keeps n asa name kind loops timeout find.Fresh k = begun_keeps n asa name kind loops timeout k
  looked_keeps n asa name kind loops timeout (find.Found locators) k = discoveries_keeps old Q P n (after_find n.discoveries asa (topic_of name kind) (find.Found locators)) (searches n.plan n.discoveries (after_find n.discoveries asa (topic_of name kind) (find.Found locators)).searches k.has) k
  looked_keeps n asa name kind loops timeout find.NotYet k = discoveries_keeps old Q P n (after_find n.discoveries asa (topic_of name kind) find.NotYet) k.has k
  looked_keeps n asa name kind loops timeout find.Nothing k = discoveries_keeps old Q P n (after_find n.discoveries asa (topic_of name kind) find.Nothing) (searches n.plan n.discoveries (after_find n.discoveries asa (topic_of name kind) find.Nothing).searches k.has) k

  -- ---- all calls

  offer_keeps : (n : NodeState) (asa : ℕ) (name : List ℕ) (value : Option DataItem) → Keeps old Q P n
      → Keeps old Q P (with_registrations n (after_offer n.registrations name value (offer_answer n.registrations asa name)))
  offer_keeps n asa name value k = registrations_keeps old Q P n (after_offer n.registrations name value (offer_answer n.registrations asa name)) k

  pub call_keeps : (n : NodeState) (asa : ℕ) (call : Call) (a : ApiAnswer) → Keeps old Q P n → Keeps old Q P (after_call n asa call (Ok a))
  call_keeps n asa (calls.RegisterAsa name) a k = registrations_keeps old Q P n (after_register_asa n.registrations name (register_asa_answer n.registrations name)) k
  call_keeps n asa calls.DeregisterAsa a k = deregister_asa_keeps n asa k
  call_keeps n asa (calls.RegisterObjective name flags) a k =
      registrations_keeps old Q P n (after_register_objective n.registrations asa name flags (register_objective_answer n.registrations asa name flags)) k
  call_keeps n asa (calls.DeregisterObjective name) a k =
      declines_keeps (without_objective n asa name) (declines_of n.sessions name) (of_are n.sessions name)
      (registrations_keeps old Q P n (after_deregister_objective n.registrations asa name (deregister_objective_answer n.registrations asa name)) k)
  call_keeps n asa (calls.Discover name kind loops timeout) a k = looked_keeps n asa name kind loops timeout (find_of n asa name kind) k
  call_keeps n asa (calls.RequestNegotiate name value loops timeout dry peer) a k = requested_keeps n asa Negotiation timeout (negotiated n asa name value loops dry) peer k
  call_keeps n asa (calls.ListenNegotiate name) a k = adopted_keeps (with_mark n asa name true) asa (untaken_reply n.sessions name) (mark_keeps n asa name true k)
  call_keeps n asa (calls.StopListenNegotiate name) a k = declines_keeps (with_mark n asa name false) (declines_of n.sessions name) (of_are n.sessions name) (mark_keeps n asa name false k)
  call_keeps n asa (calls.NegotiateStep h value) a k = said_keeps n h (SayStep value) k
  call_keeps n asa (calls.NegotiateWait h millis) a k = said_keeps n h (SayWait millis) k
  call_keeps n asa (calls.EndNegotiate h verdict) a k = last_keeps n h (SayEnd verdict) k
  call_keeps n asa (calls.SendInvalid h detail) a k = last_keeps n h (SayInvalid detail) k
  call_keeps n asa (calls.Poll h) a k = polling_keeps n h a k
  call_keeps n asa (calls.Synchronize name loops timeout peer) a k = requested_keeps n asa Synchronization timeout (synchronized n asa name loops) peer k
  call_keeps n asa (calls.ListenSynchronize name value) a k = offer_keeps n asa name (Some value) k
  call_keeps n asa (calls.StopListenSynchronize name) a k = offer_keeps n asa name None k
  call_keeps n asa (calls.Flood name value ttl loops) a k = to_all_keeps (with_draw n) (flood_message n asa name value ttl loops) (draw_keeps old Q P n k)
  call_keeps n asa (calls.GetFlood name) a k = k
  call_keeps n asa (calls.ExpireFlood name initiator) a k = floods_keeps old Q P n (after_drop n.floods (key_of name initiator)) k
