-- What a call of an agent does on each stream.
use Rattle.std.proofs.Common.{◌≡◌, ℕ, true, false, List, Option, None, Some, Ok, refl}
use Rattle.grasp_asa.specs.Answers.{after_register_asa, register_asa_answer, after_deregister_asa, deregister_asa_answer, after_register_objective, register_objective_answer, after_deregister_objective, deregister_objective_answer, after_listen, listen_answer, after_offer, offer_answer, names_of}
use Rattle.grasp_discovery.specs.Discoveries.{without_asa, after_find, search_from, with_search}
use Rattle.grasp_discovery.specs.Topic.{topic_of}
use Rattle.grasp_discovery.specs.declared.answers.Find.{Find}
use Rattle.grasp_discovery.specs.declared.answers.Find.TheVariants as find
use Rattle.grasp_flood.specs.Flood.{key_of}
use Rattle.grasp_flood.specs.Floods.{after_drop}
use Rattle.grasp_laws_node.proofs.Addressed.Acts.{act_checked}
use Rattle.grasp_laws_session.proofs.Runs.{calls_in_order}
use Rattle.grasp_session.specs.Runs.{Reached}
use Rattle.grasp_session.specs.Sessions.{session_at, after_poll, after_adopt, untaken_reply}
use Rattle.grasp_session.specs.Transcript.{Saying, SayStep, SayWait, SayEnd, SayInvalid, act_of}
use Rattle.grasp_types.specs.declared.call.Call.{Call}
use Rattle.grasp_types.specs.declared.call.Call.TheVariants as calls
use Rattle.grasp_types.specs.declared.message.Message.{Message}
use Rattle.grasp_types.specs.declared.reply.ApiAnswer.{ApiAnswer}
use Rattle.grasp_types.specs.declared.reply.ApiAnswer.TheVariants as answers
use Rattle.grasp_types.specs.declared.session.Handle.{Handle}
use Rattle.grasp_types.specs.declared.session.Kind.{Kind}
use Rattle.grasp_types.specs.declared.session.Kind.TheVariants.{Negotiation, Synchronization}
use Rattle.grasp_types.specs.declared.session.Progress.{Progress}
use Rattle.grasp_types.specs.declared.session.Progress.TheVariants as progress
use Rattle.grasp_types.specs.declared.traffic.Input.TheVariants as input
use Rattle.grasp_model_node.specs.Declines.{Declining, declines_of, after_declines}
use Rattle.grasp_model_node.specs.Draws.{next_session}
use Rattle.grasp_model_node.specs.FloodCalls.{to_all, discovery_message, find_of, looked, flood_message}
use Rattle.grasp_model_node.specs.Moves.{with_registrations, with_sessions, with_discoveries, with_draw, queue_up}
use Rattle.grasp_model_node.specs.Node.{NodeState}
use Rattle.grasp_model_node.specs.Queue.{all_ways, along}
use Rattle.grasp_model_node.specs.RegistryCalls.{declines_for, without_objective, without_agent, without_searches, without_sessions, with_mark}
use Rattle.grasp_model_node.specs.Refusals.{early}
use Rattle.grasp_model_node.specs.SessionCalls.{stream_at, said, said_last, after_polling, with_adopted, negotiated, synchronized}
use Rattle.grasp_model_node.specs.BoundedNodes.{IsBoundedNode}
use Rattle.grasp_model_node.specs.Step.{Coming, MayCall, after_call}
use Rattle.grasp_model_node.specs.Tests.{act_tests, request_tests, synchronize_tests}
use Rattle.grasp_laws_node_stories.proofs.Acting.{acts, adopted_same, leave_same}
use Rattle.grasp_laws_node_stories.proofs.Allowed.{none_of}
use Rattle.grasp_laws_node_stories.proofs.Declining.{AreMeant, Goes, declines_go, meant_of, meant_for, without_sessions_go}
use Rattle.grasp_laws_node_stories.proofs.Parts.{Quietly, and_then, itself, draws, registers, discovers, floods, queues, closes, other_sessions, sends_along}
use Rattle.grasp_laws_node_stories.proofs.Requesting.{IsBorn, requests}
use Rattle.grasp_laws_node_stories.proofs.Telling.{Acted, IsElsewhere, acted_quietly}

-- ---- acts in a session

pub says : (stream : ℕ) (n : NodeState) (asa : ℕ) (h : Handle) (saying : Saying) → IsBoundedNode n → early (act_tests n asa h (act_of saying)) ≡ Ok tt → Quietly stream n (said n h saying)
says stream n asa h saying k e = acts stream n asa h saying (calls_in_order n.sessions k.sessions) (act_checked n asa h (act_of saying) e)

pub says_last : (stream : ℕ) (n : NodeState) (asa : ℕ) (h : Handle) (saying : Saying) → IsBoundedNode n → early (act_tests n asa h (act_of saying)) ≡ Ok tt → Quietly stream n (said_last n h saying)
says_last stream n asa h saying k e = and_then stream n (said n h saying) (said_last n h saying) (says stream n asa h saying k e) (closes stream (said n h saying) (stream_at n h))

-- ---- polls and listeners

polls : (stream : ℕ) (n : NodeState) (h : Handle) (p : Progress) → IsBoundedNode n → Quietly stream n (with_sessions n (after_poll n.sessions h (Ok p)))
polls stream n h progress.NotYet k = other_sessions stream n n.sessions refl
polls stream n h (progress.Turn o) k = other_sessions stream n n.sessions refl
polls stream n h (progress.Ended o) k =
    other_sessions stream n (after_poll n.sessions h (Ok (progress.Ended o))) (leave_same n.sessions h (session_at n.sessions h) stream (calls_in_order n.sessions k.sessions) refl)

pub polling : (stream : ℕ) (n : NodeState) (h : Handle) (a : ApiAnswer) → IsBoundedNode n → Quietly stream n (after_polling n h (Ok a))
polling stream n h (answers.Polled p) k = polls stream n h p k
polling stream n h a k = itself stream n

adopts : (stream : ℕ) (n : NodeState) (asa : ℕ) (o : Option Handle) → Reached n.sessions → Quietly stream n (with_adopted n asa o)
adopts stream n asa None r = itself stream n
adopts stream n asa (Some h) r = other_sessions stream n (after_adopt n.sessions asa h) (adopted_same n.sessions asa h stream (calls_in_order n.sessions r))

pub listens : (stream : ℕ) (n : NodeState) (asa : ℕ) (name : List ℕ) → IsBoundedNode n → Quietly stream n (with_adopted (with_mark n asa name true) asa (untaken_reply n.sessions name))
unfolding with_registrations
listens stream n asa name k =
    let m : NodeState = with_mark n asa name true in
    and_then stream n m (with_adopted m asa (untaken_reply n.sessions name)) (registers stream n (after_listen n.registrations name true (listen_answer n.registrations asa name)))
    (adopts stream m asa (untaken_reply n.sessions name) k.sessions)

-- ---- what isn't listened for any more is declined

declines : (stream : ℕ) (n m : NodeState) (ds : List Declining) → Quietly stream n m → Reached m.sessions → AreMeant m.sessions ds → Quietly stream n (after_declines m ds)
declines stream n m ds q r a = and_then stream n m (after_declines m ds) q (declines_go stream m ds r a).quietly

pub deregisters_objective : (stream : ℕ) (n : NodeState) (asa : ℕ) (name : List ℕ) → IsBoundedNode n → Quietly stream n (after_declines (without_objective n asa name) (declines_of n.sessions name))
unfolding with_registrations
deregisters_objective stream n asa name k =
    declines stream n (without_objective n asa name) (declines_of n.sessions name)
    (registers stream n (after_deregister_objective n.registrations asa name (deregister_objective_answer n.registrations asa name))) k.sessions (meant_of n.sessions name)

pub stops : (stream : ℕ) (n : NodeState) (asa : ℕ) (name : List ℕ) → IsBoundedNode n → Quietly stream n (after_declines (with_mark n asa name false) (declines_of n.sessions name))
unfolding with_registrations
stops stream n asa name k =
    declines stream n (with_mark n asa name false) (declines_of n.sessions name) (registers stream n (after_listen n.registrations name false (listen_answer n.registrations asa name))) k.sessions (meant_of n.sessions name)

pub deregisters_asa : (stream : ℕ) (n : NodeState) (asa : ℕ) → IsBoundedNode n
    → Quietly stream n (without_sessions 64 (without_searches (after_declines (without_agent n asa) (declines_for n.sessions (names_of n.registrations asa))) asa) asa)
unfolding with_registrations with_discoveries
deregisters_asa stream n asa k =
    let ds : List Declining = declines_for n.sessions (names_of n.registrations asa) in
    let a : NodeState = without_agent n asa in
    let b : NodeState = after_declines a ds in
    let c : NodeState = without_searches b asa in
    let g : Goes stream a b = declines_go stream a ds k.sessions (meant_for n.sessions (names_of n.registrations asa)) in
    and_then stream n a (without_sessions 64 c asa) (registers stream n (after_deregister_asa n.registrations asa (deregister_asa_answer n.registrations asa)))
    (and_then stream a b (without_sessions 64 c asa) g.quietly
    (and_then stream b c (without_sessions 64 c asa) (discovers stream b (without_asa b.discoveries asa)) (without_sessions_go stream 64 c asa g.reached).quietly))

-- ---- searches and floods

pub to_alls : (stream : ℕ) (n : NodeState) (m : Message) → Quietly stream n (to_all n m)
to_alls stream n m = queues stream n (along m (all_ways n.plan.links)) (sends_along stream m (all_ways n.plan.links))

pub looks : (stream : ℕ) (n : NodeState) (asa : ℕ) (name : List ℕ) (kind : Kind) (loops timeout : ℕ) (f : Find) → Quietly stream n (looked n asa name kind loops timeout f)
looks stream n asa name kind loops timeout find.Fresh =
    let a : NodeState = with_discoveries n (with_search n.discoveries (search_from n.reading asa (topic_of name kind) (next_session n) timeout)) in
    let m : Message = discovery_message n name kind loops in
    and_then stream n a (queue_up (with_draw a) (along m (all_ways (with_draw a).plan.links))) (discovers stream n (with_search n.discoveries (search_from n.reading asa (topic_of name kind) (next_session n) timeout)))
    (and_then stream a (with_draw a) (queue_up (with_draw a) (along m (all_ways (with_draw a).plan.links))) (draws stream a) (to_alls stream (with_draw a) m))
looks stream n asa name kind loops timeout (find.Found locators) = discovers stream n (after_find n.discoveries asa (topic_of name kind) (find.Found locators))
looks stream n asa name kind loops timeout find.NotYet = discovers stream n (after_find n.discoveries asa (topic_of name kind) find.NotYet)
looks stream n asa name kind loops timeout find.Nothing = discovers stream n (after_find n.discoveries asa (topic_of name kind) find.Nothing)

-- ---- all calls

nowhere : (asa : ℕ) (call : Call) (x : Coming) (stream : ℕ) → IsElsewhere (input.Api asa call) x stream
nowhere asa call x stream = record { came = refl; past = λ before. refl }

pub calls_act : (stream : ℕ) (n : NodeState) (asa : ℕ) (call : Call) (x : Coming) (a : ApiAnswer) → IsBoundedNode n → IsBorn stream n → MayCall n asa call (Ok a) → Acted stream (input.Api asa call) x n (after_call n asa call (Ok a))
calls_act stream n asa call x a k b m = by_call call m where
  quiet : (c : Call) (after : NodeState) → Quietly stream n after → Acted stream (input.Api asa c) x n after
  quiet c after q = acted_quietly stream (input.Api asa c) x n after (nowhere asa c x stream) q

  by_call : (c : Call) → MayCall n asa c (Ok a) → Acted stream (input.Api asa c) x n (after_call n asa c (Ok a))
  by_call (calls.RegisterAsa name) t = quiet (calls.RegisterAsa name) _ (registers stream n (after_register_asa n.registrations name (register_asa_answer n.registrations name)))
  by_call calls.DeregisterAsa t = quiet calls.DeregisterAsa _ (deregisters_asa stream n asa k)
  by_call (calls.RegisterObjective name flags) t =
      quiet (calls.RegisterObjective name flags) _ (registers stream n (after_register_objective n.registrations asa name flags (register_objective_answer n.registrations asa name flags)))
  by_call (calls.DeregisterObjective name) t = quiet (calls.DeregisterObjective name) _ (deregisters_objective stream n asa name k)
  by_call (calls.Discover name kind loops timeout) t = quiet (calls.Discover name kind loops timeout) _ (looks stream n asa name kind loops timeout (find_of n asa name kind))
  by_call (calls.RequestNegotiate name value loops timeout dry peer) t =
      requests stream n asa Negotiation timeout (negotiated n asa name value loops dry) peer (input.Api asa (calls.RequestNegotiate name value loops timeout dry peer)) x
      (nowhere asa (calls.RequestNegotiate name value loops timeout dry peer) x stream) k (none_of (request_tests n asa name dry peer) t.0).sessions b
  by_call (calls.ListenNegotiate name) t = quiet (calls.ListenNegotiate name) _ (listens stream n asa name k)
  by_call (calls.StopListenNegotiate name) t = quiet (calls.StopListenNegotiate name) _ (stops stream n asa name k)
  by_call (calls.NegotiateStep h value) t = quiet (calls.NegotiateStep h value) _ (says stream n asa h (SayStep value) k t.0)
  by_call (calls.NegotiateWait h millis) t = quiet (calls.NegotiateWait h millis) _ (says stream n asa h (SayWait millis) k t.0)
  by_call (calls.EndNegotiate h verdict) t = quiet (calls.EndNegotiate h verdict) _ (says_last stream n asa h (SayEnd verdict) k t.0)
  by_call (calls.SendInvalid h detail) t = quiet (calls.SendInvalid h detail) _ (says_last stream n asa h (SayInvalid detail) k t.0)
  by_call (calls.Poll h) t = quiet (calls.Poll h) _ (polling stream n h a k)
  by_call (calls.Synchronize name loops timeout peer) t =
      requests stream n asa Synchronization timeout (synchronized n asa name loops) peer (input.Api asa (calls.Synchronize name loops timeout peer)) x
      (nowhere asa (calls.Synchronize name loops timeout peer) x stream) k (none_of (synchronize_tests n asa name peer) t.0).sessions b
  by_call (calls.ListenSynchronize name value) t =
      quiet (calls.ListenSynchronize name value) _ (registers stream n (after_offer n.registrations name (Some value) (offer_answer n.registrations asa name)))
  by_call (calls.StopListenSynchronize name) t = quiet (calls.StopListenSynchronize name) _ (registers stream n (after_offer n.registrations name None (offer_answer n.registrations asa name)))
  by_call (calls.Flood name value ttl loops) t =
      quiet (calls.Flood name value ttl loops) _ (and_then stream n (with_draw n) (to_all (with_draw n) (flood_message n asa name value ttl loops)) (draws stream n) (to_alls stream (with_draw n) (flood_message n asa name value ttl loops)))
  by_call (calls.GetFlood name) t = quiet (calls.GetFlood name) _ (itself stream n)
  by_call (calls.ExpireFlood name initiator) t = quiet (calls.ExpireFlood name initiator) _ (floods stream n (after_drop n.floods (key_of name initiator)))
