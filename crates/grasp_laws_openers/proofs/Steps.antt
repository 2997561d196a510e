-- Over a whole step of a node what is so of the address that was told at each opening stays so.
use Rattle.std.proofs.Common.{ℕ, zero, suc, ◌-◌, true, false, cond, nat_le, List, [], ◌∷◌, Option, Some, None, Ok, sym, subst}
use Rattle.grasp_asa.specs.Answers.{flags_registered, names_of}
use Rattle.grasp_discovery.specs.Discoveries as discovery
use Rattle.grasp_discovery.specs.Topic.{kind_of, topic_of}
use Rattle.grasp_discovery.specs.declared.answers.Cause.{Cause}
use Rattle.grasp_discovery.specs.declared.answers.Find.{Find}
use Rattle.grasp_discovery.specs.declared.answers.Find.TheVariants as find
use Rattle.grasp_discovery.specs.declared.answers.Heard as answered
use Rattle.grasp_discovery.specs.declared.answers.Heard.TheVariants as discovered
use Rattle.grasp_flood.specs.Floods as flood
use Rattle.grasp_flood.specs.declared.heard.Heard as told
use Rattle.grasp_flood.specs.declared.heard.Heard.TheVariants as flooded
use Rattle.grasp_laws_openers.proofs.Records as records
use Rattle.grasp_laws_openers.proofs.Records.{NodeTold}
use Rattle.grasp_model_node.specs.Begin.{expire_on, expired, begin}
use Rattle.grasp_model_node.specs.Datagrams.{serves, lowered, discovery_relayed, own_response, discovery_passed, discovery_answered, discovery_kept, discovery_heard, is_dropped, after_discovery, loops_of, flood_relayed, flood_kept, flood_heard, after_flood, datagram_of, datagram_by, after_datagram}
use Rattle.grasp_model_node.specs.Declines.{Declining, declines_of, may_decline, declined, removed, after_decline, after_declines}
use Rattle.grasp_model_node.specs.Draining.{closes, after_drain}
use Rattle.grasp_model_node.specs.FloodCalls.{find_of, looked}
use Rattle.grasp_model_node.specs.Hear.{neighbour_at}
use Rattle.grasp_model_node.specs.Moves.{with_reading, with_registrations, with_sessions, with_discoveries, with_floods, with_draw, dial_record, queue_up, relay, dial_with}
use Rattle.grasp_model_node.specs.Node.{NodeState}
use Rattle.grasp_model_node.specs.Queue.{other_ways}
use Rattle.grasp_model_node.specs.RegistryCalls.{declines_for, without_objective, without_agent, without_searches, close_stream, without_session, without_sessions, with_mark}
use Rattle.grasp_model_node.specs.SessionCalls.{stream_at, said, said_last, after_polling, with_adopted, requested, negotiated, synchronized}
use Rattle.grasp_model_node.specs.Step.{Coming, NodeStep, Calls, Drains, TakesDatagram, after_call}
use Rattle.grasp_session.specs.Sessions.{after_remove, after_expire, expire_reply, owner_reply, stream_reply, untaken_reply}
use Rattle.grasp_session.specs.Transcript.{Saying, SayEnd, SayInvalid}
use Rattle.grasp_types.specs.Flood.{first_loops}
use Rattle.grasp_types.specs.Origin.{origin_of}
use Rattle.grasp_types.specs.Same.{same_address}
use Rattle.grasp_types.specs.declared.address.Address.{Address}
use Rattle.grasp_types.specs.declared.address.Locator.{Locator}
use Rattle.grasp_types.specs.declared.call.Call.{Call}
use Rattle.grasp_types.specs.declared.call.Call.TheVariants as call
use Rattle.grasp_types.specs.declared.flood.FloodPart.{FloodPart}
use Rattle.grasp_types.specs.declared.links.Neighbour.{Neighbour}
use Rattle.grasp_types.specs.declared.message.Answer.TheVariants.{Divert}
use Rattle.grasp_types.specs.declared.message.Message.{Message}
use Rattle.grasp_types.specs.declared.message.Message.TheVariants.{Discovery, Response, Flood}
use Rattle.grasp_types.specs.declared.objective.Objective.{Objective}
use Rattle.grasp_types.specs.declared.reply.ApiAnswer.{ApiAnswer}
use Rattle.grasp_types.specs.declared.reply.ApiAnswer.TheVariants as answers
use Rattle.grasp_types.specs.declared.reply.Reply.{Reply}
use Rattle.grasp_types.specs.declared.reply.Reply.TheVariants as reply
use Rattle.grasp_types.specs.declared.session.Handle.{Handle}
use Rattle.grasp_types.specs.declared.session.Kind.{Kind}
use Rattle.grasp_types.specs.declared.session.Kind.TheVariants.{Negotiation, Synchronization}
use Rattle.grasp_types.specs.declared.traffic.Input.{Input}
use Rattle.grasp_types.specs.declared.traffic.Input.TheVariants as input

module _ (P : ℕ → Address → Type 0) where
  -- ---- a datagram

  relayed_told : (n : NodeState) (link session : ℕ) (initiator : Address) (o : Objective) → NodeTold P n → NodeTold P (discovery_relayed n link session initiator o)
  relayed_told n link session initiator o a =
      let m : Message = Discovery session initiator (lowered o) in
      records.either P (nat_le 2 o.loops) (relay n m (other_ways link n.plan.links)) n (records.relay_told P n m (other_ways link n.plan.links) a) a

  passed_told : (n : NodeState) (link : ℕ) (neighbour : Neighbour) (session : ℕ) (initiator : Address) (o : Objective) (known : Option (List Locator × ℕ)) → NodeTold P n
      → NodeTold P (discovery_passed n link neighbour session initiator o known)
  passed_told n link neighbour session initiator o None a = relayed_told n link session initiator o a
  passed_told n link neighbour session initiator o (Some known) a = records.dial_told P n neighbour.locator (Response session initiator known.1 (Divert known.0) None) a

  answered_told : (n : NodeState) (link : ℕ) (neighbour : Neighbour) (session : ℕ) (initiator : Address) (o : Objective) → NodeTold P n
      → NodeTold P (discovery_answered n link neighbour session initiator o)
  answered_told n link neighbour session initiator o a =
      let known : Option (List Locator × ℕ) = discovery.known_of n.discoveries (topic_of o.name (kind_of o.flags)) n.reading in
      records.either P (serves o.flags (flags_registered n.registrations o.name)) (dial_with n neighbour.locator (own_response n session initiator)) (discovery_passed n link neighbour session initiator o known)
      (records.dial_told P n neighbour.locator (own_response n session initiator) a) (passed_told n link neighbour session initiator o known a)

  heard_told : (n : NodeState) (cause : Cause) (neighbour : Neighbour) (session : ℕ) (initiator : Address) (o : Objective) (h : answered.Heard) → NodeTold P n
      → NodeTold P (discovery_heard n cause neighbour session initiator o h)
  unfolding with_discoveries
  heard_told n cause neighbour session initiator o discovered.Known a = a
  heard_told n cause neighbour session initiator o discovered.NoPlace a = a
  heard_told n cause neighbour session initiator o discovered.New a = answered_told (discovery_kept n cause session initiator o) cause.link neighbour session initiator o a

  discovery_told : (n : NodeState) (cause : Cause) (neighbour : Neighbour) (session : ℕ) (initiator : Address) (o : Objective) → NodeTold P n
      → NodeTold P (after_discovery n cause neighbour session initiator o)
  discovery_told n cause neighbour session initiator o a =
      let h = discovery.heard_reply n.discoveries (origin_of session initiator) in
      records.either P (is_dropped n initiator o.flags) n (discovery_heard n cause neighbour session initiator o h) a (heard_told n cause neighbour session initiator o h a)

  flood_on_told : (n : NodeState) (link session : ℕ) (initiator : Address) (ttl : ℕ) (parts : List FloodPart) → NodeTold P n → NodeTold P (flood_relayed n link session initiator ttl parts)
  flood_on_told n link session initiator ttl parts a =
      let m : Message = Flood session initiator ttl (first_loops parts (loops_of parts - 1)) in
      records.either P (nat_le 2 (loops_of parts)) (relay n m (other_ways link n.plan.links)) n (records.relay_told P n m (other_ways link n.plan.links) a) a

  flood_heard_told : (n : NodeState) (link session : ℕ) (initiator : Address) (ttl : ℕ) (parts : List FloodPart) (h : told.Heard) → NodeTold P n
      → NodeTold P (flood_heard n link session initiator ttl parts h)
  unfolding with_floods
  flood_heard_told n link session initiator ttl parts flooded.Known a = a
  flood_heard_told n link session initiator ttl parts flooded.NoPlace a = a
  flood_heard_told n link session initiator ttl parts flooded.New a = flood_on_told (flood_kept n session initiator ttl parts flooded.New) link session initiator ttl parts a

  flood_told : (n : NodeState) (link session : ℕ) (initiator : Address) (ttl : ℕ) (parts : List FloodPart) → NodeTold P n → NodeTold P (after_flood n link session initiator ttl parts)
  flood_told n link session initiator ttl parts a =
      let h = flood.heard_reply n.floods (origin_of session initiator) in
      records.either P (same_address n.plan.address initiator) n (flood_heard n link session initiator ttl parts h) a (flood_heard_told n link session initiator ttl parts h a)

  datagram_of_told : (n : NodeState) (cause : Cause) (neighbour : Neighbour) (m : Option Message) → NodeTold P n → NodeTold P (datagram_of n cause neighbour m)
  datagram_of_told n cause neighbour (Some (Discovery session initiator o)) a = discovery_told n cause neighbour session initiator o a
  datagram_of_told n cause neighbour (Some (Flood session initiator ttl parts)) a = flood_told n cause.link session initiator ttl parts a
  datagram_of_told n cause neighbour _ a = a

  datagram_by_told : (n : NodeState) (cause : Cause) (m : Option Message) (o : Option Neighbour) → NodeTold P n → NodeTold P (datagram_by n cause m o)
  datagram_by_told n cause m None a = a
  datagram_by_told n cause m (Some neighbour) a = datagram_of_told n cause neighbour m a

  datagram_told : (n : NodeState) (link from : ℕ) (m : Option Message) → NodeTold P n → NodeTold P (after_datagram n link from m)
  unfolding after_datagram
  datagram_told n link from m a = datagram_by_told n (record { link = link; from = from }) m (neighbour_at n link from) a

  takes_told : (n after : NodeState) (link from : ℕ) (x : Coming) (r : Reply) → TakesDatagram n link from x r after → NodeTold P n → NodeTold P after
  takes_told n after link from x reply.Taken e a = subst (NodeTold P) (sym e) (datagram_told n link from x.carried a)
  takes_told n after link from x reply.OutOfMemory e a = subst (NodeTold P) (sym e) a
  takes_told n after link from x _ e a = absurd e

  -- ---- a call

  decline_told : (n : NodeState) (d : Declining) → NodeTold P n → NodeTold P (after_decline n d)
  unfolding with_sessions queue_up
  decline_told n d a = records.closing_told P (cond (may_decline n d.handle) (declined n d) (removed n d.handle)) d.stream (records.either P (may_decline n d.handle) (declined n d) (removed n d.handle) a a)

  declines_told : (n : NodeState) (ds : List Declining) → NodeTold P n → NodeTold P (after_declines n ds)
  unfolding after_declines
  declines_told n [] a = a
  declines_told n (d ∷ ds) a = declines_told (after_decline n d) ds (decline_told n d a)

  close_told : (n : NodeState) (o : Option ℕ) → NodeTold P n → NodeTold P (close_stream n o)
  close_told n None a = a
  close_told n (Some stream) a = records.closing_told P n stream a

  session_told : (n : NodeState) (o : Option Handle) → NodeTold P n → NodeTold P (without_session n o)
  unfolding with_sessions
  session_told n None a = a
  session_told n (Some h) a = close_told (with_sessions n (after_remove n.sessions h)) (stream_reply n.sessions h) a

  sessions_told : (count : ℕ) (n : NodeState) (asa : ℕ) → NodeTold P n → NodeTold P (without_sessions count n asa)
  unfolding without_sessions
  sessions_told zero n asa a = a
  sessions_told (suc count) n asa a = session_told (without_sessions count n asa) (owner_reply (without_sessions count n asa).sessions asa) (sessions_told count n asa a)

  last_told : (n : NodeState) (h : Handle) (saying : Saying) → NodeTold P n → NodeTold P (said_last n h saying)
  unfolding with_sessions queue_up
  last_told n h saying a = records.closing_told P (said n h saying) (stream_at n h) a

  polling_told : (n : NodeState) (h : Handle) (a : ApiAnswer) → NodeTold P n → NodeTold P (after_polling n h (Ok a))
  unfolding with_sessions
  polling_told n h (answers.Polled p) a = a
  polling_told n h _ a = a

  adopted_told : (n : NodeState) (asa : ℕ) (o : Option Handle) → NodeTold P n → NodeTold P (with_adopted n asa o)
  unfolding with_sessions
  adopted_told n asa None a = a
  adopted_told n asa (Some h) a = a

  requested_told : (n : NodeState) (asa : ℕ) (kind : Kind) (timeout : ℕ) (o : Objective) (peer : Locator) → NodeTold P n → NodeTold P (requested n asa kind timeout o peer)
  unfolding queue_up dial_record with_draw with_sessions
  requested_told n asa kind timeout o peer a = records.dialled_told P n.streams _ a

  looked_told : (n : NodeState) (asa : ℕ) (name : List ℕ) (kind : Kind) (loops timeout : ℕ) (f : Find) → NodeTold P n → NodeTold P (looked n asa name kind loops timeout f)
  unfolding with_discoveries with_draw queue_up
  looked_told n asa name kind loops timeout find.Fresh a = a
  looked_told n asa name kind loops timeout _ a = a

  call_told : (n : NodeState) (asa : ℕ) (c : Call) (a : ApiAnswer) → NodeTold P n → NodeTold P (after_call n asa c (Ok a))
  unfolding with_registrations with_sessions with_discoveries with_floods with_draw queue_up
  call_told n asa call.DeregisterAsa answer a =
      let m : NodeState = after_declines (without_agent n asa) (declines_for n.sessions (names_of n.registrations asa)) in
      sessions_told 64 (without_searches m asa) asa (declines_told (without_agent n asa) (declines_for n.sessions (names_of n.registrations asa)) a)
  call_told n asa (call.DeregisterObjective name) answer a = declines_told (without_objective n asa name) (declines_of n.sessions name) a
  call_told n asa (call.Discover name kind loops timeout) answer a = looked_told n asa name kind loops timeout (find_of n asa name kind) a
  call_told n asa (call.RequestNegotiate name value loops timeout dry peer) answer a = requested_told n asa Negotiation timeout (negotiated n asa name value loops dry) peer a
  call_told n asa (call.ListenNegotiate name) answer a = adopted_told (with_mark n asa name true) asa (untaken_reply n.sessions name) a
  call_told n asa (call.StopListenNegotiate name) answer a = declines_told (with_mark n asa name false) (declines_of n.sessions name) a
  call_told n asa (call.EndNegotiate h verdict) answer a = last_told n h (SayEnd verdict) a
  call_told n asa (call.SendInvalid h detail) answer a = last_told n h (SayInvalid detail) a
  call_told n asa (call.Poll h) answer a = polling_told n h answer a
  call_told n asa (call.Synchronize name loops timeout peer) answer a = requested_told n asa Synchronization timeout (synchronized n asa name loops) peer a
  call_told n asa _ answer a = a

  calls_told : (n after : NodeState) (asa : ℕ) (c : Call) (r : Reply) → Calls n asa c r after → NodeTold P n → NodeTold P after
  calls_told n after asa c (reply.Api answer) t a = subst (NodeTold P) (sym t.1) (call_told n asa c answer a)
  calls_told n after asa c (reply.Refused refused) t a = subst (NodeTold P) (sym t.1) a
  calls_told n after asa c _ t a = absurd t

  -- ---- the beginning of a step, and a drain

  expire_told : (n : NodeState) (o : Option ℕ) → NodeTold P n → NodeTold P (expire_on n o)
  unfolding with_sessions
  expire_told n None a = a
  expire_told n (Some stream) a = records.closing_told P (with_sessions n (after_expire n.sessions n.reading)) stream a

  expired_told : (count : ℕ) (n : NodeState) → NodeTold P n → NodeTold P (expired count n)
  unfolding expired
  expired_told zero n a = a
  expired_told (suc count) n a = expire_told (expired count n) (expire_reply (expired count n).sessions (expired count n).reading) (expired_told count n a)

  pub begin_told : (n : NodeState) (now : ℕ) → NodeTold P n → NodeTold P (begin n now)
  unfolding begin with_reading with_discoveries with_floods
  begin_told n now a = expired_told 64 (with_reading n now) a

  drain_told : (n after : NodeState) (max : ℕ) (r : Reply) → Drains n max r after → NodeTold P n → NodeTold P after
  unfolding after_drain
  drain_told n after max (reply.Outputs outputs) d a = subst (NodeTold P) (sym d.1) (records.all_without_told P n.streams (closes n max) a)
  drain_told n after max reply.OutOfMemory d a = subst (NodeTold P) (sym d.1) a
  drain_told n after max _ d a = absurd d

  -- ---- a step

  -- P holds of a stream that the input opens
  abbrev pub OpensTold : Input → Type 0
  OpensTold (input.Opened stream from) = P stream from
  OpensTold (input.Drain max) = Unit {0}
  OpensTold (input.Api asa call) = Unit {0}
  OpensTold (input.Datagram link from bytes) = Unit {0}
  OpensTold (input.Bytes stream bytes) = Unit {0}
  OpensTold (input.Closed stream) = Unit {0}

  pub step_told : (n after : NodeState) (now : ℕ) (i : Input) (x : Coming) (r : Reply) → OpensTold i → NodeStep n now i x r after → NodeTold P n → NodeTold P after
  step_told n after now (input.Api asa c) x r o t a = calls_told (begin n now) after asa c r t.acts (begin_told n now a)
  step_told n after now (input.Datagram link from bytes) x r o t a = takes_told (begin n now) after link from x r t.acts (begin_told n now a)
  step_told n after now (input.Opened stream from) x r o t a = subst (NodeTold P) (sym t.acts.1) (records.opening_told P (begin n now) stream from r o (begin_told n now a))
  step_told n after now (input.Bytes stream bytes) x r o t a = records.taken_told P (begin n now) after stream bytes x r t.acts (begin_told n now a)
  step_told n after now (input.Closed stream) x r o t a = subst (NodeTold P) (sym t.acts.1) (records.closed_told P (begin n now) stream (begin_told n now a))
  step_told n after now (input.Drain max) x r o t a = drain_told (begin n now) after max r t.acts (begin_told n now a)
