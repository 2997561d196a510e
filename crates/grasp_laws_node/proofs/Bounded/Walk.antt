-- Each move of a node leaves its lists within their limits.
use Rattle.std.proofs.Common.{◌≡◌, ℕ, ◌%◌, ◌≤◌, Bool, true, false, cond, nat_lt, ◌==◌, List, [], ◌∷◌, length, Some, None, is_some, Result, Ok, inl, refl, subst, arith, All}
use Rattle.std.specs.List.{fold, position_or_len}
use Rattle.std.proofs.lemmas.Bool.{true≢false, and_parts, or_parts, leb-false, ltb-false, eqb-false}
use Rattle.std.proofs.lemmas.List.{length-drop}
use Rattle.std.proofs.lemmas.List.Sums.{fails_before_first}
use Rattle.grasp_discovery.proofs.Soundness as discoveries
use Rattle.grasp_discovery.specs.Discoveries as discovery
use Rattle.grasp_discovery.specs.Topic.{topic_of}
use Rattle.grasp_discovery.specs.declared.answers.Heard as answered
use Rattle.grasp_flood.proofs.Soundness as floods
use Rattle.grasp_flood.specs.Floods as flood
use Rattle.grasp_flood.specs.declared.heard.Heard as told
use Rattle.grasp_session.specs.Runs.{Begins, Takes, Polls, EndsBy, Expires, Adopts}
use Rattle.grasp_session.specs.Sessions.{state_reply, after_receive, after_start}
use Rattle.grasp_session.specs.Transcript.{SayEnd}
use Rattle.grasp_session.specs.declared.answer.Received.{Received}
use Rattle.grasp_session.specs.declared.answer.SessionRefused.{SessionRefused}
use Rattle.grasp_types.specs.Message.{IsMessage, IsAnswer}
use Rattle.grasp_types.specs.Origin.{origin_of}
use Rattle.grasp_types.specs.declared.address.Address.{Address}
use Rattle.grasp_types.specs.declared.message.Answer.{Answer}
use Rattle.grasp_types.specs.declared.message.Answer.TheVariants.{Locators, Divert}
use Rattle.grasp_types.specs.declared.message.Message.{Message}
use Rattle.grasp_types.specs.declared.session.Handle.{Handle}
use Rattle.grasp_wire.specs.Cutter.{no_past}
use Rattle.grasp_model_node.proofs.Facts.{proper}
use Rattle.grasp_model_node.specs.BoundedNodes.{IsBoundedNode, IsGiven}
use Rattle.grasp_model_node.specs.Declines.{unlistened, declined_for}
use Rattle.grasp_model_node.specs.Draining as drain
use Rattle.grasp_model_node.specs.Hear.{untaken, answered_with}
use Rattle.grasp_model_node.specs.Moves.{with_sessions, with_discoveries, with_floods, open_record}
use Rattle.grasp_model_node.specs.Node.{NodeState}
use Rattle.grasp_model_node.specs.Opening.{is_live, is_ignored}
use Rattle.grasp_model_node.specs.Queue.{send, fits, has_room}
use Rattle.grasp_model_node.specs.SessionCalls.{stream_at, act_message}
use Rattle.grasp_model_node.specs.Streams.{StreamRecord, StreamsState, is_stream, place_of, has_record, is_full, with_opened, without}
use Rattle.grasp_laws_node.proofs.Bounded.Calls.{remove_kept, said_kept, requested_kept, begun_kept, flooding_kept, without_searches_kept}
use Rattle.grasp_laws_node.proofs.Bounded.Moves.{streams_of, streams_kept, reading_kept, registrations_kept, discoveries_kept, floods_kept, call_kept, closing_kept, keep_past_kept, drop_kept, queue_kept, along_kept, next_kept}
use Rattle.grasp_laws_node.proofs.Bounded.Streams.{AreStreams, fold_without_kept, record_kept}
use Rattle.grasp_laws_node.proofs.Bounded.Tests.{number_above}
use Rattle.grasp_laws_node.proofs.Walk.Moves.{Known, Turn, Move, reads, times_out, ends_discoveries, ends_floods, answers, responds, marks, keeps, listens, caches, closes, goes_on, leaves, opens, remembers, learns, relays, replies, registers, says, declines, removes, shuts, polls, adopts, asks, forgets, drops, searches, finds, tells_all, drains_out}

-- ---- a stream that a peer opens

no_such_record : (stream : ℕ) (xs : List StreamRecord) → is_some (place_of stream xs) ≡ false → All (λ (y : StreamRecord). ¬ (y.number ≡ stream)) xs
no_such_record stream xs e k d h same = by_test (nat_lt (position_or_len (is_stream stream) xs) (length xs)) refl e where
  by_test : (b : Bool) → nat_lt (position_or_len (is_stream stream) xs) (length xs) ≡ b → is_some (cond b (Some (position_or_len (is_stream stream) xs)) None) ≡ false → ⊥
  by_test true f g = true≢false g
  by_test false f g =
      let long : length xs ≤ position_or_len (is_stream stream) xs = ltb-false (position_or_len (is_stream stream) xs) (length xs) f in
      eqb-false _ stream (fails_before_first (is_stream stream) xs k d (omega (arith, h, long))) same

opened_kept : (n : NodeState) (stream : ℕ) (from : Address) → IsBoundedNode n → is_ignored n stream ≡ false → is_full n.streams ≡ false → IsBoundedNode (open_record n stream from)
unfolding open_record
opened_kept n stream from k new room =
    let a = or_parts ((stream % 2) == 0) (is_live n stream) new in
    let b = or_parts (has_record n.streams stream) (is_some (state_reply n.sessions stream)) a.1 in
    let odd : stream % 2 ≡ 1 = let no = eqb-false (stream % 2) 0 a.0 in omega (arith, no) in
    streams_kept n (with_opened n.streams stream from) k refl
    (record_kept n.streams (record { number = stream; from = Some from; past = Some no_past }) (streams_of n k) (leb-false 64 (length n.streams.records) room) (inl odd)
    (no_such_record stream n.streams.records b.0))

-- ---- a drain

drain_kept : (n : NodeState) (max : ℕ) → IsBoundedNode n → IsBoundedNode (drain.after_drain n max)
unfolding drain.after_drain
drain_kept n max k =
    let s : StreamsState = fold without n.streams (drain.closes n max) in
    let a : AreStreams s = fold_without_kept n.streams (drain.closes n max) (streams_of n k) in
    let i = streams_kept n s k (dialled_stays n.streams (drain.closes n max)) a in
    record {
      registrations = i.registrations;
      sessions = i.sessions;
      discoveries = i.discoveries;
      floods = i.floods;
      few_records = i.few_records;
      apart = i.apart;
      few_dialled = i.few_dialled;
      records_given = i.records_given;
      sessions_given = i.sessions_given;
      few_queued = let l = length-drop max n.queue in omega (arith, l, k.few_queued);
    } where
      dialled_stays : (s : StreamsState) (streams : List ℕ) → (fold without s streams).dialled ≡ s.dialled
      dialled_stays s [] = refl
      dialled_stays s (stream ∷ streams) = dialled_stays (without s stream) streams

-- ---- all moves

some_locators : (told : Answer) → IsAnswer told → 1 ≤ length (answered_with told)
some_locators (Locators locators) i = i.some
some_locators (Divert locators) i = i.some

pub move_kept : (k : Known) (base : NodeState) → IsBoundedNode base → ((m : Message) → k.message m → IsMessage m) → (turn : Turn) (n after : NodeState) → Move k base n turn after
    → ((stream : ℕ) → k.stream stream → IsGiven n.streams.dialled stream) → IsBoundedNode n → IsBoundedNode after
move_kept k base node are turn n after (reads now) given b = reading_kept n now b
move_kept k base node are turn n after (times_out stream e) given b = closing_kept _ stream (call_kept n (Expires n.reading) b tt tt)
move_kept k base node are turn n after ends_discoveries given b = discoveries_kept n _ b (discoveries.sound_expiry n.discoveries n.reading b.discoveries)
move_kept k base node are turn n after ends_floods given b = floods_kept n _ b (floods.sound_expiry n.floods n.reading b.floods)
move_kept k base node are turn n after (answers {stream = stream} m i so e) given b = queue_kept n (send stream m ∷ []) b (and_parts (fits n.plan.limit m) (has_room n.queue 1) e).1
move_kept k base node are turn n after (responds to m i so e) given b = next_kept n to m b e
move_kept k base node are turn n after (marks {stream = stream} mark) given b = call_kept n (EndsBy stream mark) b tt tt
move_kept k base node are turn n after (keeps {stream = stream} m e) given b =
    subst (λ (r : Received). IsBoundedNode (with_sessions n (after_receive n.sessions n.reading stream m r))) e (call_kept n (Takes n.reading stream m) b tt tt)
move_kept k base node are turn n after (listens {stream = stream} session o h so e free heard) given b =
    subst (λ (r : Result Handle SessionRefused). IsBoundedNode (with_sessions n (after_start n.sessions n.reading (untaken stream session o) r))) e
    (call_kept n (Begins n.reading (untaken stream session o)) b (free, proper stream session o) (given stream so))
move_kept k base node are turn n after (caches session initiator ttl told o so) given b =
    discoveries_kept n _ b (discoveries.sound_answered n.discoveries (discovery.end_of n.reading ttl) (answered_with told) (discovery.asker_of n.discoveries n.plan.address (origin_of session initiator)) (some_locators told (are _ so).3) b.discoveries)
move_kept k base node are turn n after (closes {stream = stream}) given b = closing_kept n stream b
move_kept k base node are turn n after (goes_on {stream = stream} past so) given b = keep_past_kept n stream past b
move_kept k base node are turn n after (leaves {stream = stream}) given b = drop_kept n stream b
move_kept k base node are turn n after (opens {stream = stream} {from = from} so new room) given b = opened_kept n stream from b new room
move_kept k base node are turn n after (remembers cause session initiator o e) given b =
    subst (λ (h : answered.Heard). IsBoundedNode (with_discoveries n (discovery.after_heard n.discoveries (origin_of session initiator) (discovery.memory_from n.reading cause o) h))) e
    (discoveries_kept n _ b (discoveries.sound_heard n.discoveries (origin_of session initiator) (discovery.memory_from n.reading cause o) b.discoveries))
move_kept k base node are turn n after (learns session initiator ttl parts heard e) given b =
    subst (λ (h : told.Heard). IsBoundedNode (with_floods n (flood.after_heard n.floods n.reading (origin_of session initiator) ttl parts h))) e
    (floods_kept n _ b (floods.sound_heard n.floods n.reading (origin_of session initiator) ttl parts b.floods))
move_kept k base node are turn n after (relays m ways e) given b = along_kept n m ways b (and_parts (fits n.plan.limit m) (has_room n.queue (length ways)) e).1
move_kept k base node are turn n after (replies to m i e) given b = next_kept n to m b e
move_kept k base node are turn n after (registers r sound) given b = registrations_kept n r b (sound b.registrations)
move_kept k base node are turn n after (says {asa = asa} h saying may so e room fit) given b = said_kept n asa h saying (stream_at n h) (act_message n h saying) b e room
move_kept k base node are turn n after (declines d i so e room) given b = said_kept n 0 d.handle (SayEnd (declined_for unlistened)) d.stream d.message b e room
move_kept k base node are turn n after (removes h) given b = remove_kept n h b
move_kept k base node are turn n after (shuts stream) given b = closing_kept n stream b
move_kept k base node are turn n after (polls {asa = asa} h progress e) given b = call_kept n (Polls asa h (Ok progress)) b e tt
move_kept k base node are turn n after (adopts {asa = asa} h e own) given b = call_kept n (Adopts asa h) b (own, number_above base asa node e) tt
move_kept k base node are turn n after (asks {asa = asa} kind timeout o peer is so e free room fit) given b = requested_kept n asa kind timeout o peer b (number_above n asa b e) free room
move_kept k base node are turn n after (forgets {asa = asa}) given b = without_searches_kept n asa b
move_kept k base node are turn n after (drops key) given b = floods_kept n _ b (floods.sound_drop n.floods key b.floods)
move_kept k base node are turn n after (searches {asa = asa} name kind loops timeout is fresh free room fit) given b = begun_kept n asa name kind loops timeout b fresh free room
move_kept k base node are turn n after (finds {asa = asa} name kind answer) given b = discoveries_kept n _ b (discoveries.sound_find n.discoveries asa (topic_of name kind) answer b.discoveries)
move_kept k base node are turn n after (tells_all m room fit) given b = flooding_kept n m b room
move_kept k base node are turn n after (drains_out max) given b = drain_kept n max b
