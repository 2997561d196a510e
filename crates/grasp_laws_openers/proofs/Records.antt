-- What is so of the address that was told at the opening of each stream of a node stays so, whatever comes, where it is so of those that are opened.
use Rattle.std.proofs.Common.{◌≡◌, ◌∙◌, ℕ, suc, ◌+◌, ◌*◌, ◌%◌, ◌&&◌, not, Bool, true, false, cond, nat_le, List, [], ◌∷◌, length, take, drop, slice_get, slice_index_or, Option, Some, None, Result, Ok, Err, refl, sym, subst, arith, All}
use Rattle.std.specs.List.{fold}
use Rattle.std.proofs.lemmas.List.Elements.{All-append, All-take, All-drop, All-push, All-set}
use Rattle.std.proofs.lemmas.Option.{slice_get_within, slice_get-get_or, same_Some}
use Rattle.grasp_asa.specs.Answers.{value_offered}
use Rattle.grasp_cbor.specs.DataItem.{DataItem}
use Rattle.grasp_discovery.specs.Discoveries.{asker_of, after_answered, end_of}
use Rattle.grasp_discovery.specs.declared.answers.Answered.{Answered}
use Rattle.grasp_discovery.specs.declared.answers.Answered.TheVariants.{Relay}
use Rattle.grasp_discovery.specs.declared.topic.Topic.{Topic}
use Rattle.grasp_laws_openers.specs.Told.{RecordTold}
use Rattle.grasp_model_node.specs.Bytes.{most_bytes, Added, hear_on, hear_all, hear_fault, hear_rest, heard, past_after, left_as, broken, bytes_on, after_bytes, StarvesAt, after_closed}
use Rattle.grasp_model_node.specs.Declines.{unlistened, busy, declined_for}
use Rattle.grasp_model_node.specs.Hear.{Heard, hear, hear_by, hear_first, hear_later_by, refused_by, after_refusal, is_listened, declines, listened, hear_request, synched, hear_synchronization, answered_with, neighbour_at, dial_neighbour, sent_on, responded, stays, shuts}
use Rattle.grasp_model_node.specs.Moves.{with_sessions, with_discoveries, begin_closing, keep_past, drop_record, open_record, dial_record, queue_up, may_queue, answer, relay, dial_with}
use Rattle.grasp_model_node.specs.Node.{NodeState}
use Rattle.grasp_model_node.specs.Opening.{is_ignored, after_opened}
use Rattle.grasp_model_node.specs.Queue.{along, send, dial}
use Rattle.grasp_model_node.specs.Step.{Coming, TakesBytes}
use Rattle.grasp_model_node.specs.Streams.{StreamRecord, StreamsState, place_of, put_past, set_past, with_past, remove_place, without, next_stream, with_dialled, with_opened, past_of, has_record, is_dialled_out}
use Rattle.grasp_model_node.specs.declared.way.Way.{Way}
use Rattle.grasp_session.specs.Sessions.{after_mark, receive_reply, start_reply, state_reply}
use Rattle.grasp_session.specs.Transcript.{Faulty, Mark, Closed, Starved}
use Rattle.grasp_session.specs.declared.answer.Received.{Received}
use Rattle.grasp_session.specs.declared.answer.Received.TheVariants.{Kept, Ignored, Bad}
use Rattle.grasp_session.specs.declared.answer.SessionRefused.{SessionRefused}
use Rattle.grasp_types.specs.Objective.{has_synch}
use Rattle.grasp_types.specs.Origin.{origin_of}
use Rattle.grasp_types.specs.declared.address.Address.{Address}
use Rattle.grasp_types.specs.declared.address.Locator.{Locator}
use Rattle.grasp_types.specs.declared.links.Neighbour.{Neighbour}
use Rattle.grasp_types.specs.declared.message.Message.{Message}
use Rattle.grasp_types.specs.declared.message.Message.TheVariants.{Noop, Discovery, Response, ReqNeg, ReqSyn, Negotiate, End, Wait, Synch, Flood, Invalid}
use Rattle.grasp_types.specs.declared.objective.Objective.{Objective}
use Rattle.grasp_types.specs.declared.reply.Reply.{Reply}
use Rattle.grasp_types.specs.declared.reply.Reply.TheVariants as reply
use Rattle.grasp_types.specs.declared.session.Handle.{Handle}
use Rattle.grasp_wire.specs.Cutter.{Past, no_past}
use Rattle.grasp_wire.specs.Stream.{RestKind, waiting}

module _ (P : ℕ → Address → Type 0) where
  abbrev AreTold : List StreamRecord → Type 0
  AreTold xs = All (RecordTold P) xs

  abbrev pub StreamsTold : StreamsState → Type 0
  StreamsTold s = AreTold s.records

  abbrev pub NodeTold : NodeState → Type 0
  NodeTold n = StreamsTold n.streams

  -- ---- the records

  at_told : (xs : List StreamRecord) (i : ℕ) (x : StreamRecord) → slice_get xs i ≡ Some x → AreTold xs → RecordTold P x
  at_told xs i x e a =
      let within = slice_get_within xs i x e in
      subst (RecordTold P) (sym (same_Some x (slice_index_or xs i x) (sym e ∙ slice_get-get_or xs i x within))) (a i x within)

  pub past_told : (s : StreamsState) (stream : ℕ) (past : Option Past) → StreamsTold s → StreamsTold (with_past s stream past)
  past_told s stream past a = by_place (place_of stream s.records) where
    by_record : (i : ℕ) (o : Option StreamRecord) → slice_get s.records i ≡ o → AreTold (put_past past s.records i o)
    by_record i None e = a
    by_record i (Some x) e = All-set (RecordTold P) s.records i (record x { past = past }) (at_told s.records i x e a) a

    by_place : (o : Option ℕ) → AreTold (set_past past s.records o)
    by_place None = a
    by_place (Some i) = by_record i (slice_get s.records i) refl

  without_told : (s : StreamsState) (stream : ℕ) → StreamsTold s → StreamsTold (without s stream)
  without_told s stream a = by_place (place_of stream s.records) where
    by_place : (o : Option ℕ) → AreTold (remove_place s.records o)
    by_place None = a
    by_place (Some i) = All-append (RecordTold P) (take i s.records) (drop (suc i) s.records) (All-take (RecordTold P) i s.records a) (All-drop (RecordTold P) (suc i) s.records a)

  pub all_without_told : (s : StreamsState) (streams : List ℕ) → StreamsTold s → StreamsTold (fold without s streams)
  all_without_told s [] a = a
  all_without_told s (stream ∷ streams) a = all_without_told (without s stream) streams (without_told s stream a)

  opened_told : (s : StreamsState) (stream : ℕ) (from : Address) → P stream from → StreamsTold s → StreamsTold (with_opened s stream from)
  opened_told s stream from p a = All-push (RecordTold P) s.records (record { number = stream; from = Some from; past = Some no_past }) a p

  even : (d : ℕ) → (2 * d) % 2 ≡ 0
  even d = omega arith

  pub dialled_told : (s : StreamsState) (past : Option Past) → StreamsTold s → StreamsTold (with_dialled s past)
  dialled_told s past a = All-push (RecordTold P) s.records (record { number = next_stream s; from = None; past = past }) a (even s.dialled)

  -- ---- the moves

  pub either : (b : Bool) (x y : NodeState) → NodeTold x → NodeTold y → NodeTold (cond b x y)
  either true x y h k = h
  either false x y h k = k

  pub closing_told : (n : NodeState) (stream : ℕ) → NodeTold n → NodeTold (begin_closing n stream)
  unfolding begin_closing
  closing_told n stream a = past_told n.streams stream None a

  keep_past_told : (n : NodeState) (stream : ℕ) (past : Past) → NodeTold n → NodeTold (keep_past n stream past)
  unfolding keep_past
  keep_past_told n stream past a = past_told n.streams stream (Some past) a

  pub answer_told : (n : NodeState) (stream : ℕ) (m : Message) → NodeTold n → NodeTold (answer n stream m)
  unfolding queue_up
  answer_told n stream m a = either (may_queue n m 1) (queue_up n (send stream m ∷ [])) n a a

  pub relay_told : (n : NodeState) (m : Message) (ways : List Way) → NodeTold n → NodeTold (relay n m ways)
  unfolding queue_up
  relay_told n m ways a = either (may_queue n m (length ways)) (queue_up n (along m ways)) n a a

  pub dial_told : (n : NodeState) (to : Locator) (m : Message) → NodeTold n → NodeTold (dial_with n to m)
  unfolding queue_up dial_record
  dial_told n to m a =
      either (may_queue n m 2 && not (is_dialled_out n.streams)) (dial_record (queue_up n (dial (next_stream n.streams) to ∷ send (next_stream n.streams) m ∷ [])) None) n (dialled_told n.streams None a) a

  ended_told : (n : NodeState) (stream : ℕ) (mark : Mark) → NodeTold n → NodeTold (drop_record (with_sessions n (after_mark n.sessions stream mark)) stream)
  unfolding drop_record with_sessions
  ended_told n stream mark a = without_told n.streams stream a

  -- ---- a message

  refused_told : (n : NodeState) (stream : ℕ) (o : Option (ℕ × Bool)) → NodeTold n → NodeTold (refused_by n stream o)
  unfolding with_sessions
  refused_told n stream None a = a
  refused_told n stream (Some state) a =
      either state.1 n (with_sessions (answer n stream (Invalid state.0 None)) (after_mark n.sessions stream Faulty)) a (answer_told n stream (Invalid state.0 None) a)

  refusal_told : (n : NodeState) (stream : ℕ) → NodeTold n → NodeTold (after_refusal n stream)
  refusal_told n stream a = refused_told n stream (state_reply n.sessions stream) a

  later_told : (n : NodeState) (stream : ℕ) (m : Message) (r : Received) → NodeTold n → NodeTold (hear_later_by n stream m r).node
  unfolding with_sessions
  later_told n stream m Kept a = a
  later_told n stream m Ignored a = a
  later_told n stream m Bad a = refusal_told n stream a

  declines_told : (n : NodeState) (stream session : ℕ) (reason : List ℕ) → NodeTold n → NodeTold (declines n stream session reason).node
  declines_told n stream session reason a = answer_told n stream (End session (declined_for reason)) a

  listened_told : (n : NodeState) (stream session : ℕ) (o : Objective) (r : Result Handle SessionRefused) → NodeTold n → NodeTold (listened n stream session o r).node
  unfolding with_sessions
  listened_told n stream session o (Ok h) a = a
  listened_told n stream session o (Err refused) a = declines_told n stream session busy a

  request_told : (n : NodeState) (stream session : ℕ) (o : Objective) → NodeTold n → NodeTold (hear_request n stream session o).node
  request_told n stream session o a = by_test (is_listened n.registrations o) where
    by_test : (b : Bool) → NodeTold (cond b (listened n stream session o (start_reply n.sessions)) (declines n stream session unlistened)).node
    by_test true = listened_told n stream session o (start_reply n.sessions) a
    by_test false = declines_told n stream session unlistened a

  synched_told : (n : NodeState) (stream session : ℕ) (o : Objective) (value : Option DataItem) → NodeTold n → NodeTold (synched n stream session o value).node
  synched_told n stream session o None a = declines_told n stream session unlistened a
  synched_told n stream session o (Some value) a = answer_told n stream (Synch session (record o { value = Some value })) a

  synchronization_told : (n : NodeState) (stream session : ℕ) (o : Objective) → NodeTold n → NodeTold (hear_synchronization n stream session o).node
  synchronization_told n stream session o a = by_test (has_synch o.flags) where
    by_test : (b : Bool) → NodeTold (cond b (synched n stream session o (value_offered n.registrations o.name)) (declines n stream session unlistened)).node
    by_test true = synched_told n stream session o (value_offered n.registrations o.name) a
    by_test false = declines_told n stream session unlistened a

  neighbour_told : (n : NodeState) (o : Option Neighbour) (m : Message) → NodeTold n → NodeTold (dial_neighbour n o m)
  neighbour_told n None m a = a
  neighbour_told n (Some neighbour) m a = dial_told n neighbour.locator m a

  sent_on_told : (n : NodeState) (m : Message) (asker : Option (Answered × Topic)) → NodeTold n → NodeTold (sent_on n m asker)
  sent_on_told n m (Some (Relay cause, topic)) a = neighbour_told n (neighbour_at n cause.link cause.from) m a
  sent_on_told n m _ a = a

  responded_told : (n : NodeState) (ttl : ℕ) (locators : List Locator) (m : Message) (asker : Option (Answered × Topic)) → NodeTold n → NodeTold (responded n ttl locators m asker)
  unfolding with_discoveries
  responded_told n ttl locators m asker a = sent_on_told (with_discoveries n (after_answered n.discoveries (end_of n.reading ttl) locators asker)) m asker a

  first_told : (n : NodeState) (stream : ℕ) (m : Message) → NodeTold n → NodeTold (hear_first n stream m).node
  first_told n stream Noop a = a
  first_told n stream (ReqNeg session o) a = request_told n stream session o a
  first_told n stream (ReqSyn session o) a = synchronization_told n stream session o a
  first_told n stream (Response session initiator ttl told o) a =
      responded_told n ttl (answered_with told) (Response session initiator ttl told o) (asker_of n.discoveries n.plan.address (origin_of session initiator)) a
  first_told n stream (Invalid session detail) a = a
  first_told n stream (Discovery session initiator o) a = answer_told n stream (Invalid session None) a
  first_told n stream (Negotiate session o) a = answer_told n stream (Invalid session None) a
  first_told n stream (End session verdict) a = answer_told n stream (Invalid session None) a
  first_told n stream (Wait session millis) a = answer_told n stream (Invalid session None) a
  first_told n stream (Synch session o) a = answer_told n stream (Invalid session None) a
  first_told n stream (Flood session initiator ttl parts) a = answer_told n stream (Invalid session None) a

  message_told : (n : NodeState) (stream : ℕ) (m : Message) → NodeTold n → NodeTold (hear n stream m).node
  unfolding hear
  message_told n stream m a = by_state (state_reply n.sessions stream) where
    by_state : (o : Option (ℕ × Bool)) → NodeTold (hear_by n stream m o).node
    by_state None = first_told n stream m a
    by_state (Some state) = later_told n stream m (receive_reply n.sessions stream m) a

  -- ---- the messages of a piece, one after the other

  hear_on_told : (stream : ℕ) (x : Heard) (m : Message) → NodeTold x.node → NodeTold (hear_on stream x m).node
  hear_on_told stream x m a = by_test x.is_open where
    by_test : (b : Bool) → NodeTold (cond b (hear x.node stream m) x).node
    by_test true = message_told x.node stream m a
    by_test false = a

  hear_all_told : (stream : ℕ) (ms : List Message) (x : Heard) → NodeTold x.node → NodeTold (hear_all stream ms x).node
  unfolding hear_all
  hear_all_told stream [] x a = a
  hear_all_told stream (m ∷ ms) x a = hear_all_told stream ms (hear_on stream x m) (hear_on_told stream x m a)

  hear_fault_told : (stream : ℕ) (x : Heard) → NodeTold x.node → NodeTold (hear_fault stream x).node
  hear_fault_told stream x a = by_test x.is_open where
    by_test : (b : Bool) → NodeTold (cond b (shuts (after_refusal x.node stream)) x).node
    by_test true = refusal_told x.node stream a
    by_test false = a

  hear_rest_told : (stream : ℕ) (rest : RestKind) (x : Heard) → NodeTold x.node → NodeTold (hear_rest stream rest x).node
  hear_rest_told stream waiting x a = a
  hear_rest_told stream _ x a = hear_fault_told stream x a

  heard_told : (n : NodeState) (stream : ℕ) (added : Added) → NodeTold n → NodeTold (heard n stream added).node
  heard_told n stream added a = hear_rest_told stream added.kind (hear_all stream added.messages (stays n)) (hear_all_told stream added.messages (stays n) a)

  left_told : (stream : ℕ) (past : Past) (x : Heard) → NodeTold x.node → NodeTold (left_as stream past x)
  left_told stream past x a = by_test x.is_open where
    by_test : (b : Bool) → NodeTold (cond b (keep_past x.node stream past) x.node)
    by_test true = keep_past_told x.node stream past a
    by_test false = a

  bytes_on_told : (n : NodeState) (stream : ℕ) (piece : List ℕ) (added : Added) (o : Option Past) → NodeTold n → NodeTold (bytes_on n stream piece added o)
  bytes_on_told n stream piece added None a = a
  bytes_on_told n stream piece added (Some past) a =
      either (nat_le (length past.fed + length piece) most_bytes) (left_as stream (past_after past piece added) (heard (begin_closing n stream) stream added)) (broken n stream)
      (left_told stream (past_after past piece added) (heard (begin_closing n stream) stream added) (heard_told (begin_closing n stream) stream added (closing_told n stream a)))
      (ended_told n stream Closed a)

  bytes_told : (n : NodeState) (stream : ℕ) (piece : List ℕ) (added : Added) → NodeTold n → NodeTold (after_bytes n stream piece added)
  unfolding after_bytes
  bytes_told n stream piece added a = bytes_on_told n stream piece added (past_of n.streams stream) a

  starving_told : (n : NodeState) (stream : ℕ) (piece : List ℕ) (added : Added) (after : NodeState) → StarvesAt n stream piece added after → NodeTold n → NodeTold after
  starving_told n stream piece added after s a =
      let x : Heard = hear_all stream s.some (stays (begin_closing n stream)) in
      subst NodeTold (sym s.after_is) (ended_told x.node stream Starved (hear_all_told stream s.some (stays (begin_closing n stream)) (closing_told n stream a)))

  pub taken_told : (n after : NodeState) (stream : ℕ) (bytes : List ℕ) (x : Coming) (r : Reply) → TakesBytes n stream bytes x r after → NodeTold n → NodeTold after
  taken_told n after stream bytes x reply.Taken e a = subst NodeTold (sym e) (bytes_told n stream bytes x.added a)
  taken_told n after stream bytes x reply.OutOfMemory s a = starving_told n stream bytes x.added after s a
  taken_told n after stream bytes x _ e a = absurd e

  pub closed_told : (n : NodeState) (stream : ℕ) → NodeTold n → NodeTold (after_closed n stream)
  unfolding after_closed
  closed_told n stream a = either (has_record n.streams stream) (broken n stream) n (ended_told n stream Closed a) a

  pub opening_told : (n : NodeState) (stream : ℕ) (from : Address) (r : Reply) → P stream from → NodeTold n → NodeTold (after_opened n stream from r)
  unfolding open_record
  opening_told n stream from reply.Taken p a = either (is_ignored n stream) n (open_record n stream from) a (opened_told n.streams stream from p a)
  opening_told n stream from _ p a = a
