-- Each message that is heard on a stream is a list of moves on it.
use Rattle.std.proofs.Common.{◌≡◌, ℕ, Bool, true, not, ◌&&◌, [], ◌∷◌, Option, Some, None, Result, Ok, Err, refl}
use Rattle.std.proofs.lemmas.Bool.{cond_both}
use Rattle.grasp_asa.specs.Answers.{value_offered}
use Rattle.grasp_cbor.specs.DataItem.{DataItem}
use Rattle.grasp_discovery.specs.Discoveries.{asker_of}
use Rattle.grasp_discovery.specs.declared.answers.Answered.{Answered}
use Rattle.grasp_discovery.specs.declared.answers.Answered.TheVariants.{Relay}
use Rattle.grasp_discovery.specs.declared.topic.Topic.{Topic}
use Rattle.grasp_session.specs.Sessions.{state_reply, receive_reply, after_mark, start_reply}
use Rattle.grasp_session.specs.Transcript.{Faulty}
use Rattle.grasp_session.specs.declared.answer.Received.{Received}
use Rattle.grasp_session.specs.declared.answer.Received.TheVariants.{Kept, Ignored, Bad}
use Rattle.grasp_session.specs.declared.answer.SessionRefused.{SessionRefused}
use Rattle.grasp_types.specs.Objective.{has_synch}
use Rattle.grasp_types.specs.Origin.{origin_of}
use Rattle.grasp_types.specs.declared.address.Locator.{Locator}
use Rattle.grasp_types.specs.declared.links.Neighbour.{Neighbour}
use Rattle.grasp_types.specs.declared.message.Message.{Message}
use Rattle.grasp_types.specs.declared.message.Message.TheVariants.{Noop, Discovery, Response, ReqNeg, ReqSyn, Negotiate, End, Wait, Synch, Flood, Invalid}
use Rattle.grasp_types.specs.declared.objective.Objective.{Objective}
use Rattle.grasp_types.specs.declared.session.Handle.{Handle}
use Rattle.grasp_model_node.specs.Declines.{declined_for, unlistened, busy}
use Rattle.grasp_model_node.specs.Hear.{Heard, refused_by, after_refusal, hear_later_by, is_listened, declines, listened, hear_request, synched, hear_synchronization, neighbour_at, dial_neighbour, sent_on, hear_first, hear_by, hear}
use Rattle.grasp_model_node.specs.Moves.{with_sessions, dial_record, queue_up, may_queue, answer, dial_with}
use Rattle.grasp_model_node.specs.Node.{NodeState}
use Rattle.grasp_model_node.specs.Queue.{send}
use Rattle.grasp_model_node.specs.Streams.{is_dialled_out}
use Rattle.grasp_laws_node.proofs.Walk.Moves as move
use Rattle.grasp_laws_node.proofs.Walk.Moves.{Known, Moves, IsResponse, IsAnswer, on_stream, next_dial, further}

module _ (k : Known) (base start : NodeState) (stream : ℕ) (open_so : k.stream stream) where
  -- moves on the stream lead to this node
  abbrev pub To : NodeState → Type 0
  To n = Moves k base (on_stream stream) start n

  -- ---- what is sent

  answer_moves : (n : NodeState) (m : Message) → IsAnswer m → To n → To (answer n stream m)
  answer_moves n m i w = cond_both (may_queue n m 1) (queue_up n (send stream m ∷ [])) n To (λ e. further w (move.answers m i open_so e)) (λ e. w)

  dial_with_moves : (n : NodeState) (to : Locator) (m : Message) → IsResponse m → k.message m → To n → To (dial_with n to m)
  dial_with_moves n to m i so w =
      cond_both (may_queue n m 2 && not (is_dialled_out n.streams)) (dial_record (queue_up n (next_dial n to m)) None) n To (λ e. further w (move.responds to m i so e)) (λ e. w)

  -- ---- a later message

  marked_moves : (n : NodeState) (m : Message) → IsAnswer m → To n → To (with_sessions (answer n stream m) (after_mark n.sessions stream Faulty))
  unfolding queue_up
  marked_moves n m i w =
      cond_both (may_queue n m 1) (queue_up n (send stream m ∷ [])) n (λ a. To (with_sessions a (after_mark n.sessions stream Faulty)))
      (λ e. further (further w (move.answers m i open_so e)) (move.marks Faulty))
      (λ e. further w (move.marks Faulty))

  refused_moves : (n : NodeState) (o : Option (ℕ × Bool)) → To n → To (refused_by n stream o)
  refused_moves n None w = w
  refused_moves n (Some state) w =
      cond_both state.1 n (with_sessions (answer n stream (Invalid state.0 None)) (after_mark n.sessions stream Faulty)) To (λ e. w) (λ e. marked_moves n (Invalid state.0 None) tt w)

  pub refusal_moves : (n : NodeState) → To n → To (after_refusal n stream)
  refusal_moves n w = refused_moves n (state_reply n.sessions stream) w

  later_moves : (n : NodeState) (m : Message) (r : Received) → receive_reply n.sessions stream m ≡ r → To n → To (hear_later_by n stream m r).node
  later_moves n m Kept e w = further w (move.keeps m e)
  later_moves n m Ignored e w = w
  later_moves n m Bad e w = refusal_moves n w

  -- ---- a first message

  listened_moves : (n : NodeState) (session : ℕ) (o : Objective) (r : Result Handle SessionRefused) → start_reply n.sessions ≡ r → state_reply n.sessions stream ≡ None → is_listened n.registrations o ≡ true → To n
      → To (listened n stream session o r).node
  listened_moves n session o (Ok h) e free heard w = further w (move.listens session o h open_so e free heard)
  listened_moves n session o (Err refused) e free heard w = answer_moves n (End session (declined_for busy)) tt w

  request_moves : (n : NodeState) (session : ℕ) (o : Objective) → state_reply n.sessions stream ≡ None → To n → To (hear_request n stream session o).node
  request_moves n session o free w =
      cond_both (is_listened n.registrations o) (listened n stream session o (start_reply n.sessions)) (declines n stream session unlistened) (λ (x : Heard). To x.node)
      (λ e. listened_moves n session o (start_reply n.sessions) refl free e w)
      (λ e. answer_moves n (End session (declined_for unlistened)) tt w)

  synched_moves : (n : NodeState) (session : ℕ) (o : Objective) (value : Option DataItem) → To n → To (synched n stream session o value).node
  synched_moves n session o None w = answer_moves n (End session (declined_for unlistened)) tt w
  synched_moves n session o (Some value) w = answer_moves n (Synch session (record o { value = Some value })) tt w

  synchronization_moves : (n : NodeState) (session : ℕ) (o : Objective) → To n → To (hear_synchronization n stream session o).node
  synchronization_moves n session o w =
      cond_both (has_synch o.flags) (synched n stream session o (value_offered n.registrations o.name)) (declines n stream session unlistened) (λ (x : Heard). To x.node)
      (λ e. synched_moves n session o (value_offered n.registrations o.name) w)
      (λ e. answer_moves n (End session (declined_for unlistened)) tt w)

  neighbour_moves : (n : NodeState) (o : Option Neighbour) (m : Message) → IsResponse m → k.message m → To n → To (dial_neighbour n o m)
  neighbour_moves n None m i so w = w
  neighbour_moves n (Some neighbour) m i so w = dial_with_moves n neighbour.locator m i so w

  sent_on_moves : (n : NodeState) (m : Message) (asker : Option (Answered × Topic)) → IsResponse m → k.message m → To n → To (sent_on n m asker)
  sent_on_moves n m (Some (Relay cause, topic)) i so w = neighbour_moves n (neighbour_at n cause.link cause.from) m i so w
  sent_on_moves n m _ i so w = w

  first_moves : (n : NodeState) (m : Message) → k.message m → state_reply n.sessions stream ≡ None → To n → To (hear_first n stream m).node
  first_moves n Noop i free w = w
  first_moves n (ReqNeg session o) i free w = request_moves n session o free w
  first_moves n (ReqSyn session o) i free w = synchronization_moves n session o w
  first_moves n (Response session initiator ttl told o) i free w =
      sent_on_moves _ (Response session initiator ttl told o) (asker_of n.discoveries n.plan.address (origin_of session initiator)) tt i (further w (move.caches session initiator ttl told o i))
  first_moves n (Invalid session detail) i free w = w
  first_moves n (Discovery session initiator o) i free w = answer_moves n (Invalid session None) tt w
  first_moves n (Negotiate session o) i free w = answer_moves n (Invalid session None) tt w
  first_moves n (End session verdict) i free w = answer_moves n (Invalid session None) tt w
  first_moves n (Wait session millis) i free w = answer_moves n (Invalid session None) tt w
  first_moves n (Synch session o) i free w = answer_moves n (Invalid session None) tt w
  first_moves n (Flood session initiator ttl parts) i free w = answer_moves n (Invalid session None) tt w

  pub message_moves : (n : NodeState) (m : Message) → k.message m → To n → To (hear n stream m).node
  unfolding hear
  message_moves n m i w = by_state (state_reply n.sessions stream) refl where
    by_state : (o : Option (ℕ × Bool)) → state_reply n.sessions stream ≡ o → To (hear_by n stream m o).node
    by_state None e = first_moves n m i e w
    by_state (Some state) e = later_moves n m (receive_reply n.sessions stream m) refl w
