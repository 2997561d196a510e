-- In each step of a node a session begins only on a stream that had none, so no two had one stream.
use Rattle.std.proofs.Common.{◌≡◌, refl, sym, subst, ℕ, nat_le, ◌+◌, length, Bool, true, false, cond, List, [], ◌∷◌, ◌++◌, Option, None, Some, Result, Ok, Err}
use Rattle.grasp_discovery.specs.Discoveries.{asker_of}
use Rattle.grasp_session.specs.Sessions.{state_reply, receive_reply, start_reply}
use Rattle.grasp_session.specs.Transcript.{Closed, Starved}
use Rattle.grasp_session.specs.declared.answer.SessionRefused.{SessionRefused}
use Rattle.grasp_types.specs.Origin.{origin_of}
use Rattle.grasp_types.specs.declared.message.Message.{Message}
use Rattle.grasp_types.specs.declared.message.Message.TheVariants.{Noop, Discovery, Response, ReqNeg, ReqSyn, Negotiate, End, Wait, Synch, Flood, Invalid}
use Rattle.grasp_types.specs.declared.objective.Objective.{Objective}
use Rattle.grasp_types.specs.declared.session.Handle.{Handle}
use Rattle.grasp_wire.specs.Cutter.{Past}
use Rattle.grasp_model_node.specs.Bytes.{Added, most_bytes, hear_on, hear_all, heard, past_after, left_as, broken, starved, bytes_on, after_bytes, StarvesAt}
use Rattle.grasp_model_node.specs.Declines.{declined_for, unlistened, busy}
use Rattle.grasp_model_node.specs.Hear.{Heard, stays, hear_later_by, is_listened, declines, untaken, listened, hear_request, hear_synchronization, answered_with, hear_first, hear_by, hear}
use Rattle.grasp_model_node.specs.Moves.{with_sessions, begin_closing, keep_past, answer}
use Rattle.grasp_model_node.specs.Node.{NodeState}
use Rattle.grasp_model_node.specs.BoundedNodes.{IsBoundedNode}
use Rattle.grasp_model_node.specs.Streams.{past_of}
use Rattle.grasp_laws_node.proofs.SessionChanges as changes
use Rattle.grasp_laws_node_stories.proofs.Delivering.{HasVoice, is_ready}
use Rattle.grasp_laws_node_stories.proofs.Facts.{no_voice}
use Rattle.grasp_laws_node_stories.proofs.Hearing.{Ready, FedHeard}
use Rattle.grasp_laws_node_stories.proofs.Pieces.{none_yet, hears_all}
use Rattle.grasp_laws_node_stories.proofs.Requesting.{IsBorn}
use Rattle.grasp_laws_node_stories.specs.StreamMoves.{view_on}
use Rattle.grasp_laws_negotiation.specs.Streams.{StreamsDiffer}
use Rattle.grasp_laws_negotiation.proofs.Lasting.{Lasts, differ_still, starts, unseen_made}
use Rattle.grasp_laws_negotiation.proofs.LastingSteps.{LastsAt, lasting}

abbrev pub Differ : NodeState → Type 0
Differ n = StreamsDiffer n.sessions

pub still : (n m : NodeState) → LastsAt n m → Differ n → Differ m
still n m l d = differ_still n.sessions m.sessions l d

-- ---- a first message

listens : (n : NodeState) (stream session : ℕ) (o : Objective) (r : Result Handle SessionRefused) → start_reply n.sessions ≡ r → view_on n stream ≡ None → Differ n → Differ (listened n stream session o r).node
unfolding with_sessions
listens n stream session o (Ok h) e none d = starts n.sessions n.reading (untaken stream session o) h e (unseen_made n.sessions stream none) d
listens n stream session o (Err refused) e none d = still n (answer n stream (End session (declined_for busy))) (changes.answers Lasts lasting n stream (End session (declined_for busy))) d

requests : (n : NodeState) (stream session : ℕ) (o : Objective) → view_on n stream ≡ None → Differ n → Differ (hear_request n stream session o).node
requests n stream session o none d = by_test (is_listened n.registrations o) where
  by_test : (b : Bool) → Differ (cond b (listened n stream session o (start_reply n.sessions)) (declines n stream session unlistened)).node
  by_test true = listens n stream session o (start_reply n.sessions) refl none d
  by_test false = still n (answer n stream (End session (declined_for unlistened))) (changes.answers Lasts lasting n stream (End session (declined_for unlistened))) d

strange : (n : NodeState) (stream session : ℕ) → Differ n → Differ (answer n stream (Invalid session None))
strange n stream session d = still n (answer n stream (Invalid session None)) (changes.answers Lasts lasting n stream (Invalid session None)) d

first : (n : NodeState) (stream : ℕ) (m : Message) → view_on n stream ≡ None → Differ n → Differ (hear_first n stream m).node
first n stream Noop none d = d
first n stream (ReqNeg session o) none d = requests n stream session o none d
first n stream (ReqSyn session o) none d = still n (hear_synchronization n stream session o).node (changes.synchronizes Lasts lasting n stream session o) d
first n stream (Response session initiator ttl told o) none d =
    differ_still n.sessions _ (changes.responds_with Lasts lasting n ttl (answered_with told) (Response session initiator ttl told o) (asker_of n.discoveries n.plan.address (origin_of session initiator))) d
first n stream (Invalid session detail) none d = d
first n stream (Discovery session initiator o) none d = strange n stream session d
first n stream (Negotiate session o) none d = strange n stream session d
first n stream (End session verdict) none d = strange n stream session d
first n stream (Wait session millis) none d = strange n stream session d
first n stream (Synch session o) none d = strange n stream session d
first n stream (Flood session initiator ttl parts) none d = strange n stream session d

-- ---- messages

hears : (n : NodeState) (stream : ℕ) (m : Message) → Ready stream true n → Differ n → Differ (hear n stream m).node
unfolding hear
hears n stream m r d = by_state (state_reply n.sessions stream) refl where
  by_state : (s : Option (ℕ × Bool)) → state_reply n.sessions stream ≡ s → Differ (hear_by n stream m s).node
  by_state None e = first n stream m (no_voice stream n e (r.voice refl)) d
  by_state (Some state) e = still n (hear_later_by n stream m (receive_reply n.sessions stream m)).node (changes.later_by Lasts lasting n stream m (receive_reply n.sessions stream m) refl) d

hears_on : (stream : ℕ) (x : Heard) (m : Message) → Ready stream x.is_open x.node → Differ x.node → Differ (hear_on stream x m).node
hears_on stream x m r d = by_test x.is_open refl where
  by_test : (b : Bool) → x.is_open ≡ b → Differ (cond b (hear x.node stream m) x).node
  by_test true e = hears x.node stream m (subst (λ (b : Bool). Ready stream b x.node) e r) d
  by_test false e = d

all_differ : (stream : ℕ) (n : NodeState) (ms : List Message) (x : Heard) (done : List Message) → FedHeard stream false n x done → Differ x.node → Differ (hear_all stream ms x).node
unfolding hear_all
all_differ stream n [] x done f d = d
all_differ stream n (m ∷ ms) x done f d =
    all_differ stream n ms (hear_on stream x m) (done ++ m ∷ []) (hears_all stream n (m ∷ []) x done f) (hears_on stream x m f.ready d)

closing_differ : (n : NodeState) (stream : ℕ) → Differ n → Differ (begin_closing n stream)
closing_differ n stream d = subst StreamsDiffer (sym (changes.closing_same n stream)) d

-- the first messages of a piece
some_differ : (stream : ℕ) (n : NodeState) (ms : List Message) → Ready stream true (begin_closing n stream) → Differ n → Differ (hear_all stream ms (stays (begin_closing n stream))).node
some_differ stream n ms r d = all_differ stream n ms (stays (begin_closing n stream)) [] (none_yet stream n r) (closing_differ n stream d)

piece_differs : (stream : ℕ) (n : NodeState) (a : Added) → Ready stream true (begin_closing n stream) → Differ n → Differ (heard (begin_closing n stream) stream a).node
piece_differs stream n a r d =
    let x : Heard = hear_all stream a.messages (stays (begin_closing n stream)) in still x.node (heard (begin_closing n stream) stream a).node (changes.rest_heard Lasts lasting stream a.kind x) (some_differ stream n a.messages r d)

-- ---- bytes

left_differ : (past : Past) (stream : ℕ) (x : Heard) → Differ x.node → Differ (left_as stream past x)
unfolding keep_past
left_differ past stream x d = by_test x.is_open where
  by_test : (b : Bool) → Differ (cond b (keep_past x.node stream past) x.node)
  by_test true = d
  by_test false = d

module _ (n : NodeState) (stream : ℕ) (k : IsBoundedNode n) (b : IsBorn stream n) (v : HasVoice stream n) (d : Differ n) where
  bytes_differ : (piece : List ℕ) (a : Added) (o : Option Past) → past_of n.streams stream ≡ o → Differ (bytes_on n stream piece a o)
  bytes_differ piece a None e = d
  bytes_differ piece a (Some past) e = by_test (nat_le (length past.fed + length piece) most_bytes) where
    by_test : (c : Bool) → Differ (cond c (left_as stream (past_after past piece a) (heard (begin_closing n stream) stream a)) (broken n stream))
    by_test true = left_differ (past_after past piece a) stream (heard (begin_closing n stream) stream a) (piece_differs stream n a (is_ready stream n past k b v e) d)
    by_test false = still n (broken n stream) (changes.ends Lasts lasting n stream Closed) d

  pub pieces_differ : (piece : List ℕ) (a : Added) → Differ (after_bytes n stream piece a)
  unfolding after_bytes
  pieces_differ piece a = bytes_differ piece a (past_of n.streams stream) refl

  pub starving_differs : (after : NodeState) (piece : List ℕ) (a : Added) → StarvesAt n stream piece a after → Differ after
  starving_differs after piece a s =
      let x : Heard = hear_all stream s.some (stays (begin_closing n stream)) in
      subst Differ (sym s.after_is) (still x.node (starved x.node stream) (changes.ends Lasts lasting x.node stream Starved) (some_differ stream n s.some (is_ready stream n s.past k b v s.was_open) d))
