-- While messages come from peers the sessions of an agent go on, and each session is whose it may be.
use Rattle.std.proofs.Common.{◌<◌, ◌≡◌, refl, sym, subst, arith, ℕ, ◌+◌, Bool, true, false, cond, nat_le, List, [], ◌∷◌, length, Option, None, Some, Result, Ok, Err}
use Rattle.grasp_discovery.specs.Discoveries.{asker_of}
use Rattle.grasp_session.specs.Sessions.{state_reply, receive_reply, start_reply}
use Rattle.grasp_session.specs.Transcript.{Closed, Starved}
use Rattle.grasp_session.specs.declared.answer.SessionRefused.{SessionRefused}
use Rattle.grasp_types.specs.Origin.{origin_of}
use Rattle.grasp_types.specs.declared.address.Address.{Address}
use Rattle.grasp_types.specs.declared.message.Message.{Message}
use Rattle.grasp_types.specs.declared.message.Message.TheVariants.{Noop, Discovery, Response, ReqNeg, ReqSyn, Negotiate, End, Wait, Synch, Flood, Invalid}
use Rattle.grasp_types.specs.declared.objective.Objective.{Objective}
use Rattle.grasp_types.specs.declared.reply.Reply.{Reply}
use Rattle.grasp_types.specs.declared.reply.Reply.TheVariants as reply
use Rattle.grasp_types.specs.declared.session.Handle.{Handle}
use Rattle.grasp_wire.specs.Cutter.{Past}
use Rattle.grasp_model_node.specs.Begin.{begin}
use Rattle.grasp_model_node.specs.Bytes.{Added, most_bytes, hear_on, hear_all, heard, past_after, left_as, broken, starved, bytes_on, after_bytes, StarvesAt, after_closed}
use Rattle.grasp_model_node.specs.Declines.{declined_for, unlistened, busy}
use Rattle.grasp_model_node.specs.Hear.{Heard, stays, is_listened, declines, untaken, listened, hear_request, answered_with, hear_first, hear_by, hear}
use Rattle.grasp_model_node.specs.Moves.{with_sessions, begin_closing, keep_past, answer}
use Rattle.grasp_model_node.specs.Node.{NodeState}
use Rattle.grasp_model_node.specs.Opening.{after_opened}
use Rattle.grasp_model_node.specs.Step.{Coming, TakesBytes}
use Rattle.grasp_model_node.specs.Streams.{past_of}
use Rattle.grasp_laws_node.proofs.SessionChanges as changes
use Rattle.grasp_laws_node.proofs.SessionChanges.{Changes}
use Rattle.grasp_laws_owned.proofs.Owned as owned
use Rattle.grasp_laws_owned.proofs.Owned.{Same}

module _ (me : ℕ) (mine : List ℕ) (least : 0 < me) where
  abbrev pub SameAt : NodeState → NodeState → Type 0
  SameAt n m = Same me mine n.sessions m.sessions

  same_changes : Changes (Same me mine)
  same_changes = record { self = owned.self me mine least; and_then = owned.and_then me mine least; marks_on = owned.marks_on me mine least; expires = owned.expires me mine least; keeps = owned.keeps me mine least }

  -- ---- a first message

  answers : (n : NodeState) (stream : ℕ) (m : Message) → SameAt n (answer n stream m)
  answers n stream m = changes.answers (Same me mine) same_changes n stream m

  listens : (n : NodeState) (stream session : ℕ) (o : Objective) (r : Result Handle SessionRefused) → start_reply n.sessions ≡ r → SameAt n (listened n stream session o r).node
  unfolding with_sessions
  listens n stream session o (Ok h) e =
      owned.starts me mine least n.sessions n.reading (untaken stream session o) h e (λ f. absurd (omega (arith, f, least)))
      (record { own = λ f. absurd (omega (arith, f, least)); foreign = λ f g. absurd (f refl); untaken = λ f. refl; unsaid = λ f. record { listens = refl; unmade = refl; unaccepted = refl } })
  listens n stream session o (Err refused) e = answers n stream (End session (declined_for busy))

  requests : (n : NodeState) (stream session : ℕ) (o : Objective) → SameAt n (hear_request n stream session o).node
  requests n stream session o = by_test (is_listened n.registrations o) where
    by_test : (b : Bool) → SameAt n (cond b (listened n stream session o (start_reply n.sessions)) (declines n stream session unlistened)).node
    by_test true = listens n stream session o (start_reply n.sessions) refl
    by_test false = answers n stream (End session (declined_for unlistened))

  first : (n : NodeState) (stream : ℕ) (m : Message) → SameAt n (hear_first n stream m).node
  first n stream Noop = owned.self me mine least n.sessions
  first n stream (ReqNeg session o) = requests n stream session o
  first n stream (ReqSyn session o) = changes.synchronizes (Same me mine) same_changes n stream session o
  first n stream (Response session initiator ttl told o) =
      changes.responds_with (Same me mine) same_changes n ttl (answered_with told) (Response session initiator ttl told o) (asker_of n.discoveries n.plan.address (origin_of session initiator))
  first n stream (Invalid session detail) = owned.self me mine least n.sessions
  first n stream (Discovery session initiator o) = answers n stream (Invalid session None)
  first n stream (Negotiate session o) = answers n stream (Invalid session None)
  first n stream (End session verdict) = answers n stream (Invalid session None)
  first n stream (Wait session millis) = answers n stream (Invalid session None)
  first n stream (Synch session o) = answers n stream (Invalid session None)
  first n stream (Flood session initiator ttl parts) = answers n stream (Invalid session None)

  -- ---- messages

  hears_by : (n : NodeState) (stream : ℕ) (m : Message) (state : Option (ℕ × Bool)) → SameAt n (hear_by n stream m state).node
  hears_by n stream m None = first n stream m
  hears_by n stream m (Some state) = changes.later_by (Same me mine) same_changes n stream m (receive_reply n.sessions stream m) refl

  hears : (n : NodeState) (stream : ℕ) (m : Message) → SameAt n (hear n stream m).node
  unfolding hear
  hears n stream m = hears_by n stream m (state_reply n.sessions stream)

  hears_on : (stream : ℕ) (x : Heard) (m : Message) → SameAt x.node (hear_on stream x m).node
  hears_on stream x m = by_test x.is_open where
    by_test : (b : Bool) → SameAt x.node (cond b (hear x.node stream m) x).node
    by_test true = hears x.node stream m
    by_test false = owned.self me mine least x.node.sessions

  hears_all : (stream : ℕ) (ms : List Message) (x : Heard) → SameAt x.node (hear_all stream ms x).node
  unfolding hear_all
  hears_all stream [] x = owned.self me mine least x.node.sessions
  hears_all stream (m ∷ ms) x =
      owned.and_then me mine least x.node.sessions (hear_on stream x m).node.sessions (hear_all stream ms (hear_on stream x m)).node.sessions (hears_on stream x m) (hears_all stream ms (hear_on stream x m))

  hears_piece : (n : NodeState) (stream : ℕ) (a : Added) → SameAt n (heard n stream a).node
  hears_piece n stream a =
      owned.and_then me mine least n.sessions (hear_all stream a.messages (stays n)).node.sessions (heard n stream a).node.sessions (hears_all stream a.messages (stays n)) (changes.rest_heard (Same me mine) same_changes stream a.kind (hear_all stream a.messages (stays n)))

  -- ---- bytes

  cached : (n : NodeState) (m : NodeState) → m.sessions ≡ n.sessions → (after : NodeState) → SameAt m after → SameAt n after
  cached n m e after s = subst (λ z. Same me mine z after.sessions) e s

  leaves_as : (n : NodeState) (past : Past) (stream : ℕ) (x : Heard) → SameAt n x.node → SameAt n (left_as stream past x)
  unfolding keep_past
  leaves_as n past stream x s = changes.either (Same me mine) same_changes n x.is_open (keep_past x.node stream past) x.node s s

  takes_on : (n : NodeState) (stream : ℕ) (piece : List ℕ) (a : Added) (past : Option Past) → SameAt n (bytes_on n stream piece a past)
  takes_on n stream piece a None = owned.self me mine least n.sessions
  takes_on n stream piece a (Some past) =
      changes.either (Same me mine) same_changes n (nat_le (length past.fed + length piece) most_bytes) (left_as stream (past_after past piece a) (heard (begin_closing n stream) stream a)) (broken n stream)
      (leaves_as n (past_after past piece a) stream (heard (begin_closing n stream) stream a)
      (cached n (begin_closing n stream) (changes.closing_same n stream) (heard (begin_closing n stream) stream a).node (hears_piece (begin_closing n stream) stream a)))
      (changes.ends (Same me mine) same_changes n stream Closed)

  takes_bytes : (n : NodeState) (stream : ℕ) (piece : List ℕ) (a : Added) → SameAt n (after_bytes n stream piece a)
  unfolding after_bytes
  takes_bytes n stream piece a = takes_on n stream piece a (past_of n.streams stream)

  starves : (n after : NodeState) (stream : ℕ) (piece : List ℕ) (a : Added) → StarvesAt n stream piece a after → SameAt n after
  starves n after stream piece a s =
      let x : Heard = hear_all stream s.some (stays (begin_closing n stream)) in
      subst (SameAt n) (sym s.after_is)
      (owned.and_then me mine least n.sessions x.node.sessions (starved x.node stream).sessions
      (cached n (begin_closing n stream) (changes.closing_same n stream) x.node (hears_all stream s.some (stays (begin_closing n stream)))) (changes.ends (Same me mine) same_changes x.node stream Starved))

  pub bytes_come : (n after : NodeState) (stream : ℕ) (bytes : List ℕ) (x : Coming) (r : Reply) → TakesBytes n stream bytes x r after → SameAt n after
  bytes_come n after stream bytes x reply.Taken e = subst (SameAt n) (sym e) (takes_bytes n stream bytes x.added)
  bytes_come n after stream bytes x reply.OutOfMemory s = starves n after stream bytes x.added s
  bytes_come n after stream bytes x _ e = absurd e

  -- ---- an opening, a closing and the beginning of a step

  pub opening_comes : (n : NodeState) (stream : ℕ) (from : Address) (r : Reply) → SameAt n (after_opened n stream from r)
  opening_comes n stream from r = changes.opening_comes (Same me mine) same_changes n stream from r

  pub closing_comes : (n : NodeState) (stream : ℕ) → SameAt n (after_closed n stream)
  closing_comes n stream = changes.closing_comes (Same me mine) same_changes n stream

  pub begins : (n : NodeState) (now : ℕ) → SameAt n (begin n now)
  begins n now = changes.begins (Same me mine) same_changes n now
