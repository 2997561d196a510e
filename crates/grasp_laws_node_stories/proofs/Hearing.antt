-- One message that comes on an open stream: the moves of that stream.
use Rattle.std.proofs.Common.{◌≡◌, ◌≤◌, ℕ, Bool, true, false, cond, not, ◌==◌, List, [], ◌∷◌, ◌++◌, length, ◌⊎◌, inl, inr, Option, None, Some, Result, Ok, Err, refl, sym, ap, ◌∙◌, subst, arith}
use Rattle.std.proofs.lemmas.Bool.{true≢false, false≢true, eqb-true, eq-eqb}
use Rattle.std.proofs.lemmas.List.{append-nil, get_or-set_same}
use Rattle.grasp_asa.specs.Answers.{value_offered}
use Rattle.grasp_cbor.proofs.Facts.Numbers.{itself}
use Rattle.grasp_cbor.specs.DataItem.{DataItem}
use Rattle.grasp_laws_node.proofs.Consistent.Table.{none_lies}
use Rattle.grasp_session.proofs.Means.{IsKept, kept_means}
use Rattle.grasp_laws_session.proofs.Runs.{calls_go_on, calls_in_order, some_state}
use Rattle.grasp_laws_session.proofs.Says.{started}
use Rattle.grasp_laws_session.proofs.Streams.{is_least, none_is_left}
use Rattle.grasp_session.proofs.Tables.{state_slot}
use Rattle.grasp_session.specs.Runs.{Reached, AreInOrder, Begins, Takes, EndsBy}
use Rattle.grasp_session.specs.Says.{IsAt}
use Rattle.grasp_session.specs.Sessions.{SessionState, Sessions, with_transcript, begun_state, session_at, found, changed, on_stream, state_reply, receive_reply, after_receive, mark_at, after_mark, start_reply, after_start}
use Rattle.grasp_session.specs.Transcript.{Transcript, Faulty, session_of, is_going, receive, receive_going, after_heard, with_kept, with_mark, marked}
use Rattle.grasp_session.specs.declared.answer.Received.{Received}
use Rattle.grasp_session.specs.declared.answer.Received.TheVariants.{Kept, Ignored, Bad}
use Rattle.grasp_session.specs.declared.answer.SessionRefused.{SessionRefused}
use Rattle.grasp_types.specs.Objective.{has_synch}
use Rattle.grasp_types.specs.declared.message.Message.{Message}
use Rattle.grasp_types.specs.declared.message.Message.TheVariants.{Noop, ReqNeg, ReqSyn, End, Synch, Invalid}
use Rattle.grasp_types.specs.declared.objective.Objective.{Objective}
use Rattle.grasp_types.specs.declared.session.Handle.{Handle}
use Rattle.grasp_model_node.proofs.Facts.{proper}
use Rattle.grasp_model_node.specs.Declines.{declined_for, unlistened, busy}
use Rattle.grasp_model_node.specs.Hear.{Heard, stays, shuts, goes_on, refused_by, after_refusal, kept, hear_later_by, is_listened, declines, untaken, listened, hear_request, synched, hear_synchronization}
use Rattle.grasp_model_node.specs.Moves.{with_sessions, queue_up, may_queue, answer}
use Rattle.grasp_model_node.specs.Node.{NodeState}
use Rattle.grasp_model_node.specs.Queue.{Queued, send}
use Rattle.grasp_model_node.specs.BoundedNodes.{IsGiven}
use Rattle.grasp_laws_node_stories.specs.StreamMoves.{view_in, view_on, StreamMove, Listens, Refuses, Hears, Skips, Faults, Passes, after_move, said_by, heard_in, is_dial, is_fault, is_last_move, some_move, MayPass, MayMoves, invalid_told}
use Rattle.grasp_laws_node_stories.proofs.Acting.{mark_here}
use Rattle.grasp_laws_node_stories.proofs.Parts.{Part, changes, sends_here}
use Rattle.grasp_laws_node_stories.proofs.Records.{AllShut}
use Rattle.grasp_laws_node_stories.proofs.Views.{live_here, changed_here, started_here}

-- ---- a node that hears messages of a stream, which counts as closing meanwhile

pub record Ready (stream : ℕ) (still : Bool) (n : NodeState) : Type 0 where
  pub reached : Reached n.sessions
  pub given : IsGiven n.streams.dialled stream
  pub shut : AllShut stream n.streams.records
  pub voice : still ≡ true → (view_on n stream ≡ None) ⊎ (goes_on (state_reply n.sessions stream) ≡ true)

-- the node has heard the first of these messages, which came on the stream with a fault behind them or without
pub record FedHeard (stream : ℕ) (bad : Bool) (n : NodeState) (x : Heard) (ms : List Message) : Type 0 where
  pub moves : List StreamMove
  pub part : Part stream n x.node moves
  pub unheard : List Message
  pub heard : ms ≡ heard_in moves ++ unheard
  pub no_fault : bad ≡ false → some_move is_fault moves ≡ false
  pub no_dial : some_move is_dial moves ≡ false
  pub all_heard : x.is_open ≡ true → unheard ≡ []
  pub none_last : x.is_open ≡ true → some_move is_last_move moves ≡ false
  pub ready : Ready stream x.is_open x.node

pub ready_shut : (stream : ℕ) (n : NodeState) → Ready stream true n → Ready stream false n
ready_shut stream n r = record { reached = r.reached; given = r.given; shut = r.shut; voice = λ e. absurd (false≢true e) }

ready_queued : (stream : ℕ) (n : NodeState) (outputs : List Queued) → Ready stream false n → Ready stream false (queue_up n outputs)
unfolding queue_up
ready_queued stream n outputs r = record { reached = r.reached; given = r.given; shut = r.shut; voice = λ e. absurd (false≢true e) }

-- ---- a first message

-- a move that begins nothing
pub silent_part : (stream : ℕ) (n : NodeState) (m : StreamMove) → view_on n stream ≡ None → MayMoves None (m ∷ []) → after_move None m ≡ None → said_by None m ≡ [] → Part stream n n (m ∷ [])
silent_part stream n m none may after said = record {
  may = subst (λ v. MayMoves v (m ∷ [])) (sym none) may;
  view = none ∙ (sym after ∙ sym (ap (λ v. after_move v m) none));
  more = [];
  queued = sym (append-nil n.queue);
  said = sym (append-nil (said_by (view_on n stream) m) ∙ (ap (λ v. said_by v m) none ∙ said));
  no_fewer = itself n.streams.dialled;
}

said_part : (stream : ℕ) (n : NodeState) (reply : Message) (m : StreamMove) → view_on n stream ≡ None → MayMoves None (m ∷ []) → after_move None m ≡ None → said_by None m ≡ reply ∷ []
    → Part stream n (queue_up n (send stream reply ∷ [])) (m ∷ [])
unfolding queue_up
said_part stream n reply m none may after said = record {
  may = subst (λ v. MayMoves v (m ∷ [])) (sym none) may;
  view = none ∙ (sym after ∙ sym (ap (λ v. after_move v m) none));
  more = send stream reply ∷ [];
  queued = refl;
  said = sends_here stream reply ∙ sym (append-nil (said_by (view_on n stream) m) ∙ (ap (λ v. said_by v m) none ∙ said));
  no_fewer = itself n.streams.dialled;
}

-- a request is declined, where there is room for it
refuses : (stream : ℕ) (n : NodeState) (session : ℕ) (o : Objective) (reason : List ℕ) → Ready stream true n → view_on n stream ≡ None → FedHeard stream false n (declines n stream session reason) (ReqNeg session o ∷ [])
refuses stream n session o reason r none = by_test (may_queue n reply 1) where
  reply : Message
  reply = End session (declined_for reason)

  by_test : (b : Bool) → FedHeard stream false n (shuts (cond b (queue_up n (send stream reply ∷ [])) n)) (ReqNeg session o ∷ [])
  by_test true = record {
    moves = Refuses session o (Some reason) ∷ [];
    part = said_part stream n reply (Refuses session o (Some reason)) none (tt, (λ e. refl), tt) refl refl;
    unheard = [];
    heard = refl;
    no_fault = λ e. refl;
    no_dial = refl;
    all_heard = λ e. refl;
    none_last = λ e. absurd (false≢true e);
    ready = ready_queued stream n (send stream reply ∷ []) (ready_shut stream n r);
  }
  by_test false = record {
    moves = Passes (ReqNeg session o) [] ∷ [];
    part = silent_part stream n (Passes (ReqNeg session o) []) none (refl, (λ e. refl), tt) refl refl;
    unheard = [];
    heard = refl;
    no_fault = λ e. refl;
    no_dial = refl;
    all_heard = λ e. refl;
    none_last = λ e. absurd (false≢true e);
    ready = ready_shut stream n r;
  }

-- another first message is passed
pub passes : (stream : ℕ) (n : NodeState) (m : Message) → Ready stream true n → view_on n stream ≡ None → MayPass m [] → FedHeard stream false n (shuts n) (m ∷ [])
passes stream n m r none may = record {
  moves = Passes m [] ∷ [];
  part = silent_part stream n (Passes m []) none (may, (λ e. refl), tt) refl refl;
  unheard = [];
  heard = refl;
  no_fault = λ e. refl;
  no_dial = refl;
  all_heard = λ e. refl;
  none_last = λ e. absurd (false≢true e);
  ready = ready_shut stream n r;
}

-- a first message that makes no session is answered, where there is room for the answer
pub answers : (stream : ℕ) (n : NodeState) (m reply : Message) → Ready stream true n → view_on n stream ≡ None → MayPass m [] → MayPass m (reply ∷ []) → FedHeard stream false n (shuts (answer n stream reply)) (m ∷ [])
answers stream n m reply r none silent may = by_test (may_queue n reply 1) where
  by_test : (b : Bool) → FedHeard stream false n (shuts (cond b (queue_up n (send stream reply ∷ [])) n)) (m ∷ [])
  by_test true = record {
    moves = Passes m (reply ∷ []) ∷ [];
    part = said_part stream n reply (Passes m (reply ∷ [])) none (may, (λ e. refl), tt) refl refl;
    unheard = [];
    heard = refl;
    no_fault = λ e. refl;
    no_dial = refl;
    all_heard = λ e. refl;
    none_last = λ e. absurd (false≢true e);
    ready = ready_queued stream n (send stream reply ∷ []) (ready_shut stream n r);
  }
  by_test false = passes stream n m r none silent

pub skips : (stream : ℕ) (n : NodeState) → Ready stream true n → view_on n stream ≡ None → FedHeard stream false n (stays n) (Noop ∷ [])
skips stream n r none = record {
  moves = Skips ∷ [];
  part = silent_part stream n Skips none (tt, (λ e. refl), tt) refl refl;
  unheard = [];
  heard = refl;
  no_fault = λ e. refl;
  no_dial = refl;
  all_heard = λ e. refl;
  none_last = λ e. refl;
  ready = r;
}

-- ---- the session on a stream

-- a live session is on this stream
pub record Live (z : Sessions) (stream : ℕ) : Type 0 where
  pub handle : Handle
  pub state : SessionState
  pub on : on_stream z stream ≡ Some handle
  pub at : session_at z handle ≡ Some state
  pub lies : state.stream ≡ stream

abbrev state_found : Option SessionState → Option (ℕ × Bool)
state_found None = None
state_found (Some x) = Some (session_of x.view, not (is_going x.view))

pub live_of : (z : Sessions) (stream : ℕ) (state : ℕ × Bool) → state_reply z stream ≡ Some state → Live z stream
live_of z stream state e = by_handle (on_stream z stream) refl e where
  by_handle : (h : Option Handle) → on_stream z stream ≡ h → state_found (found z h) ≡ Some state → Live z stream
  by_handle None f g = absurd (cc)
  by_handle (Some h) f g = let l = is_least z (λ y. y.stream == stream) h f in record { handle = h; state = l.state; on = f; at = l.at; lies = eqb-true l.state.stream stream l.passes }

pub state_is : (z : Sessions) (stream : ℕ) (h : Handle) (y : SessionState) → on_stream z stream ≡ Some h → session_at z h ≡ Some y → state_reply z stream ≡ Some (session_of y.view, not (is_going y.view))
state_is z stream h y e f = rw (e, f) refl

not_not : (b : Bool) → b ≡ true → not (not b) ≡ true
not_not true e = refl
not_not false e = absurd (false≢true e)

pub live_goes : (z : Sessions) (stream place : ℕ) (x : SessionState) → AreInOrder z → IsAt z place x → x.stream ≡ stream → is_going x.view ≡ true → goes_on (state_reply z stream) ≡ true
live_goes z stream place x o at on going = by_handle (on_stream z stream) refl where
  by_handle : (h : Option Handle) → on_stream z stream ≡ h → goes_on (state_reply z stream) ≡ true
  by_handle None f = absurd (true≢false (sym (eq-eqb x.stream stream on) ∙ none_is_left z (λ y. y.stream == stream) place x f at))
  by_handle (Some h) f =
      let l = is_least z (λ y. y.stream == stream) h f in
      let y : SessionState = l.state in
      let one : h.place ≡ place = o.streams h.place place y x l.place at (eqb-true y.stream stream l.passes ∙ sym on) in
      let same : x ≡ y = some_state x y (sym at ∙ subst (λ q. IsAt z q y) one l.place) in
      ap goes_on (state_is z stream h y f l.at) ∙ not_not (is_going y.view) (subst (λ (u : SessionState). is_going u.view ≡ true) same going)

-- ---- a request for which a session begins

begins : (stream : ℕ) (n : NodeState) (session : ℕ) (o : Objective) (h : Handle) → start_reply n.sessions ≡ Ok h → state_reply n.sessions stream ≡ None → Ready stream true n → view_on n stream ≡ None
    → FedHeard stream false n (stays (with_sessions n (after_start n.sessions n.reading (untaken stream session o) (Ok h)))) (ReqNeg session o ∷ [])
unfolding with_sessions
begins stream n session o h e free r none = record {
  moves = Listens n.reading 60000 session o ∷ [];
  part = changes stream n w (Listens n.reading 60000 session o) (subst (λ v. MayMoves v (Listens n.reading 60000 session o ∷ [])) (sym none) (tt, (λ f. refl), tt))
      (started_here n.sessions n.reading (untaken stream session o) h e (none_lies n.sessions stream free)) refl;
  unheard = [];
  heard = refl;
  no_fault = λ f. refl;
  no_dial = refl;
  all_heard = λ f. refl;
  none_last = λ f. refl;
  ready = record { reached = reached; given = r.given; shut = r.shut; voice = λ f. inr (live_goes w stream h.place new (calls_in_order w reached) (get_or-set_same n.sessions.places h.place (Some new) None (started n.sessions h e).place) refl refl) };
} where
  w : Sessions
  w = after_start n.sessions n.reading (untaken stream session o) (Ok h)

  new : SessionState
  new = begun_state n.reading h.number (untaken stream session o)

  reached : Reached w
  reached = subst (λ (q : Result Handle SessionRefused). Reached (after_start n.sessions n.reading (untaken stream session o) q)) e (calls_go_on n.sessions (Begins n.reading (untaken stream session o)) r.reached (free, proper stream session o))

pub requests : (stream : ℕ) (n : NodeState) (session : ℕ) (o : Objective) → state_reply n.sessions stream ≡ None → Ready stream true n → view_on n stream ≡ None → FedHeard stream false n (hear_request n stream session o) (ReqNeg session o ∷ [])
requests stream n session o free r none = by_test (is_listened n.registrations o) where
  by_reply : (q : Result Handle SessionRefused) → start_reply n.sessions ≡ q → FedHeard stream false n (listened n stream session o q) (ReqNeg session o ∷ [])
  by_reply (Ok h) e = begins stream n session o h e free r none
  by_reply (Err refused) e = refuses stream n session o busy r none

  by_test : (b : Bool) → FedHeard stream false n (cond b (listened n stream session o (start_reply n.sessions)) (declines n stream session unlistened)) (ReqNeg session o ∷ [])
  by_test true = by_reply (start_reply n.sessions) refl
  by_test false = refuses stream n session o unlistened r none

one_said : (m : Message) → length (m ∷ []) ≤ 1
one_said m = omega arith

none_said : 0 ≤ 1
none_said = omega arith

pub synchronizations : (stream : ℕ) (n : NodeState) (session : ℕ) (o : Objective) → Ready stream true n → view_on n stream ≡ None → FedHeard stream false n (hear_synchronization n stream session o) (ReqSyn session o ∷ [])
synchronizations stream n session o r none = by_test (has_synch o.flags) where
  declined : FedHeard stream false n (declines n stream session unlistened) (ReqSyn session o ∷ [])
  declined = answers stream n (ReqSyn session o) (End session (declined_for unlistened)) r none none_said (one_said (End session (declined_for unlistened)))

  by_value : (value : Option DataItem) → FedHeard stream false n (synched n stream session o value) (ReqSyn session o ∷ [])
  by_value None = declined
  by_value (Some value) = answers stream n (ReqSyn session o) (Synch session (record o { value = Some value })) r none none_said (one_said (Synch session (record o { value = Some value })))

  by_test : (b : Bool) → FedHeard stream false n (cond b (synched n stream session o (value_offered n.registrations o.name)) (declines n stream session unlistened)) (ReqSyn session o ∷ [])
  by_test true = by_value (value_offered n.registrations o.name)
  by_test false = declined

-- ---- a later message

-- the session is told of what is bad, and the peer where there is room
abbrev refused_as : NodeState → ℕ → Message → Bool → NodeState
refused_as n stream m b = with_sessions (cond b (queue_up n (send stream m ∷ [])) n) (after_mark n.sessions stream Faulty)

refused_part : (stream : ℕ) (n : NodeState) (y : SessionState) (m : StreamMove) (b : Bool) → view_on n stream ≡ Some y.view → view_in (after_mark n.sessions stream Faulty) stream ≡ Some (marked y.view Faulty)
    → MayMoves (Some y.view) (m ∷ []) → after_move (Some y.view) m ≡ Some (marked y.view Faulty) → said_by (Some y.view) m ≡ invalid_told b y.view → Part stream n (refused_as n stream (Invalid (session_of y.view) None) b) (m ∷ [])
unfolding with_sessions queue_up
refused_part stream n y m true before after may moved said = record {
  may = subst (λ v. MayMoves v (m ∷ [])) (sym before) may;
  view = after ∙ (sym moved ∙ sym (ap (λ v. after_move v m) before));
  more = send stream (Invalid (session_of y.view) None) ∷ [];
  queued = refl;
  said = sends_here stream (Invalid (session_of y.view) None) ∙ sym (append-nil (said_by (view_on n stream) m) ∙ (ap (λ v. said_by v m) before ∙ said));
  no_fewer = itself n.streams.dialled;
}
refused_part stream n y m false before after may moved said = record {
  may = subst (λ v. MayMoves v (m ∷ [])) (sym before) may;
  view = after ∙ (sym moved ∙ sym (ap (λ v. after_move v m) before));
  more = [];
  queued = sym (append-nil n.queue);
  said = sym (append-nil (said_by (view_on n stream) m) ∙ (ap (λ v. said_by v m) before ∙ said));
  no_fewer = itself n.streams.dialled;
}

refused_ready : (stream : ℕ) (n : NodeState) (m : Message) (b : Bool) → Ready stream true n → Ready stream false (refused_as n stream m b)
unfolding with_sessions queue_up
refused_ready stream n m true r = record { reached = calls_go_on n.sessions (EndsBy stream Faulty) r.reached tt; given = r.given; shut = r.shut; voice = λ e. absurd (false≢true e) }
refused_ready stream n m false r = record { reached = calls_go_on n.sessions (EndsBy stream Faulty) r.reached tt; given = r.given; shut = r.shut; voice = λ e. absurd (false≢true e) }

-- a refusal where the session goes on
pub record Refusing (stream : ℕ) (n : NodeState) : Type 0 where
  pub view : Transcript
  pub before : view_on n stream ≡ Some view
  pub going : is_going view ≡ true
  pub told : Bool
  pub part : (m : StreamMove) → MayMoves (Some view) (m ∷ []) → after_move (Some view) m ≡ Some (marked view Faulty) → said_by (Some view) m ≡ invalid_told told view → Part stream n (after_refusal n stream) (m ∷ [])
  pub ready : Ready stream false (after_refusal n stream)

live_before : (stream : ℕ) (n : NodeState) → AreInOrder n.sessions → (l : Live n.sessions stream) → view_on n stream ≡ Some l.state.view
live_before stream n o l = subst (λ k. view_in n.sessions k ≡ Some l.state.view) l.lies (live_here n.sessions l.handle.place l.state o (state_slot n.sessions l.handle l.state l.at))

refusing : (stream : ℕ) (n : NodeState) → Ready stream true n → (l : Live n.sessions stream) → is_going l.state.view ≡ true → Refusing stream n
refusing stream n r l going = record {
  view = y.view;
  before = live_before stream n o l;
  going = going;
  told = b;
  part = λ m may moved said. subst (λ k. Part stream n k (m ∷ [])) (sym is) (refused_part stream n y m b (live_before stream n o l) after may moved said);
  ready = subst (Ready stream false) (sym is) (refused_ready stream n (Invalid (session_of y.view) None) b r);
} where
  y : SessionState
  y = l.state

  o : AreInOrder n.sessions
  o = calls_in_order n.sessions r.reached

  b : Bool
  b = may_queue n (Invalid (session_of y.view) None) 1

  ended : not (is_going y.view) ≡ false
  ended = ap not going

  is : after_refusal n stream ≡ refused_as n stream (Invalid (session_of y.view) None) b
  is = ap (refused_by n stream) (state_is n.sessions stream l.handle y l.on l.at) ∙ (rw ended refl)

  after : view_in (after_mark n.sessions stream Faulty) stream ≡ Some (marked y.view Faulty)
  after =
      ap (λ h. view_in (mark_at n.sessions Faulty h) stream) l.on
      ∙ subst (λ k. view_in (mark_at n.sessions Faulty (Some l.handle)) k ≡ Some (marked y.view Faulty)) l.lies (mark_here n.sessions Faulty l.handle y o l.at)

-- a bad message
bad_goes : (g : Bool) (r : Received) → cond g r Ignored ≡ Bad → g ≡ true
bad_goes true r e = refl
bad_goes false r e = absurd (cc)

marked_bad : (v : Transcript) → is_going v ≡ true → with_mark v Faulty ≡ marked v Faulty
marked_bad v e = rw e refl

received_is : (z : Sessions) (stream : ℕ) (m : Message) (h : Handle) (y : SessionState) → on_stream z stream ≡ Some h → session_at z h ≡ Some y → receive_reply z stream m ≡ receive y.view m
received_is z stream m h y e f = rw (e, f) refl

hears_bad : (stream : ℕ) (n : NodeState) (m : Message) → (f : Refusing stream n) → receive f.view m ≡ Bad → FedHeard stream false n (shuts (after_refusal n stream)) (m ∷ [])
hears_bad stream n m f bad = record {
  moves = Hears n.reading m f.told ∷ [];
  part = f.part (Hears n.reading m f.told) ((λ e. bad), (λ e. refl), tt) (ap (λ r. Some (after_heard f.view n.reading m r)) bad ∙ ap (λ (v : Transcript). Some v) (marked_bad f.view f.going)) refl;
  unheard = [];
  heard = refl;
  no_fault = λ e. refl;
  no_dial = refl;
  all_heard = λ e. refl;
  none_last = λ e. refl;
  ready = f.ready;
}

-- an ignored one
hears_ignored : (stream : ℕ) (n : NodeState) (m : Message) → Ready stream true n → (l : Live n.sessions stream) → receive l.state.view m ≡ Ignored
    → FedHeard stream false n (record { node = n; is_open = goes_on (state_reply n.sessions stream) }) (m ∷ [])
hears_ignored stream n m r l ignored = record {
  moves = Hears n.reading m false ∷ [];
  part = record {
    may = subst (λ v. MayMoves v (Hears n.reading m false ∷ [])) (sym before) ((λ e. absurd (false≢true e)), (λ e. refl), tt);
    view = before ∙ (sym (ap (λ q. Some (after_heard l.state.view n.reading m q)) ignored) ∙ sym (ap (λ v. after_move v (Hears n.reading m false)) before));
    more = [];
    queued = sym (append-nil n.queue);
    said = sym (append-nil (said_by (view_on n stream) (Hears n.reading m false)) ∙ ap (λ v. said_by v (Hears n.reading m false)) before);
    no_fewer = itself n.streams.dialled;
  };
  unheard = [];
  heard = refl;
  no_fault = λ e. refl;
  no_dial = refl;
  all_heard = λ e. refl;
  none_last = λ e. refl;
  ready = record { reached = r.reached; given = r.given; shut = r.shut; voice = λ e. inr e };
} where
  before : view_on n stream ≡ Some l.state.view
  before = live_before stream n (calls_in_order n.sessions r.reached) l

-- one that is kept
hears_kept : (stream : ℕ) (n : NodeState) (m : Message) → Ready stream true n → receive_reply n.sessions stream m ≡ Kept → FedHeard stream false n (kept n stream m) (m ∷ [])
unfolding with_sessions
hears_kept stream n m r e = record {
  moves = Hears n.reading m false ∷ [];
  part = changes stream n w (Hears n.reading m false) (subst (λ v. MayMoves v (Hears n.reading m false ∷ [])) (sym before) ((λ f. absurd (false≢true f)), (λ f. refl), tt))
      (after ∙ (sym (ap (λ a. Some (after_heard x.view n.reading m a)) q.keeps) ∙ sym (ap (λ v. after_move v (Hears n.reading m false)) before))) (ap (λ v. said_by v (Hears n.reading m false)) before);
  unheard = [];
  heard = refl;
  no_fault = λ f. refl;
  no_dial = refl;
  all_heard = λ f. refl;
  none_last = λ f. refl;
  ready = record { reached = reached; given = r.given; shut = r.shut; voice = λ f. inr f };
} where
  z : Sessions
  z = n.sessions

  o : AreInOrder z
  o = calls_in_order z r.reached

  w : Sessions
  w = after_receive z n.reading stream m Kept

  q : IsKept z n.reading stream m
  q = kept_means z n.reading stream m e

  x : SessionState
  x = q.state

  y : SessionState
  y = with_transcript x (with_kept x.view n.reading m)

  lies : x.stream ≡ stream
  lies =
      let l = is_least z (λ (u : SessionState). u.stream == stream) q.handle q.on in
      eqb-true x.stream stream (subst (λ (u : SessionState). (u.stream == stream) ≡ true) (some_state l.state x (sym l.at ∙ q.at)) l.passes)

  before : view_on n stream ≡ Some x.view
  before = subst (λ k. view_in z k ≡ Some x.view) lies (live_here z q.handle.place x o (state_slot z q.handle x q.at))

  after : view_in w stream ≡ Some (with_kept x.view n.reading m)
  after = ap (λ t. view_in t stream) q.after ∙ subst (λ k. view_in (changed z q.handle y) k ≡ Some y.view) lies (changed_here z q.handle x y o q.at refl)

  reached : Reached w
  reached = subst (λ (a : Received). Reached (after_receive z n.reading stream m a)) e (calls_go_on z (Takes n.reading stream m) r.reached tt)

pub later : (stream : ℕ) (n : NodeState) (m : Message) (state : ℕ × Bool) → state_reply n.sessions stream ≡ Some state → Ready stream true n → FedHeard stream false n (hear_later_by n stream m (receive_reply n.sessions stream m)) (m ∷ [])
unfolding refusing live_of
later stream n m state e r = by_reply (receive_reply n.sessions stream m) refl where
  l : Live n.sessions stream
  l = live_of n.sessions stream state e

  same : receive_reply n.sessions stream m ≡ receive l.state.view m
  same = received_is n.sessions stream m l.handle l.state l.on l.at

  by_reply : (a : Received) → receive_reply n.sessions stream m ≡ a → FedHeard stream false n (hear_later_by n stream m a) (m ∷ [])
  by_reply Kept f = hears_kept stream n m r f
  by_reply Ignored f = hears_ignored stream n m r l (sym same ∙ f)
  by_reply Bad f =
      let bad : receive l.state.view m ≡ Bad = sym same ∙ f in
      hears_bad stream n m (refusing stream n r l (bad_goes (is_going l.state.view) (receive_going l.state.view m) bad)) bad

-- a fault of what came
pub faults : (stream : ℕ) (n : NodeState) → Ready stream true n → FedHeard stream true n (shuts (after_refusal n stream)) []
faults stream n r = by_state (state_reply n.sessions stream) refl where
  goes : (state : ℕ × Bool) → state_reply n.sessions stream ≡ Some state → (l : Live n.sessions stream) → (view_on n stream ≡ None) ⊎ (goes_on (state_reply n.sessions stream) ≡ true) → is_going l.state.view ≡ true
  goes state e l (inl f) = let no : Some l.state.view ≡ None = sym (live_before stream n (calls_in_order n.sessions r.reached) l) ∙ f in absurd (cc)
  goes state e l (inr f) = not_twice (is_going l.state.view) (sym (ap goes_on (state_is n.sessions stream l.handle l.state l.on l.at)) ∙ f) where
    not_twice : (b : Bool) → not (not b) ≡ true → b ≡ true
    not_twice true g = refl
    not_twice false g = absurd (false≢true g)

  told : Refusing stream n → FedHeard stream true n (shuts (after_refusal n stream)) []
  told f = record {
    moves = Faults f.told ∷ [];
    part = f.part (Faults f.told) ((λ e. f.going), (λ e. refl), tt) refl refl;
    unheard = [];
    heard = refl;
    no_fault = λ e. absurd (true≢false e);
    no_dial = refl;
    all_heard = λ e. refl;
    none_last = λ e. absurd (false≢true e);
    ready = f.ready;
  }

  by_state : (s : Option (ℕ × Bool)) → state_reply n.sessions stream ≡ s → FedHeard stream true n (shuts (after_refusal n stream)) []
  by_state None e = subst (λ k. FedHeard stream true n (shuts k) []) (sym (ap (refused_by n stream) e)) (record {
    moves = [];
    part = record { may = tt; view = refl; more = []; queued = sym (append-nil n.queue); said = refl; no_fewer = itself n.streams.dialled };
    unheard = [];
    heard = refl;
    no_fault = λ f. refl;
    no_dial = refl;
    all_heard = λ f. refl;
    none_last = λ f. absurd (false≢true f);
    ready = ready_shut stream n r;
  })
  by_state (Some state) e = let l = live_of n.sessions stream state e in told (refusing stream n r l (goes state e l (r.voice refl)))
