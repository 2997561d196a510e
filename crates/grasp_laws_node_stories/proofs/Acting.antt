-- What a session says, and how sessions leave, are taken and are ended from outside: the moves of their stream.
use Rattle.std.proofs.Common.{◌≡◌, ◌≢◌, ℕ, Bool, true, false, cond, ◌==◌, [], ◌∷◌, ◌⊎◌, inl, inr, Option, None, Some, Ok, refl, sym, ap, ◌∙◌, subst}
use Rattle.std.proofs.lemmas.Bool.Decides.{eqb_tells}
use Rattle.grasp_session.proofs.Means.{checked_means, said_means}
use Rattle.grasp_laws_session.proofs.Streams.{is_least}
use Rattle.grasp_session.proofs.Tables.{state_slot}
use Rattle.grasp_session.specs.Runs.{AreInOrder}
use Rattle.grasp_session.specs.Sessions.{SessionState, Sessions, with_transcript, with_owner, session_at, with_place, left, changed, on_stream, check_reply, after_say, mark_at, after_mark, after_adopt, leave_at, stream_of}
use Rattle.grasp_session.specs.Talk.{Cause, mark_of}
use Rattle.grasp_session.specs.Transcript.{Mark, Saying, act_of, refusal, message_of, having_said, is_going, with_mark, marked}
use Rattle.grasp_types.specs.declared.message.Message.{Message}
use Rattle.grasp_types.specs.declared.session.Handle.{Handle}
use Rattle.grasp_model_node.specs.Moves.{with_sessions, queue_up}
use Rattle.grasp_model_node.specs.Node.{NodeState}
use Rattle.grasp_model_node.specs.Queue.{send}
use Rattle.grasp_model_node.specs.SessionCalls.{stream_or, stream_at, act_message, said}
use Rattle.grasp_laws_node_stories.specs.StreamMoves.{view_in, view_on, Says, Marks, after_move, said_by, MayMoves, sends_on}
use Rattle.grasp_laws_node_stories.proofs.Parts.{Quietly, and_then, queues, other_sessions, makes, changes, quietly, sends_here, sends_other}
use Rattle.grasp_laws_node_stories.proofs.Views.{live_here, left_here, left_other, placed_here, placed_other, changed_here, changed_other}

abbrev pub Same : ℕ → ℕ → Type 0
Same a b = (((a == b) ≡ true) × (a ≡ b)) ⊎ (((a == b) ≡ false) × (a ≢ b))

-- ---- a session says something

says_here : (stream : ℕ) (n : NodeState) (h : Handle) (x : SessionState) (saying : Saying) (on : ℕ) (m : Message) → AreInOrder n.sessions → session_at n.sessions h ≡ Some x → refusal x.view (act_of saying) ≡ None
    → on ≡ x.stream → m ≡ message_of x.view saying → x.stream ≡ stream → Quietly stream n (queue_up (with_sessions n (after_say n.sessions n.reading h saying)) (send on m ∷ []))
unfolding with_sessions queue_up
says_here stream n h x saying on m o at allowed f g i =
    quietly stream n (queue_up (with_sessions n w) (send on m ∷ [])) (Says n.reading saying)
    (makes stream n w (send on m ∷ []) (Says n.reading saying) (subst (λ v. MayMoves v (Says n.reading saying ∷ [])) (sym before) (allowed, (λ e. refl), tt)) (after ∙ sym (ap (λ v. after_move v (Says n.reading saying)) before)) queued)
    refl refl refl refl (λ past e. e) where
      z : Sessions
      z = n.sessions

      w : Sessions
      w = after_say z n.reading h saying

      y : SessionState
      y = with_transcript x (having_said x.view n.reading saying)

      before : view_on n stream ≡ Some x.view
      before = subst (λ k. view_in z k ≡ Some x.view) i (live_here z h.place x o (state_slot z h x at))

      after : view_in w stream ≡ Some (having_said x.view n.reading saying)
      after = ap (λ t. view_in t stream) (said_means z n.reading h saying x at).after ∙ subst (λ k. view_in (changed z h y) k ≡ Some y.view) i (changed_here z h x y o at refl)

      queued : sends_on stream (send on m ∷ []) ≡ said_by (view_on n stream) (Says n.reading saying)
      queued = ap (λ k. sends_on stream (send k m ∷ [])) (f ∙ i) ∙ (sends_here stream m ∙ (ap (λ k. k ∷ []) g ∙ sym (ap (λ v. said_by v (Says n.reading saying)) before)))

says_other : (stream : ℕ) (n : NodeState) (h : Handle) (x : SessionState) (saying : Saying) (on : ℕ) (m : Message) → session_at n.sessions h ≡ Some x → on ≡ x.stream → x.stream ≢ stream
    → Quietly stream n (queue_up (with_sessions n (after_say n.sessions n.reading h saying)) (send on m ∷ []))
says_other stream n h x saying on m at f d =
    and_then stream n (with_sessions n w) (queue_up (with_sessions n w) (send on m ∷ []))
    (other_sessions stream n w (ap (λ t. view_in t stream) (said_means z n.reading h saying x at).after ∙ changed_other z h x y stream at refl d))
    (queues stream (with_sessions n w) (send on m ∷ []) (sends_other on stream m (λ e. d (sym f ∙ e)))) where
      z : Sessions
      z = n.sessions

      w : Sessions
      w = after_say z n.reading h saying

      y : SessionState
      y = with_transcript x (having_said x.view n.reading saying)

pub speaks : (stream : ℕ) (n : NodeState) (h : Handle) (x : SessionState) (saying : Saying) (on : ℕ) (m : Message) → AreInOrder n.sessions → session_at n.sessions h ≡ Some x → refusal x.view (act_of saying) ≡ None
    → on ≡ x.stream → m ≡ message_of x.view saying → Quietly stream n (queue_up (with_sessions n (after_say n.sessions n.reading h saying)) (send on m ∷ []))
speaks stream n h x saying on m o at allowed f g = by_case (eqb_tells x.stream stream) where
  by_case : Same x.stream stream → Quietly stream n (queue_up (with_sessions n (after_say n.sessions n.reading h saying)) (send on m ∷ []))
  by_case (inl i) = says_here stream n h x saying on m o at allowed f g i.1
  by_case (inr i) = says_other stream n h x saying on m at f i.1

-- by an agent
pub acts : (stream : ℕ) (n : NodeState) (asa : ℕ) (h : Handle) (saying : Saying) → AreInOrder n.sessions → check_reply n.sessions asa h (act_of saying) ≡ Ok tt → Quietly stream n (said n h saying)
acts stream n asa h saying o e =
    let c = checked_means n.sessions asa h (act_of saying) e in
    let x : SessionState = c.state in
    speaks stream n h x saying (stream_at n h) (act_message n h saying) o c.at c.allowed (ap (λ v. stream_or (stream_of v)) c.at) (said_means n.sessions n.reading h saying x c.at).message

-- ---- a session leaves without a word, or is taken: its transcript stays

left_same : (z : Sessions) (h : Handle) (x : SessionState) (stream : ℕ) → AreInOrder z → session_at z h ≡ Some x → view_in (left z h x) stream ≡ view_in z stream
left_same z h x stream o e = by_case (eqb_tells x.stream stream) where
  by_case : Same x.stream stream → view_in (left z h x) stream ≡ view_in z stream
  by_case (inl i) = subst (λ k. view_in (left z h x) k ≡ view_in z k) i.1 (left_here z h x x o e refl ∙ sym (live_here z h.place x o (state_slot z h x e)))
  by_case (inr i) = left_other z h x x stream e refl i.1

pub leave_same : (z : Sessions) (h : Handle) (v : Option SessionState) (stream : ℕ) → AreInOrder z → session_at z h ≡ v → view_in (leave_at z h v) stream ≡ view_in z stream
leave_same z h None stream o e = refl
leave_same z h (Some x) stream o e = left_same z h x stream o e

placed_same : (z : Sessions) (h : Handle) (x : SessionState) (owner stream : ℕ) → AreInOrder z → session_at z h ≡ Some x → view_in (with_place z h.place (Some (with_owner x owner))) stream ≡ view_in z stream
placed_same z h x owner stream o e = by_case (eqb_tells x.stream stream) where
  y : SessionState
  y = with_owner x owner

  by_case : Same x.stream stream → view_in (with_place z h.place (Some y)) stream ≡ view_in z stream
  by_case (inl i) = subst (λ k. view_in (with_place z h.place (Some y)) k ≡ view_in z k) i.1 (placed_here z h x y o e refl ∙ sym (live_here z h.place x o (state_slot z h x e)))
  by_case (inr i) = placed_other z h x y stream e refl i.1

pub adopted_same : (z : Sessions) (owner : ℕ) (h : Handle) (stream : ℕ) → AreInOrder z → view_in (after_adopt z owner h) stream ≡ view_in z stream
adopted_same z owner h stream o = by_state (session_at z h) refl where
  by_state : (v : Option SessionState) → session_at z h ≡ v → view_in (after_adopt z owner h) stream ≡ view_in z stream
  by_state None e = rw e refl
  by_state (Some x) e =
      let after : after_adopt z owner h ≡ with_place z h.place (Some (with_owner x owner)) = rw e refl in
      ap (λ t. view_in t stream) after ∙ placed_same z h x owner stream o e

-- ---- a session is ended from outside

abbrev marked_as : Sessions → Mark → Handle → SessionState → Sessions
marked_as z mark h x = cond (is_going x.view) (changed z h (with_transcript x (with_mark x.view mark))) z

mark_is : (z : Sessions) (mark : Mark) (h : Handle) (x : SessionState) → session_at z h ≡ Some x → mark_at z mark (Some h) ≡ marked_as z mark h x
mark_is z mark h x e = rw e refl

pub mark_here : (z : Sessions) (mark : Mark) (h : Handle) (x : SessionState) → AreInOrder z → session_at z h ≡ Some x → view_in (mark_at z mark (Some h)) x.stream ≡ Some (marked x.view mark)
mark_here z mark h x o e = ap (λ t. view_in t x.stream) (mark_is z mark h x e) ∙ by_test (is_going x.view) where
  by_test : (b : Bool) → view_in (cond b (changed z h (with_transcript x (with_mark x.view mark))) z) x.stream ≡ Some (cond b (with_mark x.view mark) x.view)
  by_test true = changed_here z h x (with_transcript x (with_mark x.view mark)) o e refl
  by_test false = live_here z h.place x o (state_slot z h x e)

pub mark_other : (z : Sessions) (mark : Mark) (h : Handle) (x : SessionState) (stream : ℕ) → session_at z h ≡ Some x → x.stream ≢ stream → view_in (mark_at z mark (Some h)) stream ≡ view_in z stream
mark_other z mark h x stream e d = ap (λ t. view_in t stream) (mark_is z mark h x e) ∙ by_test (is_going x.view) where
  by_test : (b : Bool) → view_in (cond b (changed z h (with_transcript x (with_mark x.view mark))) z) stream ≡ view_in z stream
  by_test true = changed_other z h x (with_transcript x (with_mark x.view mark)) stream e refl d
  by_test false = refl

marks_here : (stream : ℕ) (n : NodeState) (cause : Cause) (h : Handle) (x : SessionState) → AreInOrder n.sessions → session_at n.sessions h ≡ Some x → x.stream ≡ stream
    → Quietly stream n (with_sessions n (mark_at n.sessions (mark_of cause) (Some h)))
unfolding with_sessions
marks_here stream n cause h x o e i =
    quietly stream n (with_sessions n (mark_at n.sessions (mark_of cause) (Some h))) (Marks cause)
    (changes stream n (mark_at n.sessions (mark_of cause) (Some h)) (Marks cause) (subst (λ v. MayMoves v (Marks cause ∷ [])) (sym before) (tt, (λ f. refl), tt))
    (after ∙ sym (ap (λ v. after_move v (Marks cause)) before)) refl)
    refl refl refl refl (λ past f. f) where
      before : view_on n stream ≡ Some x.view
      before = subst (λ k. view_in n.sessions k ≡ Some x.view) i (live_here n.sessions h.place x o (state_slot n.sessions h x e))

      after : view_in (mark_at n.sessions (mark_of cause) (Some h)) stream ≡ Some (marked x.view (mark_of cause))
      after = subst (λ k. view_in (mark_at n.sessions (mark_of cause) (Some h)) k ≡ Some (marked x.view (mark_of cause))) i (mark_here n.sessions (mark_of cause) h x o e)

pub marks : (stream : ℕ) (n : NodeState) (cause : Cause) (h : Handle) (x : SessionState) → AreInOrder n.sessions → session_at n.sessions h ≡ Some x → Quietly stream n (with_sessions n (mark_at n.sessions (mark_of cause) (Some h)))
marks stream n cause h x o e = by_case (eqb_tells x.stream stream) where
  by_case : Same x.stream stream → Quietly stream n (with_sessions n (mark_at n.sessions (mark_of cause) (Some h)))
  by_case (inl i) = marks_here stream n cause h x o e i.1
  by_case (inr i) = other_sessions stream n (mark_at n.sessions (mark_of cause) (Some h)) (mark_other n.sessions (mark_of cause) h x stream e i.1)

-- the session on a stream
pub ends : (stream : ℕ) (n : NodeState) (on : ℕ) (cause : Cause) → AreInOrder n.sessions → Quietly stream n (with_sessions n (after_mark n.sessions on (mark_of cause)))
ends stream n on cause o = by_handle (on_stream n.sessions on) refl where
  by_handle : (v : Option Handle) → on_stream n.sessions on ≡ v → Quietly stream n (with_sessions n (mark_at n.sessions (mark_of cause) v))
  by_handle None e = other_sessions stream n n.sessions refl
  by_handle (Some h) e = let l = is_least n.sessions (λ y. y.stream == on) h e in marks stream n cause h l.state o l.at
