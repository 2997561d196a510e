-- What declines queue, and which streams they close.
use Rattle.std.proofs.Common.{◌≡◌, ◌≢◌, ℕ, zero, suc, Bool, true, false, cond, ◌==◌, ◌⊎◌, inl, inr, List, [], ◌∷◌, ◌++◌, Option, Some, None, refl, sym, ap, ◌∙◌, subst, append-nil, append_assoc}
use Rattle.std.proofs.lemmas.Bool.Decides.{eqb_tells}
use Rattle.grasp_session.specs.Runs.{Reached}
use Rattle.grasp_session.specs.Says.{IsAt}
use Rattle.grasp_session.specs.Sessions.{SessionState, Sessions, session_at, untaken_above_reply}
use Rattle.grasp_session.specs.Transcript.{session_of}
use Rattle.grasp_laws_session.proofs.Runs.{some_state}
use Rattle.grasp_laws_session.proofs.Streams.{is_least}
use Rattle.grasp_session.proofs.Tables.{state_slot}
use Rattle.grasp_types.specs.declared.message.Message.TheVariants.{End}
use Rattle.grasp_types.specs.declared.message.Verdict.TheVariants.{Decline}
use Rattle.grasp_types.specs.declared.session.Handle.{Handle}
use Rattle.grasp_model_node.specs.Declines.{Declining, declines_of, declines_above, decline_at, next_decline, unlistened, may_decline, declined, removed, after_decline, after_declines}
use Rattle.grasp_laws_node.specs.Means.{IsUntaken}
use Rattle.grasp_laws_node.specs.MeansRegistry.{AreDeclines, Declines}
use Rattle.grasp_model_node.specs.Moves.{with_sessions, begin_closing, queue_up}
use Rattle.grasp_model_node.specs.Node.{NodeState}
use Rattle.grasp_model_node.specs.Queue.{Queued, send}
use Rattle.grasp_model_node.specs.Streams.{StreamsState, closing, past_of, past_in, record_of}
use Rattle.grasp_laws_node.proofs.Consistent.Streams.{closing_none}
use Rattle.grasp_laws_node.proofs.Meaning.Declines.{Has, later, is_later, has_all}
use Rattle.grasp_laws_node.proofs.OtherRecords.{others_with_past}

one_queue : (n : NodeState) (d : Declining) (b : Bool) → (begin_closing (cond b (declined n d) (removed n d.handle)) d.stream).queue ≡ n.queue ++ cond b (send d.stream d.message ∷ []) []
unfolding with_sessions begin_closing queue_up
one_queue n d true = refl
one_queue n d false = sym (append-nil n.queue)

one_closes : (n : NodeState) (d : Declining) (b : Bool) → (begin_closing (cond b (declined n d) (removed n d.handle)) d.stream).streams ≡ closing n.streams d.stream
unfolding with_sessions begin_closing queue_up
one_closes n d true = refl
one_closes n d false = refl

pub stays_closed : (s : StreamsState) (stream other : ℕ) → past_of s other ≡ None → past_of (closing s stream) other ≡ None
stays_closed s stream other e = by_case (eqb_tells other stream) where
  by_case : (((other == stream) ≡ true) × (other ≡ stream)) ⊎ (((other == stream) ≡ false) × (other ≢ stream)) → past_of (closing s stream) other ≡ None
  by_case (inl i) = subst (λ (k : ℕ). past_of (closing s stream) k ≡ None) (sym i.1) (closing_none s stream)
  by_case (inr i) = ap past_in (others_with_past stream other s None i.1) ∙ e

all_stay_closed : (n : NodeState) (ds : List Declining) (other : ℕ) → past_of n.streams other ≡ None → past_of (after_declines n ds).streams other ≡ None
unfolding after_declines
all_stay_closed n [] other e = e
all_stay_closed n (d ∷ ds) other e =
    all_stay_closed (after_decline n d) ds other (subst (λ (s : StreamsState). past_of s other ≡ None) (sym (one_closes n d (may_decline n d.handle))) (stays_closed n.streams d.stream other e))

-- a decline is that of an untaken session of the objective
record IsSaid (name : List ℕ) (z : Sessions) (d : Declining) : Type 0 where
  pub state : SessionState
  pub at : session_at z d.handle ≡ Some state
  pub untaken : IsUntaken name state
  pub stream : d.stream ≡ state.stream
  pub message : d.message ≡ End (session_of state.view) (Decline (Some unlistened))

abbrev AreSaid : List ℕ → Sessions → List Declining → Type 0
AreSaid name z [] = Unit {0}
AreSaid name z (d ∷ ds) = IsSaid name z d × AreSaid name z ds

are_said : (name : List ℕ) (z : Sessions) (k above : ℕ) → AreSaid name z (declines_above z name k above)
unfolding declines_above
are_said name z zero above = tt
are_said name z (suc k) above = by_handle (untaken_above_reply z name above) refl (λ number. are_said name z k number) where
  by_state : (h : Handle) (o : Option SessionState) → session_at z h ≡ o → ((x : SessionState) → session_at z h ≡ Some x → IsUntaken name x) → AreSaid name z (declines_above z name k h.number)
      → AreSaid name z (decline_at h o (declines_above z name k h.number))
  by_state h None e f rest = rest
  by_state h (Some x) e f rest = (record { state = x; at = e; untaken = f x e; stream = refl; message = refl }, rest)

  by_handle : (o : Option Handle) → untaken_above_reply z name above ≡ o → ((number : ℕ) → AreSaid name z (declines_above z name k number)) → AreSaid name z (next_decline z (λ number. declines_above z name k number) o)
  by_handle None e rest = tt
  by_handle (Some h) e rest =
      let l = is_least z (later name above) h e in
      by_state h (session_at z h) refl (λ x f. subst (IsUntaken name) (some_state l.state x (sym l.at ∙ f)) (is_later name above l.state l.passes).1) (rest h.number)

record Queues (name : List ℕ) (z : Sessions) (queue after : List Queued) : Type 0 where
  pub more : List Queued
  pub queued : after ≡ queue ++ more
  pub each : AreDeclines name z more

all_queue : (name : List ℕ) (z : Sessions) (n : NodeState) (ds : List Declining) → AreSaid name z ds → Queues name z n.queue (after_declines n ds).queue
unfolding after_declines
all_queue name z n [] s = record { more = []; queued = sym (append-nil n.queue); each = tt }
all_queue name z n (d ∷ ds) s = by_test (may_decline n d.handle) (one_queue n d (may_decline n d.handle)) (all_queue name z (after_decline n d) ds s.1) where
  by_test : (b : Bool) → (after_decline n d).queue ≡ n.queue ++ cond b (send d.stream d.message ∷ []) [] → Queues name z (after_decline n d).queue (after_declines (after_decline n d) ds).queue
      → Queues name z n.queue (after_declines (after_decline n d) ds).queue
  by_test true e r =
      let x = s.0 in
      record {
        more = send d.stream d.message ∷ r.more;
        queued = r.queued ∙ (ap (λ (q : List Queued). q ++ r.more) e ∙ append_assoc n.queue (send d.stream d.message ∷ []) r.more);
        each = (record { place = d.handle.place; session = x.state; at = state_slot z d.handle x.state x.at; untaken = x.untaken; stream_is = x.stream; message_is = x.message }, r.each);
      }
  by_test false e r = record { more = r.more; queued = r.queued ∙ ap (λ (q : List Queued). q ++ r.more) (e ∙ append-nil n.queue); each = r.each }

all_close : (name : List ℕ) (z : Sessions) (n : NodeState) (ds : List Declining) → AreSaid name z ds → (h : Handle) → Has name h ds → (x : SessionState) → session_at z h ≡ Some x → past_of (after_declines n ds).streams x.stream ≡ None
unfolding after_declines
all_close name z n [] s h i x e = absurd i
all_close name z n (d ∷ ds) s h (inl i) x e =
    let at : session_at z h ≡ Some s.0.state = subst (λ (k : Handle). session_at z k ≡ Some s.0.state) i s.0.at in
    let same : d.stream ≡ x.stream = s.0.stream ∙ ap (λ (y : SessionState). y.stream) (some_state s.0.state x (sym at ∙ e)) in
    let shut : past_of (after_decline n d).streams d.stream ≡ None =
    subst (λ (t : StreamsState). past_of t d.stream ≡ None) (sym (one_closes n d (may_decline n d.handle))) (closing_none n.streams d.stream) in
    all_stay_closed (after_decline n d) ds x.stream (subst (λ (k : ℕ). past_of (after_decline n d).streams k ≡ None) same shut)
all_close name z n (d ∷ ds) s h (inr i) x e = all_close name z (after_decline n d) ds s.1 h i x e

others : (name : List ℕ) (z : Sessions) (n : NodeState) (ds : List Declining) → AreSaid name z ds → (stream : ℕ) → ((place : ℕ) (x : SessionState) → IsAt z place x → IsUntaken name x → stream ≢ x.stream)
    → record_of (after_declines n ds).streams stream ≡ record_of n.streams stream
unfolding after_declines
others name z n [] s stream f = refl
others name z n (d ∷ ds) s stream f =
    let x = s.0 in
    others name z (after_decline n d) ds s.1 stream f
    ∙ (ap (λ (t : StreamsState). record_of t stream) (one_closes n d (may_decline n d.handle))
    ∙ others_with_past d.stream stream n.streams None (λ g. f d.handle.place x.state (state_slot z d.handle x.state x.at) x.untaken (g ∙ x.stream)))

pub declines_mean : (name : List ℕ) (n : NodeState) → Reached n.sessions → Declines name n (after_declines n (declines_of n.sessions name))
declines_mean name n reached =
    let s = are_said name n.sessions 64 0 in
    let q = all_queue name n.sessions n (declines_of n.sessions name) s in
    record {
      more = q.more;
      queued = q.queued;
      each = q.each;
      closes = λ place x at u.
          let p = has_all name n reached place x at u in
          all_close name n.sessions n (declines_of n.sessions name) s (record { place = place; number = x.number }) p.0 x p.1;
      records = others name n.sessions n (declines_of n.sessions name) s;
    }
