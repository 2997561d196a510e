-- On which streams the live sessions of a table lie after a call.
use Rattle.std.proofs.Common.{◌≡◌, ◌≢◌, ℕ, Bool, true, false, cond, List, ◌⊎◌, inl, inr, Option, Some, None, Result, Ok, Err, slice_index_or, slice_set, refl, sym, subst}
use Rattle.grasp_types.specs.declared.message.Message.{Message}
use Rattle.grasp_types.specs.declared.session.Handle.{Handle}
use Rattle.grasp_types.specs.declared.session.Progress.{Progress}
use Rattle.grasp_types.specs.declared.session.Progress.TheVariants.{Ended}
use Rattle.grasp_session.specs.declared.answer.Received.{Received}
use Rattle.grasp_session.specs.declared.answer.Received.TheVariants.{Kept, Ignored, Bad}
use Rattle.grasp_session.specs.declared.answer.SessionRefused.{SessionRefused}
use Rattle.grasp_session.specs.declared.begin.Begin.{Begin}
use Rattle.grasp_session.specs.Transcript.{Mark, Expired, is_going, Saying, act_of, having_said, after_received, with_mark}
use Rattle.grasp_session.specs.Sessions.{SessionState, Sessions, with_transcript, with_owner, begun_state, session_at, with_place, left, is_leaving, changed, on_stream, due, start_reply, after_start, check_reply, after_say, receive_reply, after_receive, after_poll, leave_at, mark_at, after_adopt}
use Rattle.grasp_session.specs.Says.{IsAt}
use Rattle.grasp_session.specs.Runs.{TableCall, Begins, Speaks, Takes, Polls, EndsBy, Expires, Adopts, Removes, MayCall, after_call}
use Rattle.grasp_session.proofs.Means.{checked_means, said_means, kept_means}
use Rattle.grasp_laws_session.proofs.Runs.{set_some, some_state}
use Rattle.grasp_session.proofs.Tables.{state_slot}

-- the stream of each live session is so
abbrev pub OnStreams : (ℕ → Type 0) → Sessions → Type 0
OnStreams P z = (place : ℕ) (x : SessionState) → IsAt z place x → P x.stream

-- the stream of a session that begins is so
abbrev pub Comes : (ℕ → Type 0) → TableCall → Type 0
Comes P (Begins now begin) = P begin.stream
Comes P call = Unit {0}

module _ (P : ℕ → Type 0) where
  placed : (l : List (Option SessionState)) (p : ℕ) (v : Option SessionState) → ((q : ℕ) (x : SessionState) → slice_index_or l q None ≡ Some x → P x.stream)
      → ((x : SessionState) → v ≡ Some x → P x.stream) → (q : ℕ) (x : SessionState) → slice_index_or (slice_set l p v) q None ≡ Some x → P x.stream
  placed l p v f g q x e = by_case (set_some l p v q x e) where
    by_case : ((q ≡ p) × (v ≡ Some x)) ⊎ ((q ≢ p) × (slice_index_or l q None ≡ Some x)) → P x.stream
    by_case (inl i) = g x i.1
    by_case (inr i) = f q x i.1

  one : (y : SessionState) → P y.stream → (x : SessionState) → Some y ≡ Some x → P x.stream
  one y p x e = subst (λ (w : SessionState). P w.stream) (some_state y x e) p

  left_on : (z : Sessions) (h : Handle) (y : SessionState) → OnStreams P z → OnStreams P (left z h y)
  left_on z h y f = placed z.places h.place None f (λ x e. absurd (cc))

  changed_on : (z : Sessions) (h : Handle) (y : SessionState) → OnStreams P z → P y.stream → OnStreams P (changed z h y)
  changed_on z h y f p = by_test (is_leaving y) where
    by_test : (b : Bool) → OnStreams P (cond b (left z h y) (with_place z h.place (Some y)))
    by_test true = left_on z h y f
    by_test false = placed z.places h.place (Some y) f (one y p)

  begins_on : (z : Sessions) (now : ℕ) (b : Begin) (r : Result Handle SessionRefused) → OnStreams P z → P b.stream → OnStreams P (after_start z now b r)
  begins_on z now b (Ok h) f p = placed z.places h.place (Some (begun_state now h.number b)) f (one (begun_state now h.number b) p)
  begins_on z now b (Err refused) f p = f

  speaks_on : (z : Sessions) (now owner : ℕ) (h : Handle) (sg : Saying) → check_reply z owner h (act_of sg) ≡ Ok tt → OnStreams P z → OnStreams P (after_say z now h sg)
  speaks_on z now owner h sg e f =
      let c = checked_means z owner h (act_of sg) e in
      subst (OnStreams P) (sym (said_means z now h sg c.state c.at).after)
      (changed_on z h (with_transcript c.state (having_said c.state.view now sg)) f (f h.place c.state (state_slot z h c.state c.at)))

  takes_on : (z : Sessions) (now stream : ℕ) (m : Message) (r : Received) → receive_reply z stream m ≡ r → OnStreams P z → OnStreams P (after_receive z now stream m r)
  takes_on z now stream m Kept e f =
      let k = kept_means z now stream m e in
      subst (OnStreams P) (sym k.after)
      (changed_on z k.handle (with_transcript k.state (after_received k.state.view now m Kept)) f (f k.handle.place k.state (state_slot z k.handle k.state k.at)))
  takes_on z now stream m Ignored e f = f
  takes_on z now stream m Bad e f = f

  goes_on : (z : Sessions) (h : Handle) (o : Option SessionState) → OnStreams P z → OnStreams P (leave_at z h o)
  goes_on z h None f = f
  goes_on z h (Some x) f = left_on z h x f

  polls_on : (z : Sessions) (h : Handle) (r : Result Progress SessionRefused) → OnStreams P z → OnStreams P (after_poll z h r)
  polls_on z h (Ok (Ended o)) f = goes_on z h (session_at z h) f
  polls_on z h _ f = f

  marks_state_on : (z : Sessions) (mark : Mark) (h : Handle) (o : Option SessionState) → session_at z h ≡ o → OnStreams P z → OnStreams P (mark_at z mark (Some h))
  marks_state_on z mark h None e f = rw e f
  marks_state_on z mark h (Some x) e f = rw e (by_test (is_going x.view)) where
    by_test : (b : Bool) → OnStreams P (cond b (changed z h (with_transcript x (with_mark x.view mark))) z)
    by_test true = changed_on z h (with_transcript x (with_mark x.view mark)) f (f h.place x (state_slot z h x e))
    by_test false = f

  marks_on : (z : Sessions) (mark : Mark) (o : Option Handle) → OnStreams P z → OnStreams P (mark_at z mark o)
  marks_on z mark None f = f
  marks_on z mark (Some h) f = marks_state_on z mark h (session_at z h) refl f

  adopts_on : (z : Sessions) (owner : ℕ) (h : Handle) (o : Option SessionState) → session_at z h ≡ o → OnStreams P z → OnStreams P (after_adopt z owner h)
  adopts_on z owner h None e f = rw e f
  adopts_on z owner h (Some x) e f = rw e (placed z.places h.place (Some (with_owner x owner)) f (one (with_owner x owner) (f h.place x (state_slot z h x e))))

  pub call_on : (z : Sessions) (c : TableCall) → MayCall z c → Comes P c → OnStreams P z → OnStreams P (after_call z c)
  call_on z (Begins now begin) m p f = begins_on z now begin (start_reply z) f p
  call_on z (Speaks now owner h sg) m p f = speaks_on z now owner h sg m f
  call_on z (Takes now stream message) m p f = takes_on z now stream message (receive_reply z stream message) refl f
  call_on z (Polls owner h result) m p f = polls_on z h result f
  call_on z (EndsBy stream mark) m p f = marks_on z mark (on_stream z stream) f
  call_on z (Expires now) m p f = marks_on z (Expired now) (due z now) f
  call_on z (Adopts owner h) m p f = adopts_on z owner h (session_at z h) refl f
  call_on z (Removes h) m p f = goes_on z h (session_at z h) f
