-- A session that goes on stays live while its stream is open: the parts of a step.
use Rattle.std.proofs.Common.{◌≡◌, ◌≢◌, ℕ, zero, suc, Bool, true, false, cond, List, [], ◌∷◌, inl, inr, Option, None, Some, Ok, is_ok, refl, sym, ap, ◌∙◌, subst}
use Rattle.std.proofs.lemmas.Bool.{and_parts}
use Rattle.std.proofs.lemmas.Bool.Decides.{eqb_tells}
use Rattle.std.proofs.lemmas.List.{get_or-set_same}
use Rattle.grasp_laws_node.proofs.Bounded.Calls.{ok_is}
use Rattle.grasp_laws_node.proofs.Consistent.Streams.{closing_none}
use Rattle.grasp_laws_node.proofs.OthersAlone.{others_self, set_others, no_session, changed_others}
use Rattle.grasp_laws_node.specs.Alone.{OthersStay}
use Rattle.grasp_model_node.specs.Declines.{Declining, unlistened, declined_for, may_decline, declined, removed, after_decline, after_declines}
use Rattle.grasp_model_node.specs.Moves.{with_sessions, begin_closing, queue_up}
use Rattle.grasp_model_node.specs.Node.{NodeState}
use Rattle.grasp_model_node.specs.Queue.{has_room}
use Rattle.grasp_model_node.specs.RegistryCalls.{close_stream, without_session, without_sessions}
use Rattle.grasp_model_node.specs.Streams.{past_of, closing}
use Rattle.grasp_session.proofs.Means.{checked_means, said_means}
use Rattle.grasp_laws_session.proofs.Runs.{at_below, some_state}
use Rattle.grasp_session.proofs.Tables.{state_slot}
use Rattle.grasp_session.specs.Runs.{Reached, AreInOrder}
use Rattle.grasp_session.specs.Says.{IsAt}
use Rattle.grasp_session.specs.Sessions.{SessionState, Sessions, with_transcript, session_at, with_place, left, changed, check_reply, after_say, leave_at, owner_reply, stream_of}
use Rattle.grasp_session.specs.Transcript.{SayEnd, is_going, having_said}
use Rattle.grasp_session.specs.declared.answer.Act.TheVariants as act
use Rattle.grasp_types.specs.declared.session.Handle.{Handle}
use Rattle.grasp_wire.specs.Cutter.{Past}
use Rattle.grasp_laws_node_stories.proofs.Acting.{Same}
use Rattle.grasp_laws_node_stories.proofs.Declining.{IsMeant, AreMeant, Goes, decline_goes, declines_go, all_fewer, without_session_goes, without_sessions_go}
use Rattle.grasp_laws_node_stories.proofs.Delivering.{none_some}
use Rattle.grasp_laws_node_stories.proofs.Voices.{Voice}

-- while the stream is open, its session that goes on does so still
abbrev pub KeepsVoice : ℕ → NodeState → NodeState → Type 0
KeepsVoice stream n after = (past : Past) → past_of after.streams stream ≡ Some past → Voice n.sessions stream → Voice after.sessions stream

pub voice_stays : (on stream : ℕ) (z w : Sessions) → OthersStay on z w → on ≢ stream → Voice z stream → Voice w stream
voice_stays on stream z w stay d v = record { place = v.place; state = v.state; at = (stay v.place v.state (λ f. d (sym f ∙ v.lies))).0 v.at; lies = v.lies; going = v.going }

-- ---- a stream begins closing

pub keeps_closing : (stream : ℕ) (n m : NodeState) (on : ℕ) → OthersStay on n.sessions m.sessions → KeepsVoice stream n (begin_closing m on)
unfolding begin_closing
keeps_closing stream n m on stay past e v = by_case (eqb_tells on stream) where
  by_case : Same on stream → Voice m.sessions stream
  by_case (inl i) = absurd (none_some (past_of (closing m.streams on) stream) past (subst (λ (q : ℕ). past_of (closing m.streams on) q ≡ None) i.1 (closing_none m.streams on)) e)
  by_case (inr i) = voice_stays on stream n.sessions m.sessions stay i.1 v

-- ---- a session leaves

pub left_others : (z : Sessions) (h : Handle) (x y : SessionState) → session_at z h ≡ Some x → OthersStay x.stream z (left z h y)
left_others z h x y e =
    set_others x.stream z z.made h.place (y ∷ z.gone) None (λ w there. ap (λ (u : SessionState). u.stream) (some_state w x (sym there ∙ state_slot z h x e))) (no_session x.stream)

-- the session on a stream is that one
pub same_voice : (z : Sessions) (stream : ℕ) (h : Handle) (x : SessionState) → AreInOrder z → session_at z h ≡ Some x → x.stream ≡ stream → Voice z stream → is_going x.view ≡ true
same_voice z stream h x o e on v =
    let at : IsAt z h.place x = state_slot z h x e in
    let one : v.place ≡ h.place = o.streams v.place h.place v.state x v.at at (v.lies ∙ sym on) in
    let same : v.state ≡ x = some_state v.state x (sym v.at ∙ subst (λ q. IsAt z q x) (sym one) at) in
    subst (λ (u : SessionState). is_going u.view ≡ true) same v.going

-- a session changes and goes on
pub voice_placed : (z : Sessions) (stream : ℕ) (h : Handle) (x y : SessionState) → session_at z h ≡ Some x → y.stream ≡ x.stream → (x.stream ≡ stream → is_going y.view ≡ true) → Voice z stream → Voice (with_place z h.place (Some y)) stream
voice_placed z stream h x y e same going v = by_case (eqb_tells x.stream stream) where
  at : IsAt z h.place x
  at = state_slot z h x e

  by_case : Same x.stream stream → Voice (with_place z h.place (Some y)) stream
  by_case (inl i) = record { place = h.place; state = y; at = get_or-set_same z.places h.place (Some y) None (at_below z.places h.place x at); lies = same ∙ i.1; going = going i.1 }
  by_case (inr i) =
      voice_stays x.stream stream z (with_place z h.place (Some y))
      (set_others x.stream z z.made h.place z.gone (Some y) (λ w there. ap (λ (u : SessionState). u.stream) (some_state w x (sym there ∙ at)))
      (λ w f. ap (λ (u : SessionState). u.stream) (sym (some_state y w f)) ∙ same)) i.1 v

-- ---- declines

decline_others : (n : NodeState) (d : Declining) → IsMeant n.sessions d → OthersStay d.stream n.sessions (cond (may_decline n d.handle) (declined n d) (removed n d.handle)).sessions
unfolding with_sessions queue_up
decline_others n d m = by_test (may_decline n d.handle) refl where
  z : Sessions
  z = n.sessions

  by_state : (v : Option SessionState) → session_at z d.handle ≡ v → OthersStay d.stream z (leave_at z d.handle v)
  by_state None e = others_self d.stream z
  by_state (Some x) e = subst (λ (q : ℕ). OthersStay q z (left z d.handle x)) (sym (m.stream x e)) (left_others z d.handle x x e)

  says : check_reply z 0 d.handle act.End ≡ Ok tt → OthersStay d.stream z (after_say z n.reading d.handle (SayEnd (declined_for unlistened)))
  says e =
      let c = checked_means z 0 d.handle act.End e in
      let x : SessionState = c.state in
      let y : SessionState = with_transcript x (having_said x.view n.reading (SayEnd (declined_for unlistened))) in
      subst (OthersStay d.stream z) (sym (said_means z n.reading d.handle (SayEnd (declined_for unlistened)) x c.at).after)
      (subst (λ (q : ℕ). OthersStay q z (changed z d.handle y)) (sym (m.stream x c.at)) (changed_others x.stream z d.handle x y (state_slot z d.handle x c.at) refl refl))

  by_test : (b : Bool) → may_decline n d.handle ≡ b → OthersStay d.stream z (cond b (declined n d) (removed n d.handle)).sessions
  by_test true e = says (ok_is (check_reply z 0 d.handle act.End) (and_parts (has_room n.queue 1) (is_ok (check_reply z 0 d.handle act.End)) e).1)
  by_test false e = by_state (session_at z d.handle) refl

pub declines_keep : (stream : ℕ) (n : NodeState) (ds : List Declining) → Reached n.sessions → AreMeant n.sessions ds → KeepsVoice stream n (after_declines n ds)
unfolding after_declines
declines_keep stream n [] r m past e v = v
declines_keep stream n (d ∷ ds) r m past e v =
    let first : Goes stream n (after_decline n d) = decline_goes stream n d r m.0 in
    let later = all_fewer n.sessions (after_decline n d).sessions ds first.fewer m.1 in
    let o = (declines_go stream (after_decline n d) ds first.reached later).quietly.opens_none in
    declines_keep stream (after_decline n d) ds first.reached later past e
    (keeps_closing stream n (cond (may_decline n d.handle) (declined n d) (removed n d.handle)) d.stream (decline_others n d m.0) past (o past e) v)

-- ---- the sessions of an agent go

without_session_keeps : (stream : ℕ) (n : NodeState) (o : Option Handle) → KeepsVoice stream n (without_session n o)
unfolding with_sessions
without_session_keeps stream n None past e v = v
without_session_keeps stream n (Some h) past e v = by_state (session_at n.sessions h) refl e where
  by_state : (s : Option SessionState) → session_at n.sessions h ≡ s → past_of (close_stream (with_sessions n (leave_at n.sessions h s)) (stream_of s)).streams stream ≡ Some past
      → Voice (close_stream (with_sessions n (leave_at n.sessions h s)) (stream_of s)).sessions stream
  by_state None f g = v
  by_state (Some x) f g = keeps_closing stream n (with_sessions n (left n.sessions h x)) x.stream (left_others n.sessions h x x f) past g v

pub without_sessions_keep : (stream count : ℕ) (n : NodeState) (asa : ℕ) → Reached n.sessions → KeepsVoice stream n (without_sessions count n asa)
unfolding without_sessions
without_sessions_keep stream zero n asa r past e v = v
without_sessions_keep stream (suc count) n asa r past e v =
    let m : NodeState = without_sessions count n asa in
    let o = (without_session_goes stream m (owner_reply m.sessions asa) (without_sessions_go stream count n asa r).reached).quietly.opens_none in
    without_session_keeps stream m (owner_reply m.sessions asa) past e (without_sessions_keep stream count n asa r past (o past e) v)
