-- A session that goes on stays live while its stream is open: the calls of agents.
use Rattle.std.proofs.Common.{◌≡◌, ℕ, Bool, true, false, not, ◌&&◌, List, inl, inr, Option, None, Some, is_none, Result, Ok, Err, refl, sym, ap, ◌∙◌, subst}
use Rattle.std.proofs.lemmas.Bool.{true≢false, false≢true}
use Rattle.std.proofs.lemmas.Bool.Decides.{eqb_tells}
use Rattle.std.proofs.lemmas.List.{get_or-set_same}
use Rattle.grasp_asa.specs.Answers.{names_of}
use Rattle.grasp_laws_node.proofs.Bounded.Calls.{polled_is}
use Rattle.grasp_laws_node.proofs.OthersAlone.{changed_others, start_others}
use Rattle.grasp_laws_node.specs.Alone.{OthersStay}
use Rattle.grasp_model_node.specs.Declines.{Declining, declines_of, after_declines}
use Rattle.grasp_model_node.specs.FloodCalls.{looked}
use Rattle.grasp_model_node.specs.Moves.{with_registrations, with_sessions, with_discoveries, with_draw, dial_record, queue_up}
use Rattle.grasp_model_node.specs.Node.{NodeState}
use Rattle.grasp_model_node.specs.RegistryCalls.{declines_for, without_objective, without_agent, without_searches, without_sessions, with_mark}
use Rattle.grasp_model_node.specs.SessionCalls.{stream_or, stream_at, said, said_last, polled, after_polling, with_adopted, begun_by, requested}
use Rattle.grasp_model_node.specs.BoundedNodes.{IsBoundedNode}
use Rattle.grasp_model_node.specs.Streams.{next_stream}
use Rattle.grasp_discovery.specs.declared.answers.Find.{Find}
use Rattle.grasp_discovery.specs.declared.answers.Find.TheVariants as find
use Rattle.grasp_session.proofs.Facts.{allowed_goes, owned_at, progress_ended, request_goes, stays_place}
use Rattle.grasp_session.proofs.Means.{checked_means, said_means}
use Rattle.grasp_laws_session.proofs.Runs.{calls_in_order}
use Rattle.grasp_laws_session.proofs.Says.{started}
use Rattle.grasp_session.proofs.Tables.{state_slot}
use Rattle.grasp_session.specs.Runs.{Reached, AreInOrder}
use Rattle.grasp_session.specs.Sessions.{SessionState, Sessions, with_transcript, with_owner, begun_state, session_at, session_owned, with_place, left, check_reply, after_say, after_adopt, after_start, start_reply, leave_at, poll_reply, progress_of, after_poll, stream_of}
use Rattle.grasp_session.specs.Transcript.{Transcript, Saying, SayStep, SayWait, SayEnd, SayInvalid, act_of, is_going, is_over, having_said}
use Rattle.grasp_session.specs.declared.answer.SessionRefused.{SessionRefused}
use Rattle.grasp_session.specs.declared.answer.SessionRefused.TheVariants.{NoSession}
use Rattle.grasp_session.specs.declared.begin.Begin.{Begin}
use Rattle.grasp_types.specs.declared.address.Locator.{Locator}
use Rattle.grasp_types.specs.declared.objective.Objective.{Objective}
use Rattle.grasp_types.specs.declared.reply.ApiAnswer.{ApiAnswer}
use Rattle.grasp_types.specs.declared.reply.ApiAnswer.TheVariants as answers
use Rattle.grasp_types.specs.declared.session.Handle.{Handle}
use Rattle.grasp_types.specs.declared.session.Kind.{Kind}
use Rattle.grasp_types.specs.declared.session.Progress.{Progress}
use Rattle.grasp_types.specs.declared.session.Progress.TheVariants as progress
use Rattle.grasp_laws_node_stories.proofs.Acting.{Same}
use Rattle.grasp_laws_node_stories.proofs.Allowed.{Starts}
use Rattle.grasp_laws_node_stories.proofs.Declining.{AreMeant, meant_of, meant_for, declines_go, without_sessions_go}
use Rattle.grasp_laws_node_stories.proofs.Keeping.{KeepsVoice, voice_stays, keeps_closing, left_others, same_voice, voice_placed, declines_keep, without_sessions_keep}
use Rattle.grasp_laws_node_stories.proofs.Requesting.{free}
use Rattle.grasp_laws_node_stories.proofs.Voices.{Voice}

-- ---- what is said

no_mark : (a b : Bool) → a && b ≡ true → a && true ≡ true
no_mark true b e = refl
no_mark false b e = absurd (false≢true e)

-- what is said isn't the last
abbrev pub GoesOn : Saying → Type 0
GoesOn (SayStep value) = Unit {0}
GoesOn (SayWait millis) = Unit {0}
GoesOn (SayEnd verdict) = ⊥
GoesOn (SayInvalid detail) = ⊥

still_goes : (v : Transcript) (now : ℕ) (saying : Saying) → GoesOn saying → is_going v ≡ true → is_going (having_said v now saying) ≡ true
still_goes v now (SayStep value) g e = no_mark (is_none v.mark) (not (is_over v.entries)) e
still_goes v now (SayWait millis) g e = no_mark (is_none v.mark) (not (is_over v.entries)) e
still_goes v now (SayEnd verdict) g e = absurd g
still_goes v now (SayInvalid detail) g e = absurd g

pub said_keeps : (stream : ℕ) (n : NodeState) (asa : ℕ) (h : Handle) (saying : Saying) → GoesOn saying → check_reply n.sessions asa h (act_of saying) ≡ Ok tt → KeepsVoice stream n (said n h saying)
unfolding with_sessions queue_up
said_keeps stream n asa h saying g e past f v =
    let c = checked_means n.sessions asa h (act_of saying) e in
    let x : SessionState = c.state in
    let y : SessionState = with_transcript x (having_said x.view n.reading saying) in
    let going : is_going y.view ≡ true = still_goes x.view n.reading saying g (allowed_goes x.view (act_of saying) c.allowed) in
    subst (λ w. Voice w stream) (sym ((said_means n.sessions n.reading h saying x c.at).after ∙ stays_place n.sessions h y going)) (voice_placed n.sessions stream h x y c.at refl (λ i. going) v)

pub last_keeps : (stream : ℕ) (n : NodeState) (asa : ℕ) (h : Handle) (saying : Saying) → check_reply n.sessions asa h (act_of saying) ≡ Ok tt → KeepsVoice stream n (said_last n h saying)
unfolding with_sessions queue_up
last_keeps stream n asa h saying e =
    let c = checked_means n.sessions asa h (act_of saying) e in
    let x : SessionState = c.state in
    let y : SessionState = with_transcript x (having_said x.view n.reading saying) in
    let on : x.stream ≡ stream_at n h = sym (ap (λ o. stream_or (stream_of o)) c.at) in
    let others : OthersStay (stream_at n h) n.sessions (after_say n.sessions n.reading h saying) =
    subst (λ (q : ℕ). OthersStay q n.sessions (after_say n.sessions n.reading h saying)) on
    (subst (OthersStay x.stream n.sessions) (sym (said_means n.sessions n.reading h saying x c.at).after) (changed_others x.stream n.sessions h x y (state_slot n.sessions h x c.at) refl refl)) in
    keeps_closing stream n (said n h saying) (stream_at n h) others

-- ---- polls

abbrev polled_state : Option SessionState → Result Progress SessionRefused
polled_state None = Err NoSession
polled_state (Some x) = Ok (progress_of x.view)

left_keeps : (stream : ℕ) (z : Sessions) (h : Handle) (x : SessionState) → AreInOrder z → session_at z h ≡ Some x → is_going x.view ≡ false → Voice z stream → Voice (left z h x) stream
left_keeps stream z h x o e ended v = by_case (eqb_tells x.stream stream) where
  by_case : Same x.stream stream → Voice (left z h x) stream
  by_case (inl i) = absurd (true≢false (sym (same_voice z stream h x o e i.1 v) ∙ ended))
  by_case (inr i) = voice_stays x.stream stream z (left z h x) (left_others z h x x e) i.1 v

polls_keep : (stream : ℕ) (n : NodeState) (asa : ℕ) (h : Handle) (p : Progress) → IsBoundedNode n → Ok p ≡ poll_reply n.sessions asa h → Voice n.sessions stream → Voice (after_poll n.sessions h (Ok p)) stream
polls_keep stream n asa h progress.NotYet k e v = v
polls_keep stream n asa h (progress.Turn o) k e v = v
polls_keep stream n asa h (progress.Ended o) k e v = by_owned (session_owned n.sessions asa h) refl e where
  by_owned : (s : Option SessionState) → session_owned n.sessions asa h ≡ s → Ok (progress.Ended o) ≡ polled_state s → Voice (leave_at n.sessions h (session_at n.sessions h)) stream
  by_owned None f g = absurd (cc)
  by_owned (Some x) f g =
      let at : session_at n.sessions h ≡ Some x = owned_at asa (session_at n.sessions h) x f in
      let told : progress_of x.view ≡ progress.Ended o = cc in
      subst (λ s. Voice (leave_at n.sessions h s) stream) (sym at) (left_keeps stream n.sessions h x (calls_in_order n.sessions k.sessions) at (progress_ended x.view o told) v)

pub polling_keeps : (stream : ℕ) (n : NodeState) (asa : ℕ) (h : Handle) (a : ApiAnswer) → IsBoundedNode n → a ≡ polled (poll_reply n.sessions asa h) → KeepsVoice stream n (after_polling n h (Ok a))
unfolding with_sessions
polling_keeps stream n asa h (answers.Polled p) k e past f v = polls_keep stream n asa h p k (polled_is (poll_reply n.sessions asa h) p e) v
polling_keeps stream n asa h a k e past f v = v

-- ---- listeners

adopt_keeps : (stream : ℕ) (z : Sessions) (asa : ℕ) (h : Handle) → AreInOrder z → Voice z stream → Voice (after_adopt z asa h) stream
adopt_keeps stream z asa h o v = by_state (session_at z h) refl where
  by_state : (s : Option SessionState) → session_at z h ≡ s → Voice (after_adopt z asa h) stream
  by_state None e = rw e v
  by_state (Some x) e =
      let after : after_adopt z asa h ≡ with_place z h.place (Some (with_owner x asa)) = rw e refl in
      subst (λ w. Voice w stream) (sym after) (voice_placed z stream h x (with_owner x asa) e refl (λ i. same_voice z stream h x o e i v) v)

pub adopted_keeps : (stream : ℕ) (n : NodeState) (asa : ℕ) (o : Option Handle) → Reached n.sessions → KeepsVoice stream n (with_adopted n asa o)
unfolding with_sessions
adopted_keeps stream n asa None r past e v = v
adopted_keeps stream n asa (Some h) r past e v = adopt_keeps stream n.sessions asa h (calls_in_order n.sessions r) v

-- ---- declines

pub deregister_objective_keeps : (stream : ℕ) (n : NodeState) (asa : ℕ) (name : List ℕ) → IsBoundedNode n → KeepsVoice stream n (after_declines (without_objective n asa name) (declines_of n.sessions name))
unfolding with_registrations
deregister_objective_keeps stream n asa name k = declines_keep stream (without_objective n asa name) (declines_of n.sessions name) k.sessions (meant_of n.sessions name)

pub stop_keeps : (stream : ℕ) (n : NodeState) (asa : ℕ) (name : List ℕ) → IsBoundedNode n → KeepsVoice stream n (after_declines (with_mark n asa name false) (declines_of n.sessions name))
unfolding with_registrations
stop_keeps stream n asa name k = declines_keep stream (with_mark n asa name false) (declines_of n.sessions name) k.sessions (meant_of n.sessions name)

pub deregister_asa_keeps : (stream : ℕ) (n : NodeState) (asa : ℕ) (ds : List Declining) → ds ≡ declines_for n.sessions (names_of n.registrations asa) → IsBoundedNode n
    → KeepsVoice stream n (without_sessions 64 (without_searches (after_declines (without_agent n asa) ds) asa) asa)
unfolding with_registrations with_discoveries
deregister_asa_keeps stream n asa ds same k past e v =
    let a : NodeState = without_agent n asa in
    let meant = subst (AreMeant n.sessions) (sym same) (meant_for n.sessions (names_of n.registrations asa)) in
    let g = declines_go stream a ds k.sessions meant in
    let c : NodeState = without_searches (after_declines a ds) asa in
    let o = (without_sessions_go stream 64 c asa g.reached).quietly.opens_none past e in
    without_sessions_keep stream 64 c asa g.reached past e (declines_keep stream a ds k.sessions meant past o v)

-- ---- requests

pub request_keeps : (stream : ℕ) (n : NodeState) (asa : ℕ) (kind : Kind) (timeout : ℕ) (o : Objective) (peer : Locator) → IsBoundedNode n → Starts n.sessions → KeepsVoice stream n (requested n asa kind timeout o peer)
unfolding with_sessions with_draw dial_record queue_up
request_keeps stream n asa kind timeout o peer k s past e v = by_case (eqb_tells (next_stream n.streams) stream) where
  b : Begin
  b = begun_by n asa kind timeout o

  by_case : Same (next_stream n.streams) stream → Voice (after_start n.sessions n.reading b (start_reply n.sessions)) stream
  by_case (inl i) = absurd (free n k v.place v.state v.at (v.lies ∙ sym i.1))
  by_case (inr i) =
      subst (λ r. Voice (after_start n.sessions n.reading b r) stream) (sym s.is)
      (voice_stays (next_stream n.streams) stream n.sessions (after_start n.sessions n.reading b (Ok s.handle)) (start_others (next_stream n.streams) n.sessions n.reading b s.handle refl s.is) i.1 v)

-- the session that begins goes on
pub request_voice : (n : NodeState) (asa : ℕ) (kind : Kind) (timeout : ℕ) (o : Objective) (peer : Locator) → Starts n.sessions → Voice (requested n asa kind timeout o peer).sessions (next_stream n.streams)
unfolding with_sessions with_draw dial_record queue_up
request_voice n asa kind timeout o peer s =
    let b : Begin = begun_by n asa kind timeout o in
    let new : SessionState = begun_state n.reading s.handle.number b in
    subst (λ r. Voice (after_start n.sessions n.reading b r) (next_stream n.streams)) (sym s.is) (record {
      place = s.handle.place;
      state = new;
      at = get_or-set_same n.sessions.places s.handle.place (Some new) None (started n.sessions s.handle s.is).place;
      lies = refl;
      going = request_goes n.reading s.handle.number b;
    })

-- ---- searches

pub looks_keep : (stream : ℕ) (n : NodeState) (asa : ℕ) (name : List ℕ) (kind : Kind) (loops timeout : ℕ) (f : Find) → KeepsVoice stream n (looked n asa name kind loops timeout f)
unfolding with_discoveries with_draw queue_up
looks_keep stream n asa name kind loops timeout find.Fresh past e v = v
looks_keep stream n asa name kind loops timeout _ past e v = v
