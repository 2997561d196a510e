-- Each call leaves the parts of a node as they hold together.
use Rattle.std.proofs.Common.{◌≡◌, ◌≢◌, ℕ, zero, suc, ◌<◌, Bool, true, false, not, ◌&&◌, bytes_eq, List, [], ◌∷◌, ◌⊎◌, inl, inr, Option, None, Some, IsSome, is_none, Result, Ok, Err, refl, sym, ap, ◌∙◌, subst, arith}
use Rattle.std.proofs.lemmas.Bool.{true≢false, false≢true}
use Rattle.std.proofs.lemmas.List.{get_or-set_same}
use Rattle.grasp_laws_tables.proofs.LawKept.{registry_kept}
use Rattle.grasp_asa.specs.Registrations.{Registrations}
use Rattle.grasp_asa.specs.Answers.{register_asa_answer, after_register_asa, deregister_asa_answer, after_deregister_asa, register_objective_answer, after_register_objective, deregister_objective_answer, after_deregister_objective, listen_answer, after_listen, offer_answer, after_offer, names_of}
use Rattle.grasp_cbor.proofs.Facts.Lists.{same_word}
use Rattle.grasp_discovery.specs.declared.answers.Find.{Find}
use Rattle.grasp_discovery.specs.declared.answers.Find.TheVariants as find
use Rattle.grasp_laws_session.proofs.Fresh.{fresh_stay, owned_by}
use Rattle.grasp_session.proofs.Facts.{allowed_goes, owned_at, progress_ended, request_goes, last_said, stays_place}
use Rattle.grasp_session.proofs.Means.{checked_means, said_means}
use Rattle.grasp_laws_session.proofs.Runs.{calls_go_on, set_some, some_state, at_below}
use Rattle.grasp_laws_session.proofs.Says.{started, starts_say}
use Rattle.grasp_session.proofs.Tables.{state_slot}
use Rattle.grasp_session.specs.Made.{EndsUntaken, IsLastSaying}
use Rattle.grasp_session.specs.Runs.{TableCall, Begins, Speaks, Polls, Adopts, Removes, AreInOrder}
use Rattle.grasp_session.specs.Runs as runs
use Rattle.grasp_session.specs.Says.{IsAt, StartSays}
use Rattle.grasp_session.specs.Sessions.{SessionState, Sessions, with_transcript, with_owner, begun_state, owner_of, session_at, session_owned, with_place, left, check_reply, after_say, stream_of, leave_at, poll_reply, progress_of, after_poll, untaken_reply, owner_reply, start_reply, after_start, after_adopt}
use Rattle.grasp_session.specs.Sessions as session
use Rattle.grasp_session.specs.Transcript.{Transcript, Saying, SayStep, SayWait, SayEnd, SayInvalid, act_of, request_of, is_going, is_over, having_said}
use Rattle.grasp_session.specs.declared.answer.Act.TheVariants as act
use Rattle.grasp_session.specs.declared.answer.SessionRefused.{SessionRefused}
use Rattle.grasp_session.specs.declared.answer.SessionRefused.TheVariants.{NoSession, SessionsFull}
use Rattle.grasp_session.specs.declared.begin.Begin.{Begin}
use Rattle.grasp_types.specs.declared.address.Locator.{Locator}
use Rattle.grasp_types.specs.declared.call.Call.{Call}
use Rattle.grasp_types.specs.declared.call.Call.TheVariants as calls
use Rattle.grasp_types.specs.declared.message.Message.{Message}
use Rattle.grasp_types.specs.declared.objective.Objective.{Objective}
use Rattle.grasp_types.specs.declared.reply.ApiAnswer.{ApiAnswer}
use Rattle.grasp_types.specs.declared.reply.ApiAnswer.TheVariants as answers
use Rattle.grasp_types.specs.declared.session.Handle.{Handle}
use Rattle.grasp_types.specs.declared.session.Kind.{Kind}
use Rattle.grasp_types.specs.declared.session.Kind.TheVariants.{Negotiation, Synchronization}
use Rattle.grasp_types.specs.declared.session.Progress.{Progress}
use Rattle.grasp_types.specs.declared.session.Progress.TheVariants as progress
use Rattle.grasp_wire.specs.Cutter.{no_past}
use Rattle.grasp_laws_node.specs.Alone.{OthersStay}
use Rattle.grasp_model_node.specs.Declines.{Declining, declines_of, after_declines}
use Rattle.grasp_model_node.specs.FloodCalls.{to_all, discovery_message, find_of, looked, flood_message}
use Rattle.grasp_model_node.specs.Moves.{with_registrations, with_sessions, with_draw, dial_record, queue_up}
use Rattle.grasp_model_node.specs.Node.{NodeState}
use Rattle.grasp_model_node.specs.Queue.{all_ways, along, send}
use Rattle.grasp_model_node.specs.RegistryCalls.{declines_for, without_objective, without_agent, without_searches, close_stream, without_session, without_sessions, with_mark}
use Rattle.grasp_model_node.specs.SessionCalls.{stream_or, stream_at, act_message, said, said_last, polled, after_polling, with_adopted, begun_by, requested, negotiated, synchronized}
use Rattle.grasp_model_node.specs.BoundedNodes.{IsBoundedNode}
use Rattle.grasp_model_node.specs.Step.{MayCall, after_call}
use Rattle.grasp_model_node.specs.Streams.{StreamsState, next_stream, with_dialled}
use Rattle.grasp_model_node.specs.Tests.{act_tests, request_tests, synchronize_tests, negotiation_tests}
use Rattle.grasp_laws_node.proofs.Bounded.Calls.{polled_is, mark_kept, declines_kept, without_searches_kept, without_sessions_kept, untaken_owner, next_unused, proper}
use Rattle.grasp_laws_node.proofs.Bounded.Moves.{streams_of, registrations_kept}
use Rattle.grasp_laws_node.proofs.Bounded.Tests.{none_of, number_above, act_allowed}
use Rattle.grasp_laws_node.proofs.OthersAlone.{set_others, start_others}
use Rattle.grasp_laws_node.proofs.Consistent.Declines.{AreSound, AreMeant, IsListed, declines_held, listed_first, listed_later}
use Rattle.grasp_laws_node.proofs.Consistent.Listeners.{IsIn, asa_registered, objective_registered, objective_deregistered, listening_set, listening_other, offered_same, agent_left}
use Rattle.grasp_laws_node.proofs.Consistent.Lists.{lists_all, meant_of, meant_for}
use Rattle.grasp_laws_node.proofs.Consistent.Moves.{IsHeld, IsShut, draw_held, discoveries_held, floods_held, queue_held, registrations_held, call_shut, queue_shut, closing_held}
use Rattle.grasp_laws_node.proofs.Consistent.Streams.{others_past_dialled, next_past}
use Rattle.grasp_laws_node.proofs.Consistent.Table.{AreTied, Shuts, IsHeard, but_one, moved, tied_shut, tied_open, order, set_on, left_shuts, changed_shuts, none_lies, heard_moved, shut_heard}

-- ---- a session of an agent changes and goes on

changes_held : (n : NodeState) (c : TableCall) (h : Handle) (x y : SessionState) → IsBoundedNode n → IsHeld n → runs.MayCall n.sessions c → EndsUntaken c → runs.after_call n.sessions c ≡ with_place n.sessions h.place (Some y)
    → session_at n.sessions h ≡ Some x → y.stream ≡ x.stream → is_going x.view ≡ true → is_going y.view ≡ true → 0 < y.owner → IsHeld (with_sessions n (runs.after_call n.sessions c))
unfolding with_sessions
changes_held n c h x y k held m u is e on goes still above = record {
  ties = subst (λ w. AreTied w n.streams) (sym is) tied;
  heard = subst (λ w. (place : ℕ) (v : SessionState) → IsAt w place v → v.owner ≡ 0 → IsHeard n.registrations v) (sym is) heard;
  fresh = fresh_stay n.sessions c held.fresh m u;
} where
  z : Sessions
  z = n.sessions

  w : Sessions
  w = with_place z h.place (Some y)

  at : IsAt z h.place x
  at = state_slot z h x e

  o : AreInOrder z
  o = order z k.sessions

  others : OthersStay x.stream z w
  others = set_others x.stream z z.made h.place z.gone (Some y)
      (λ v there. ap (λ (s : SessionState). s.stream) (some_state v x (sym there ∙ at))) (λ v f. ap (λ (s : SessionState). s.stream) (sym (some_state y v f)) ∙ on)

  same : (place : ℕ) (v : SessionState) → IsAt w place v → v.stream ≡ x.stream → y ≡ v
  same place v there f = some_state y v (set_on z z.made h.place z.gone (Some y) x o at place v there f)

  tied : AreTied w n.streams
  tied = tied_open x.stream w n.streams
      (moved x.stream z w n.streams n.streams (but_one x.stream z n.streams held.ties) others (λ other d. refl))
      (λ place v there f. subst (λ (s : SessionState). is_going s.view ≡ true) (same place v there f) still)
      (held.ties.opens h.place x at goes)
      (λ even. record { place = h.place; session = y; at = get_or-set_same z.places h.place (Some y) None (at_below z.places h.place x at); on = on; going = still })

  heard : (place : ℕ) (v : SessionState) → IsAt w place v → v.owner ≡ 0 → IsHeard n.registrations v
  heard = heard_moved n.registrations x.stream z w held.heard others
      (λ place v there f own. absurd (let none : y.owner ≡ 0 = ap (λ (s : SessionState). s.owner) (same place v there f) ∙ own in omega (arith, above, none)))

-- ---- what is said

no_mark : (a b : Bool) → a && b ≡ true → a && true ≡ true
no_mark true b e = refl
no_mark false b e = absurd (false≢true e)

-- what is said isn't the last
abbrev GoesOn : Saying → Type 0
GoesOn (SayStep value) = Unit {0}
GoesOn (SayWait millis) = Unit {0}
GoesOn (SayEnd verdict) = ⊥
GoesOn (SayInvalid detail) = ⊥

still_goes : (v : Transcript) (now : ℕ) (saying : Saying) → GoesOn saying → is_going v ≡ true → is_going (having_said v now saying) ≡ true
still_goes v now (SayStep value) g e = no_mark (is_none v.mark) (not (is_over v.entries)) e
still_goes v now (SayWait millis) g e = no_mark (is_none v.mark) (not (is_over v.entries)) e
still_goes v now (SayEnd verdict) g e = absurd g
still_goes v now (SayInvalid detail) g e = absurd g

said_held : (n : NodeState) (asa : ℕ) (h : Handle) (saying : Saying) → IsBoundedNode n → IsHeld n → 0 < asa → GoesOn saying → check_reply n.sessions asa h (act_of saying) ≡ Ok tt → IsHeld (said n h saying)
said_held n asa h saying k held above g e =
    let c = checked_means n.sessions asa h (act_of saying) e in
    let x : SessionState = c.state in
    let y : SessionState = with_transcript x (having_said x.view n.reading saying) in
    let goes : is_going x.view ≡ true = allowed_goes x.view (act_of saying) c.allowed in
    let own : x.owner ≡ asa = owned_by asa (session_at n.sessions h) x c.owned in
    let still : is_going y.view ≡ true = still_goes x.view n.reading saying g goes in
    queue_held (with_sessions n (after_say n.sessions n.reading h saying)) (send (stream_at n h) (act_message n h saying) ∷ [])
    (changes_held n (Speaks n.reading asa h saying) h x y k held e (λ none. absurd (omega (arith, above, none)))
    ((said_means n.sessions n.reading h saying x c.at).after ∙ stays_place n.sessions h y still) c.at refl goes still (omega (arith, above, own)))

last_held : (n : NodeState) (asa : ℕ) (h : Handle) (saying : Saying) → IsBoundedNode n → IsHeld n → IsLastSaying saying → check_reply n.sessions asa h (act_of saying) ≡ Ok tt → IsHeld (said_last n h saying)
last_held n asa h saying k held last e =
    let c = checked_means n.sessions asa h (act_of saying) e in
    let x : SessionState = c.state in
    let y : SessionState = with_transcript x (having_said x.view n.reading saying) in
    let on : x.stream ≡ stream_at n h = sym (ap (λ o. stream_or (stream_of o)) c.at) in
    let shuts : Shuts x.stream n.sessions (after_say n.sessions n.reading h saying) =
    subst (Shuts x.stream n.sessions) (sym (said_means n.sessions n.reading h saying x c.at).after)
    (changed_shuts n.sessions h x y (order n.sessions k.sessions) c.at refl (last_said x.view n.reading saying last)) in
    closing_held (said n h saying) (stream_at n h)
    (queue_shut (with_sessions n (after_say n.sessions n.reading h saying)) (stream_at n h) (send (stream_at n h) (act_message n h saying) ∷ [])
    (call_shut n (Speaks n.reading asa h saying) (stream_at n h) k held e (λ none. last) (subst (λ stream. Shuts stream n.sessions (after_say n.sessions n.reading h saying)) on shuts)))

-- ---- sessions go

same_sessions : (n : NodeState) → IsHeld n → IsHeld (with_sessions n n.sessions)
unfolding with_sessions
same_sessions n held = record { ties = held.ties; heard = held.heard; fresh = held.fresh }

without_session_held : (n : NodeState) (o : Option Handle) → IsBoundedNode n → IsHeld n → IsHeld (without_session n o)
without_session_held n None k held = held
without_session_held n (Some h) k held = by_state (session_at n.sessions h) refl where
  by_state : (o : Option SessionState) → session_at n.sessions h ≡ o → IsHeld (close_stream (with_sessions n (leave_at n.sessions h o)) (stream_of o))
  by_state None e = same_sessions n held
  by_state (Some x) e =
      closing_held (with_sessions n (left n.sessions h x)) x.stream
      (subst (λ w. IsShut x.stream (with_sessions n w)) (ap (leave_at n.sessions h) e)
      (call_shut n (Removes h) x.stream k held (rw e refl) tt (subst (Shuts x.stream n.sessions) (sym (ap (leave_at n.sessions h) e)) (left_shuts n.sessions h x x (order n.sessions k.sessions) e))))

without_sessions_held : (count : ℕ) (n : NodeState) (asa : ℕ) → IsBoundedNode n → IsHeld n → IsHeld (without_sessions count n asa)
unfolding without_sessions
without_sessions_held zero n asa k held = held
without_sessions_held (suc count) n asa k held =
    without_session_held (without_sessions count n asa) (owner_reply (without_sessions count n asa).sessions asa) (without_sessions_kept count n asa k) (without_sessions_held count n asa k held)

gone_held : (n : NodeState) (c : TableCall) (x : SessionState) (place : ℕ) → IsBoundedNode n → IsHeld n → runs.MayCall n.sessions c → EndsUntaken c → Shuts x.stream n.sessions (runs.after_call n.sessions c)
    → IsAt n.sessions place x → is_going x.view ≡ false → IsHeld (with_sessions n (runs.after_call n.sessions c))
unfolding with_sessions
gone_held n c x place k held m u shuts at ended = record {
  ties = tied_shut x.stream w n.streams (moved x.stream n.sessions w n.streams n.streams (but_one x.stream n.sessions n.streams held.ties) shuts.others (λ other d. refl)) shuts.shut (held.ties.ended place x at ended);
  heard = shut_heard n.registrations x.stream n.sessions w (order w (calls_go_on n.sessions c k.sessions m)) held.heard shuts;
  fresh = fresh_stay n.sessions c held.fresh m u;
} where
  w : Sessions
  w = runs.after_call n.sessions c

abbrev polled_state : Option SessionState → Result Progress SessionRefused
polled_state None = Err NoSession
polled_state (Some x) = Ok (progress_of x.view)

polls_held : (n : NodeState) (asa : ℕ) (h : Handle) (p : Progress) → IsBoundedNode n → IsHeld n → Ok p ≡ poll_reply n.sessions asa h → IsHeld (with_sessions n (after_poll n.sessions h (Ok p)))
polls_held n asa h progress.NotYet k held e = same_sessions n held
polls_held n asa h (progress.Turn o) k held e = same_sessions n held
polls_held n asa h (progress.Ended o) k held e = by_owned (session_owned n.sessions asa h) refl e where
  by_owned : (v : Option SessionState) → session_owned n.sessions asa h ≡ v → Ok (progress.Ended o) ≡ polled_state v → IsHeld (with_sessions n (leave_at n.sessions h (session_at n.sessions h)))
  by_owned None f g = absurd (cc)
  by_owned (Some x) f g =
      let at : session_at n.sessions h ≡ Some x = owned_at asa (session_at n.sessions h) x f in
      let told : progress_of x.view ≡ progress.Ended o = cc in
      gone_held n (Polls asa h (Ok (progress.Ended o))) x h.place k held e tt
      (subst (Shuts x.stream n.sessions) (sym (ap (leave_at n.sessions h) at)) (left_shuts n.sessions h x x (order n.sessions k.sessions) at))
      (state_slot n.sessions h x at) (progress_ended x.view o told)

polling_held : (n : NodeState) (asa : ℕ) (h : Handle) (a : ApiAnswer) → IsBoundedNode n → IsHeld n → a ≡ polled (poll_reply n.sessions asa h) → IsHeld (after_polling n h (Ok a))
polling_held n asa h (answers.Polled p) k held e = polls_held n asa h p k held (polled_is (poll_reply n.sessions asa h) p e)
polling_held n asa h a k held e = held

-- ---- an objective is listened for

adopts_held : (n : NodeState) (asa : ℕ) (h : Handle) → IsBoundedNode n → IsHeld n → 0 < asa → owner_of (session_at n.sessions h) ≡ Some 0 → IsHeld (with_sessions n (after_adopt n.sessions asa h))
adopts_held n asa h k held above free = by_state (session_at n.sessions h) refl free where
  zero_owner : (x : SessionState) → Some x.owner ≡ Some 0 → x.owner ≡ 0
  zero_owner x e = cc

  by_state : (o : Option SessionState) → session_at n.sessions h ≡ o → owner_of o ≡ Some 0 → IsHeld (with_sessions n (after_adopt n.sessions asa h))
  by_state None e f = absurd (cc)
  by_state (Some x) e f =
      let goes : is_going x.view ≡ true = ((order n.sessions k.sessions).untaken h.place x (state_slot n.sessions h x e) (zero_owner x f)).1 in
      changes_held n (Adopts asa h) h x (with_owner x asa) k held (free, above) tt (rw e refl) e refl goes goes above

adopted_held : (n : NodeState) (asa : ℕ) (o : Option Handle) → IsBoundedNode n → IsHeld n → 0 < asa → ((h : Handle) → o ≡ Some h → owner_of (session_at n.sessions h) ≡ Some 0) → IsHeld (with_adopted n asa o)
adopted_held n asa None k held above f = held
adopted_held n asa (Some h) k held above f = adopts_held n asa h k held above (f h refl)

mark_held : (n : NodeState) (asa : ℕ) (name : List ℕ) → IsHeld n → IsHeld (with_mark n asa name true)
mark_held n asa name held =
    registrations_held n (after_listen n.registrations name true (listen_answer n.registrations asa name)) held
    (λ place x at own. listening_set n.registrations name (request_of x.view).name (listen_answer n.registrations asa name) (held.heard place x at own))

listening_held : (n : NodeState) (asa : ℕ) (name : List ℕ) → IsBoundedNode n → IsHeld n → 0 < asa → IsHeld (with_adopted (with_mark n asa name true) asa (untaken_reply n.sessions name))
unfolding with_registrations
listening_held n asa name k held above =
    adopted_held (with_mark n asa name true) asa (untaken_reply n.sessions name) (mark_kept n asa name true k) (mark_held n asa name held) above (λ h e. untaken_owner n.sessions name h e)

-- ---- what isn't listened for any more is declined

sound_of : (n : NodeState) (r : Registrations) → IsHeld n → AreSound (with_registrations n r)
unfolding with_registrations
sound_of n r held = record { ties = held.ties; fresh = held.fresh }

unlistened_held : (n : NodeState) (r : Registrations) (ds : List Declining) → IsBoundedNode (with_registrations n r) → IsHeld n → AreMeant n.sessions ds
    → ((place : ℕ) (x : SessionState) → IsAt n.sessions place x → x.owner ≡ 0 → IsHeard r x ⊎ IsListed x.stream ds) → IsHeld (after_declines (with_registrations n r) ds)
unfolding with_registrations
unlistened_held n r ds k held m f = declines_held (with_registrations n r) ds k (sound_of n r held) m f

-- those of one objective
named_held : (n : NodeState) (r : Registrations) (name : List ℕ) → IsBoundedNode n → IsBoundedNode (with_registrations n r) → IsHeld n
    → ((x : SessionState) → bytes_eq (request_of x.view).name name ≡ false → IsHeard n.registrations x → IsHeard r x) → IsHeld (after_declines (with_registrations n r) (declines_of n.sessions name))
named_held n r name k after held others =
    unlistened_held n r (declines_of n.sessions name) after held (meant_of n.sessions (order n.sessions k.sessions) name)
    (λ place x at own. by_name place x at own (bytes_eq (request_of x.view).name name) refl) where
      by_name : (place : ℕ) (x : SessionState) → IsAt n.sessions place x → x.owner ≡ 0 → (b : Bool) → bytes_eq (request_of x.view).name name ≡ b → IsHeard r x ⊎ IsListed x.stream (declines_of n.sessions name)
      by_name place x at own true e = inr (lists_all n.sessions (order n.sessions k.sessions) name place x at own e)
      by_name place x at own false e = inl (others x e (held.heard place x at own))

deregister_objective_held : (n : NodeState) (asa : ℕ) (name : List ℕ) → IsBoundedNode n → IsHeld n → IsHeld (after_declines (without_objective n asa name) (declines_of n.sessions name))
deregister_objective_held n asa name k held =
    let result = deregister_objective_answer n.registrations asa name in
    let r : Registrations = after_deregister_objective n.registrations asa name result in
    named_held n r name k (registrations_kept n r k ((registry_kept.kept n.registrations k.registrations).deregister_objective asa name)) held
    (λ x differs heard. objective_deregistered n.registrations asa name (request_of x.view).name result differs heard)

stop_held : (n : NodeState) (asa : ℕ) (name : List ℕ) → IsBoundedNode n → IsHeld n → IsHeld (after_declines (with_mark n asa name false) (declines_of n.sessions name))
stop_held n asa name k held =
    let result = listen_answer n.registrations asa name in
    let r : Registrations = after_listen n.registrations name false result in
    named_held n r name k (mark_kept n asa name false k) held (λ x differs heard. listening_other n.registrations name (request_of x.view).name result differs heard)

-- those of all objectives of an agent
in_list : (z : Sessions) → AreInOrder z → (names : List (List ℕ)) (place : ℕ) (x : SessionState) → IsAt z place x → x.owner ≡ 0 → IsIn (request_of x.view).name names → IsListed x.stream (declines_for z names)
in_list z o [] place x at own i = absurd i
in_list z o (name ∷ names) place x at own (inl e) = listed_first x.stream (declines_of z name) (declines_for z names) (lists_all z o name place x at own (same_word (request_of x.view).name name (sym e)))
in_list z o (name ∷ names) place x at own (inr i) = listed_later x.stream (declines_of z name) (declines_for z names) (in_list z o names place x at own i)

deregister_asa_held : (n : NodeState) (asa : ℕ) → IsBoundedNode n → IsHeld n
    → IsHeld (without_sessions 64 (without_searches (after_declines (without_agent n asa) (declines_for n.sessions (names_of n.registrations asa))) asa) asa)
deregister_asa_held n asa k held =
    without_sessions_held 64 (without_searches declined asa) asa (without_searches_kept declined asa (declines_kept (without_agent n asa) ds registered)) (discoveries_held declined _ without) where
      ds : List Declining
      ds = declines_for n.sessions (names_of n.registrations asa)

      r : Registrations
      r = after_deregister_asa n.registrations asa (deregister_asa_answer n.registrations asa)

      registered : IsBoundedNode (with_registrations n r)
      registered = registrations_kept n r k ((registry_kept.kept n.registrations k.registrations).deregister_asa asa)

      declined : NodeState
      declined = after_declines (without_agent n asa) ds

      by_name : (place : ℕ) (x : SessionState) → IsAt n.sessions place x → x.owner ≡ 0 → IsHeard r x ⊎ IsIn (request_of x.view).name (names_of n.registrations asa) → IsHeard r x ⊎ IsListed x.stream ds
      by_name place x at own (inl h) = inl h
      by_name place x at own (inr i) = inr (in_list n.sessions (order n.sessions k.sessions) (names_of n.registrations asa) place x at own i)

      without : IsHeld declined
      without =
          unlistened_held n r ds registered held (meant_for n.sessions (order n.sessions k.sessions) (names_of n.registrations asa))
          (λ place x at own. by_name place x at own (agent_left n.registrations asa (request_of x.view).name (deregister_asa_answer n.registrations asa) (held.heard place x at own)))

-- ---- an agent's request

-- a session may begin
record Starts (z : Sessions) : Type 0 where
  pub handle : Handle
  pub is : start_reply z ≡ Ok handle

starts : (z : Sessions) → AreInOrder z → session.is_full z ≡ false → Starts z
starts z o free = by_reply (start_reply z) refl (starts_say z o.long) where
  by_reply : (r : Result Handle SessionRefused) → start_reply z ≡ r → StartSays z r → Starts z
  by_reply (Ok h) e s = record { handle = h; is = e }
  by_reply (Err SessionsFull) e s = absurd (true≢false (sym s ∙ free))
  by_reply (Err refused) e s = absurd s

requested_held : (n : NodeState) (asa : ℕ) (kind : Kind) (timeout : ℕ) (o : Objective) (peer : Locator) → IsBoundedNode n → IsHeld n → 0 < asa → session.is_full n.sessions ≡ false
    → IsHeld (requested n asa kind timeout o peer)
unfolding with_sessions with_draw dial_record queue_up
requested_held n asa kind timeout o peer k held above free = record {
  ties = subst (λ r. AreTied (after_start z n.reading b r) t) (sym s.is) tied;
  heard = subst (λ r. (place : ℕ) (x : SessionState) → IsAt (after_start z n.reading b r) place x → x.owner ≡ 0 → IsHeard n.registrations x) (sym s.is) heard;
  fresh = fresh_stay z (Begins n.reading b) held.fresh (next_unused n k, proper n asa kind timeout o above) tt;
} where
  z : Sessions
  z = n.sessions

  b : Begin
  b = begun_by n asa kind timeout o

  t : StreamsState
  t = with_dialled n.streams (Some no_past)

  next : ℕ
  next = next_stream n.streams

  s : Starts z
  s = starts z (order z k.sessions) free

  new : SessionState
  new = begun_state n.reading s.handle.number b

  w : Sessions
  w = after_start z n.reading b (Ok s.handle)

  others : OthersStay next z w
  others = start_others next z n.reading b s.handle refl s.is

  same : (place : ℕ) (x : SessionState) → IsAt w place x → x.stream ≡ next → new ≡ x
  same place x at on = by_case (set_some z.places s.handle.place (Some new) place x at) where
    by_case : ((place ≡ s.handle.place) × (Some new ≡ Some x)) ⊎ ((place ≢ s.handle.place) × IsAt z place x) → new ≡ x
    by_case (inl i) = some_state new x i.1
    by_case (inr i) = absurd (none_lies z next (next_unused n k) place x i.1 on)

  tied : AreTied w t
  tied = tied_open next w t (moved next z w n.streams t (but_one next z n.streams held.ties) others (others_past_dialled n.streams (Some no_past)))
      (λ place x at on. subst (λ (v : SessionState). is_going v.view ≡ true) (same place x at on) (request_goes n.reading s.handle.number b))
      (subst IsSome (sym (next_past n.streams (Some no_past) (streams_of n k))) refl)
      (λ even. record {
        place = s.handle.place;
        session = new;
        at = get_or-set_same z.places s.handle.place (Some new) None (started z s.handle s.is).place;
        on = refl;
        going = request_goes n.reading s.handle.number b;
      })

  heard : (place : ℕ) (x : SessionState) → IsAt w place x → x.owner ≡ 0 → IsHeard n.registrations x
  heard = heard_moved n.registrations next z w held.heard others
      (λ place x at on own. absurd (let none : asa ≡ 0 = ap (λ (v : SessionState). v.owner) (same place x at on) ∙ own in omega (arith, above, none)))

-- ---- searches and floods

to_all_held : (n : NodeState) (m : Message) → IsHeld n → IsHeld (to_all n m)
to_all_held n m held = queue_held n (along m (all_ways n.plan.links)) held

looked_held : (n : NodeState) (asa : ℕ) (name : List ℕ) (kind : Kind) (loops timeout : ℕ) (f : Find) → IsHeld n → IsHeld (looked n asa name kind loops timeout f)
looked_held n asa name kind loops timeout find.Fresh held = to_all_held _ (discovery_message n name kind loops) (draw_held _ (discoveries_held n _ held))
looked_held n asa name kind loops timeout _ held = discoveries_held n _ held

-- ---- all calls

pub answered_held : (n : NodeState) (asa : ℕ) (call : Call) (a : ApiAnswer) → IsBoundedNode n → IsHeld n → MayCall n asa call (Ok a) → IsHeld (after_call n asa call (Ok a))
answered_held n asa (calls.RegisterAsa name) a k held m =
    registrations_held n (after_register_asa n.registrations name (register_asa_answer n.registrations name)) held
    (λ place x at own. asa_registered n.registrations name (request_of x.view).name (register_asa_answer n.registrations name) (held.heard place x at own))
answered_held n asa calls.DeregisterAsa a k held m = deregister_asa_held n asa k held
answered_held n asa (calls.RegisterObjective name flags) a k held m =
    registrations_held n (after_register_objective n.registrations asa name flags (register_objective_answer n.registrations asa name flags)) held
    (λ place x at own. objective_registered n.registrations asa name flags (request_of x.view).name (register_objective_answer n.registrations asa name flags) (held.heard place x at own))
answered_held n asa (calls.DeregisterObjective name) a k held m = deregister_objective_held n asa name k held
answered_held n asa (calls.Discover name kind loops timeout) a k held m = looked_held n asa name kind loops timeout (find_of n asa name kind) held
answered_held n asa (calls.RequestNegotiate name value loops timeout dry peer) a k held m =
    let t = none_of (request_tests n asa name dry peer) m.0 in
    requested_held n asa Negotiation timeout (negotiated n asa name value loops dry) peer k held (number_above n asa k t.asa) t.sessions
answered_held n asa (calls.ListenNegotiate name) a k held m = listening_held n asa name k held (number_above n asa k (none_of (negotiation_tests n asa name) m.0).asa)
answered_held n asa (calls.StopListenNegotiate name) a k held m = stop_held n asa name k held
answered_held n asa (calls.NegotiateStep h value) a k held m =
    let t = none_of (act_tests n asa h act.Step) m.0 in said_held n asa h (SayStep value) k held (number_above n asa k t.asa) tt (act_allowed n asa h act.Step t)
answered_held n asa (calls.NegotiateWait h millis) a k held m =
    let t = none_of (act_tests n asa h act.Wait) m.0 in said_held n asa h (SayWait millis) k held (number_above n asa k t.asa) tt (act_allowed n asa h act.Wait t)
answered_held n asa (calls.EndNegotiate h verdict) a k held m = last_held n asa h (SayEnd verdict) k held tt (act_allowed n asa h act.End (none_of (act_tests n asa h act.End) m.0))
answered_held n asa (calls.SendInvalid h detail) a k held m = last_held n asa h (SayInvalid detail) k held tt (act_allowed n asa h act.Invalid (none_of (act_tests n asa h act.Invalid) m.0))
answered_held n asa (calls.Poll h) a k held m = polling_held n asa h a k held m.2
answered_held n asa (calls.Synchronize name loops timeout peer) a k held m =
    let t = none_of (synchronize_tests n asa name peer) m.0 in
    requested_held n asa Synchronization timeout (synchronized n asa name loops) peer k held (number_above n asa k t.asa) t.sessions
answered_held n asa (calls.ListenSynchronize name value) a k held m =
    registrations_held n (after_offer n.registrations name (Some value) (offer_answer n.registrations asa name)) held
    (λ place x at own. offered_same n.registrations name (Some value) (request_of x.view).name (offer_answer n.registrations asa name) (held.heard place x at own))
answered_held n asa (calls.StopListenSynchronize name) a k held m =
    registrations_held n (after_offer n.registrations name None (offer_answer n.registrations asa name)) held
    (λ place x at own. offered_same n.registrations name None (request_of x.view).name (offer_answer n.registrations asa name) (held.heard place x at own))
answered_held n asa (calls.Flood name value ttl loops) a k held m = to_all_held (with_draw n) (flood_message n asa name value ttl loops) (draw_held n held)
answered_held n asa (calls.GetFlood name) a k held m = held
answered_held n asa (calls.ExpireFlood name initiator) a k held m = floods_held n _ held
