-- While the messages of a stream are heard the parts of a node hold together but for that stream.
use Rattle.std.proofs.Common.{◌≡◌, ◌≢◌, ℕ, ◌%◌, Bool, true, false, cond, not, ◌&&◌, ◌==◌, List, [], ◌∷◌, length, ◌⊎◌, inl, inr, Option, None, Some, IsSome, Result, Ok, Err, refl, sym, ap, ◌∙◌, subst, arith}
use Rattle.std.proofs.lemmas.Bool.{false≢true, true≢false, not-true, not-false, eqb-true}
use Rattle.std.proofs.lemmas.List.{get_or-set_same}
use Rattle.grasp_asa.specs.Answers.{listener_of, flags_registered, value_offered}
use Rattle.grasp_cbor.specs.DataItem.{DataItem}
use Rattle.grasp_discovery.specs.Discoveries.{asker_of, after_answered, end_of}
use Rattle.grasp_discovery.specs.declared.answers.Answered.{Answered}
use Rattle.grasp_discovery.specs.declared.answers.Answered.TheVariants.{Relay}
use Rattle.grasp_discovery.specs.declared.topic.Topic.{Topic}
use Rattle.grasp_laws_session.proofs.Fresh.{fresh_stay}
use Rattle.grasp_session.proofs.Means.{kept_means}
use Rattle.grasp_laws_session.proofs.Runs.{calls_go_on, set_some, some_state}
use Rattle.grasp_laws_session.proofs.Says.{started}
use Rattle.grasp_laws_session.proofs.Streams.{is_least}
use Rattle.grasp_session.proofs.Tables.{state_slot}
use Rattle.grasp_session.specs.Made.{IsFresh, AreFresh, EndsUntaken}
use Rattle.grasp_session.specs.Runs.{TableCall, Begins, Takes, EndsBy, MayCall, after_call, AreInOrder, Reached}
use Rattle.grasp_session.specs.Says.{IsAt}
use Rattle.grasp_session.specs.Sessions.{SessionState, Sessions, with_transcript, begun_state, state_reply, receive_reply, after_receive, after_mark, start_reply, after_start}
use Rattle.grasp_session.specs.Transcript.{Transcript, Faulty, is_going, with_kept}
use Rattle.grasp_session.specs.declared.answer.Received.{Received}
use Rattle.grasp_session.specs.declared.answer.Received.TheVariants.{Kept, Ignored, Bad}
use Rattle.grasp_session.specs.declared.answer.SessionRefused.{SessionRefused}
use Rattle.grasp_types.specs.Objective.{has_synch}
use Rattle.grasp_types.specs.Origin.{origin_of}
use Rattle.grasp_types.specs.declared.address.Locator.{Locator}
use Rattle.grasp_types.specs.declared.links.Neighbour.{Neighbour}
use Rattle.grasp_types.specs.declared.message.Message.{Message}
use Rattle.grasp_types.specs.declared.message.Message.TheVariants.{Noop, Discovery, Response, ReqNeg, ReqSyn, Negotiate, End, Wait, Synch, Flood, Invalid}
use Rattle.grasp_types.specs.declared.objective.Objective.{Objective}
use Rattle.grasp_types.specs.declared.session.Handle.{Handle}
use Rattle.grasp_laws_node.specs.Alone.{OthersStay}
use Rattle.grasp_model_node.proofs.Facts.{proper}
use Rattle.grasp_model_node.specs.Declines.{declined_for, unlistened, busy}
use Rattle.grasp_model_node.specs.Hear.{goes_on, refused_by, after_refusal, hear_later_by, may_ask, if_listener, is_listened, declines, untaken, listened, hear_request, synched, hear_synchronization, answered_with, neighbour_at, dial_neighbour, sent_on, responded, hear_first, hear_by, hear}
use Rattle.grasp_model_node.specs.Moves.{with_sessions, with_discoveries, dial_record, queue_up, may_queue, answer, dial_with}
use Rattle.grasp_model_node.specs.Node.{NodeState}
use Rattle.grasp_model_node.specs.Queue.{Queued, send, dial}
use Rattle.grasp_model_node.specs.Streams.{StreamRecord, is_dialled_out, next_stream, record_of, with_dialled}
use Rattle.grasp_laws_node.proofs.Bounded.Hear.{Hears}
use Rattle.grasp_laws_node.proofs.Bounded.Moves.{streams_of}
use Rattle.grasp_laws_node.proofs.Bounded.Streams.{AreStreams}
use Rattle.grasp_laws_node.proofs.OtherRecords.{next_record, kept_with_more}
use Rattle.grasp_laws_node.proofs.OthersAlone.{others_self, keep_others, start_others}
use Rattle.grasp_laws_node.proofs.Consistent.Streams.{dialled_past}
use Rattle.grasp_laws_node.proofs.Consistent.Table.{Goes, TiedBut, Shut, AllGo, IsHeard, AreHeard, LiesOn, moved, order, one_on, changed_on, mark_shuts, state_lies, none_lies, heard_moved}

-- The parts hold together but for the stream, which has a record and counts as closing
pub record Hearing (stream : ℕ) (n : NodeState) : Type 0 where
  pub but : TiedBut stream n.sessions n.streams
  pub heard : AreHeard n.registrations n.sessions
  pub fresh : AreFresh n.sessions
  pub here : StreamRecord
  pub is_here : record_of n.streams stream ≡ Some here
  pub shut : here.past ≡ None

-- the sessions on the stream, where it is still open and where it isn't
abbrev pub Here : ℕ → Bool → Sessions → Type 0
Here stream true z = AllGo stream z × (stream % 2 ≡ 0 → Goes z stream)
Here stream false z = Shut stream z

abbrev pub HeldBut : ℕ → Bool → NodeState → Type 0
HeldBut stream still n = Hearing stream n × Here stream still n.sessions

here_of : (z : Sessions) (stream : ℕ) → AreInOrder z → Here stream (goes_on (state_reply z stream)) z
here_of z stream o = by_state (state_reply z stream) refl where
  by_ended : (b : Bool) → LiesOn z stream b → Here stream (not b) z
  by_ended true l = λ place x at on.
      subst (λ (w : SessionState). is_going w.view ≡ false) (one_on z o l.place place l.session x l.at at (l.on ∙ sym on)) (not-true (is_going l.session.view) l.ends)
  by_ended false l =
      let going : is_going l.session.view ≡ true = not-false (is_going l.session.view) l.ends in (
        λ place x at on. subst (λ (w : SessionState). is_going w.view ≡ true) (one_on z o l.place place l.session x l.at at (l.on ∙ sym on)) going,
        λ even. record { place = l.place; session = l.session; at = l.at; on = l.on; going = going },
      )

  by_state : (s : Option (ℕ × Bool)) → state_reply z stream ≡ s → Here stream (goes_on s) z
  by_state None e = λ place x at on. absurd (none_lies z stream e place x at on)
  by_state (Some state) e = by_ended state.1 (state_lies z stream state e)

-- ---- moves

queue_but : (stream : ℕ) (still : Bool) (n : NodeState) (outputs : List Queued) → HeldBut stream still n → HeldBut stream still (queue_up n outputs)
unfolding queue_up
queue_but stream still n outputs k = (record { but = k.0.but; heard = k.0.heard; fresh = k.0.fresh; here = k.0.here; is_here = k.0.is_here; shut = k.0.shut }, k.1)

answer_but : (stream : ℕ) (still : Bool) (n : NodeState) (on : ℕ) (m : Message) → HeldBut stream still n → HeldBut stream still (answer n on m)
answer_but stream still n on m k = by_test (may_queue n m 1) where
  by_test : (b : Bool) → HeldBut stream still (cond b (queue_up n (send on m ∷ [])) n)
  by_test true = queue_but stream still n (send on m ∷ []) k
  by_test false = k

dial_but : (stream : ℕ) (still : Bool) (n : NodeState) (outputs : List Queued) → AreStreams n.streams → HeldBut stream still n → HeldBut stream still (dial_record (queue_up n outputs) None)
unfolding dial_record queue_up
dial_but stream still n outputs a k = (
  record {
    but = moved stream n.sessions n.sessions n.streams (with_dialled n.streams None) k.0.but (others_self stream n.sessions) (λ other d. dialled_past n.streams a other);
    heard = k.0.heard;
    fresh = k.0.fresh;
    here = k.0.here;
    is_here = kept_with_more stream n.streams.records (next_record n.streams None ∷ []) k.0.here k.0.is_here;
    shut = k.0.shut;
  },
  k.1,
)

dial_with_but : (stream : ℕ) (still : Bool) (n : NodeState) (to : Locator) (m : Message) → AreStreams n.streams → HeldBut stream still n → HeldBut stream still (dial_with n to m)
dial_with_but stream still n to m a k = by_test (may_queue n m 2 && not (is_dialled_out n.streams)) where
  outputs : List Queued
  outputs = dial (next_stream n.streams) to ∷ send (next_stream n.streams) m ∷ []

  by_test : (b : Bool) → HeldBut stream still (cond b (dial_record (queue_up n outputs) None) n)
  by_test true = dial_but stream still n outputs a k
  by_test false = k

-- a call of the table that touches the stream's session alone
call_hearing : (stream : ℕ) (n : NodeState) (c : TableCall) → Hears stream n → Hearing stream n → MayCall n.sessions c → EndsUntaken c → OthersStay stream n.sessions (after_call n.sessions c)
    → ((place : ℕ) (x : SessionState) → IsAt (after_call n.sessions c) place x → x.stream ≡ stream → x.owner ≡ 0 → IsHeard n.registrations x) → Hearing stream (with_sessions n (after_call n.sessions c))
unfolding with_sessions
call_hearing stream n c h k m u stay mine = record {
  but = moved stream n.sessions (after_call n.sessions c) n.streams n.streams k.but stay (λ other d. refl);
  heard = heard_moved n.registrations stream n.sessions (after_call n.sessions c) k.heard stay mine;
  fresh = fresh_stay n.sessions c k.fresh m u;
  here = k.here;
  is_here = k.is_here;
  shut = k.shut;
}

-- ---- a later message

pub ends_but : (stream : ℕ) (n : NodeState) (c : TableCall) → Hears stream n → Hearing stream n → MayCall n.sessions c → EndsUntaken c → OthersStay stream n.sessions (after_call n.sessions c) → Shut stream (after_call n.sessions c)
    → HeldBut stream false (with_sessions n (after_call n.sessions c))
unfolding with_sessions
ends_but stream n c h k m u stay shut = (call_hearing stream n c h k m u stay mine, shut) where
  mine : (place : ℕ) (x : SessionState) → IsAt (after_call n.sessions c) place x → x.stream ≡ stream → x.owner ≡ 0 → IsHeard n.registrations x
  mine place x at on own = absurd (true≢false (sym ((order (after_call n.sessions c) (calls_go_on n.sessions c h.0.sessions m)).untaken place x at own).1 ∙ shut place x at on))

marks_but : (stream : ℕ) (n : NodeState) → Hears stream n → Hearing stream n → HeldBut stream false (with_sessions n (after_mark n.sessions stream Faulty))
marks_but stream n h k =
    let s = mark_shuts n.sessions stream Faulty (order n.sessions h.0.sessions) in
    ends_but stream n (EndsBy stream Faulty) h k tt tt s.others s.shut

queue_set : (stream : ℕ) (still : Bool) (n : NodeState) (z : Sessions) (outputs : List Queued) → HeldBut stream still (with_sessions n z) → HeldBut stream still (with_sessions (queue_up n outputs) z)
unfolding with_sessions queue_up
queue_set stream still n z outputs k = (record { but = k.0.but; heard = k.0.heard; fresh = k.0.fresh; here = k.0.here; is_here = k.0.is_here; shut = k.0.shut }, k.1)

marked_but : (stream : ℕ) (n : NodeState) (m : Message) → Hears stream n → Hearing stream n → HeldBut stream false (with_sessions (answer n stream m) (after_mark n.sessions stream Faulty))
marked_but stream n m h k = by_test (may_queue n m 1) where
  by_test : (b : Bool) → HeldBut stream false (with_sessions (cond b (queue_up n (send stream m ∷ [])) n) (after_mark n.sessions stream Faulty))
  by_test true = queue_set stream false n (after_mark n.sessions stream Faulty) (send stream m ∷ []) (marks_but stream n h k)
  by_test false = marks_but stream n h k

pub refusal_but : (stream : ℕ) (n : NodeState) → Hears stream n → Hearing stream n → HeldBut stream false (after_refusal n stream)
refusal_but stream n h k = by_state (state_reply n.sessions stream) refl where
  o : AreInOrder n.sessions
  o = order n.sessions h.0.sessions

  by_ended : (session : ℕ) (b : Bool) → LiesOn n.sessions stream b → HeldBut stream false (cond b n (with_sessions (answer n stream (Invalid session None)) (after_mark n.sessions stream Faulty)))
  by_ended session true l = (
    k,
    λ place x at on.
        subst (λ (w : SessionState). is_going w.view ≡ false) (one_on n.sessions o l.place place l.session x l.at at (l.on ∙ sym on)) (not-true (is_going l.session.view) l.ends),
  )
  by_ended session false l = marked_but stream n (Invalid session None) h k

  by_state : (s : Option (ℕ × Bool)) → state_reply n.sessions stream ≡ s → HeldBut stream false (refused_by n stream s)
  by_state None e = (k, λ place x at on. absurd (none_lies n.sessions stream e place x at on))
  by_state (Some state) e = by_ended state.0 state.1 (state_lies n.sessions stream state e)

-- what was kept isn't the request alone
kept_not_fresh : (v : Transcript) (now : ℕ) (m : Message) → IsFresh v → IsFresh (with_kept v now m) → ⊥
kept_not_fresh v now m f g =
    let one : length v.entries ≡ 1 = ap (λ (w : Transcript). length w.entries) f.fresh in
    let two : length (with_kept v now m).entries ≡ 1 = ap (λ (w : Transcript). length w.entries) g.fresh in
    omega (arith, one, two)

keeps_but : (stream : ℕ) (n : NodeState) (m : Message) → receive_reply n.sessions stream m ≡ Kept → Hears stream n → Hearing stream n
    → HeldBut stream (goes_on (state_reply (after_receive n.sessions n.reading stream m Kept) stream)) (with_sessions n (after_receive n.sessions n.reading stream m Kept))
unfolding with_sessions
keeps_but stream n m e h k = (
  subst (λ (r : Received). Hearing stream (with_sessions n (after_receive n.sessions n.reading stream m r))) e
      (call_hearing stream n (Takes n.reading stream m) h k tt tt
      (subst (λ (r : Received). OthersStay stream n.sessions (after_receive n.sessions n.reading stream m r)) (sym e) (keep_others stream n.sessions n.reading m))
      (subst (λ (r : Received). (place : ℕ) (x : SessionState) → IsAt (after_receive n.sessions n.reading stream m r) place x → x.stream ≡ stream → x.owner ≡ 0 → IsHeard n.registrations x) (sym e) mine)),
  here_of w stream (order w (subst (λ (r : Received). Reached (after_receive n.sessions n.reading stream m r)) e (calls_go_on n.sessions (Takes n.reading stream m) h.0.sessions tt))),
) where
  w : Sessions
  w = after_receive n.sessions n.reading stream m Kept

  fresh : AreFresh w
  fresh = subst (λ (r : Received). AreFresh (after_receive n.sessions n.reading stream m r)) e (fresh_stay n.sessions (Takes n.reading stream m) k.fresh tt tt)

  mine : (place : ℕ) (x : SessionState) → IsAt w place x → x.stream ≡ stream → x.owner ≡ 0 → IsHeard n.registrations x
  mine place x at on own =
      let q = kept_means n.sessions n.reading stream m e in
      let l = is_least n.sessions (λ y. y.stream == stream) q.handle q.on in
      let old : SessionState = q.state in
      let lies : old.stream ≡ stream = eqb-true old.stream stream (subst (λ (y : SessionState). (y.stream == stream) ≡ true) (some_state l.state old (sym l.at ∙ q.at)) l.passes) in
      let new : SessionState = with_transcript old (with_kept old.view n.reading m) in
      let same : new ≡ x = changed_on n.sessions q.handle old new (order n.sessions h.0.sessions) q.at place x (subst (λ (z : Sessions). IsAt z place x) q.after at) (on ∙ sym lies) in
      let owned : old.owner ≡ 0 = ap (λ (y : SessionState). y.owner) same ∙ own in
      absurd (kept_not_fresh old.view n.reading m (k.fresh q.handle.place old (state_slot n.sessions q.handle old q.at) owned)
      (subst (λ (y : SessionState). IsFresh y.view) (sym same) (fresh place x at own)))

later_but : (stream : ℕ) (n : NodeState) (m : Message) (r : Received) → receive_reply n.sessions stream m ≡ r → Hears stream n → Hearing stream n
    → HeldBut stream (hear_later_by n stream m r).is_open (hear_later_by n stream m r).node
later_but stream n m Kept e h k = keeps_but stream n m e h k
later_but stream n m Ignored e h k = (k, here_of n.sessions stream (order n.sessions h.0.sessions))
later_but stream n m Bad e h k = refusal_but stream n h k

-- ---- a first message

-- no session lies on the stream
abbrev Empty : ℕ → NodeState → Type 0
Empty stream n = (place : ℕ) (x : SessionState) → IsAt n.sessions place x → x.stream ≢ stream

empty_shut : (stream : ℕ) (n : NodeState) → Hearing stream n → Empty stream n → HeldBut stream false n
empty_shut stream n k empty = (k, λ place x at on. absurd (empty place x at on))

declines_but : (stream : ℕ) (n : NodeState) (session : ℕ) (reason : List ℕ) → Hearing stream n → Empty stream n → HeldBut stream false (declines n stream session reason).node
declines_but stream n session reason k empty = answer_but stream false n stream (End session (declined_for reason)) (empty_shut stream n k empty)

some_listener : (o : Option ℕ) (asked : Bool) → if_listener o asked ≡ true → IsSome o
some_listener None asked e = absurd (false≢true e)
some_listener (Some owner) asked e = refl

begins_but : (stream : ℕ) (n : NodeState) (session : ℕ) (o : Objective) (h : Handle) → start_reply n.sessions ≡ Ok h → state_reply n.sessions stream ≡ None → IsSome (listener_of n.registrations o.name)
    → Hears stream n → Hearing stream n → HeldBut stream true (with_sessions n (after_start n.sessions n.reading (untaken stream session o) (Ok h)))
unfolding with_sessions
begins_but stream n session o h e free some hears k = (
  subst (λ (r : Result Handle SessionRefused). Hearing stream (with_sessions n (after_start n.sessions n.reading (untaken stream session o) r))) e
      (call_hearing stream n (Begins n.reading (untaken stream session o)) hears k (free, proper stream session o) tt
      (subst (λ (r : Result Handle SessionRefused). OthersStay stream n.sessions (after_start n.sessions n.reading (untaken stream session o) r)) (sym e)
      (start_others stream n.sessions n.reading (untaken stream session o) h refl e))
      (subst (λ (r : Result Handle SessionRefused). (place : ℕ) (x : SessionState) → IsAt (after_start n.sessions n.reading (untaken stream session o) r) place x → x.stream ≡ stream → x.owner ≡ 0 → IsHeard n.registrations x) (sym e)
      (λ place x at on own. subst (IsHeard n.registrations) (begun place x at on) some))),
  (
    λ place x at on. subst (λ (y : SessionState). is_going y.view ≡ true) (begun place x at on) refl,
    λ even. record { place = h.place; session = new; at = get_or-set_same n.sessions.places h.place (Some new) None (started n.sessions h e).place; on = refl; going = refl },
  ),
) where
  new : SessionState
  new = begun_state n.reading h.number (untaken stream session o)

  begun : (place : ℕ) (x : SessionState) → IsAt (after_start n.sessions n.reading (untaken stream session o) (Ok h)) place x → x.stream ≡ stream → new ≡ x
  begun place x at on = by_case (set_some n.sessions.places h.place (Some new) place x at) where
    by_case : ((place ≡ h.place) × (Some new ≡ Some x)) ⊎ ((place ≢ h.place) × IsAt n.sessions place x) → new ≡ x
    by_case (inl i) = some_state new x i.1
    by_case (inr i) = absurd (none_lies n.sessions stream free place x i.1 on)

listened_but : (stream : ℕ) (n : NodeState) (session : ℕ) (o : Objective) (r : Result Handle SessionRefused) → start_reply n.sessions ≡ r → state_reply n.sessions stream ≡ None → IsSome (listener_of n.registrations o.name)
    → Hears stream n → Hearing stream n → HeldBut stream (listened n stream session o r).is_open (listened n stream session o r).node
listened_but stream n session o (Ok h) e free some hears k = begins_but stream n session o h e free some hears k
listened_but stream n session o (Err refused) e free some hears k = declines_but stream n session busy k (none_lies n.sessions stream free)

request_but : (stream : ℕ) (n : NodeState) (session : ℕ) (o : Objective) → state_reply n.sessions stream ≡ None → Hears stream n → Hearing stream n
    → HeldBut stream (hear_request n stream session o).is_open (hear_request n stream session o).node
request_but stream n session o free hears k = by_test (is_listened n.registrations o) refl where
  by_test : (b : Bool) → is_listened n.registrations o ≡ b
      → HeldBut stream (cond b (listened n stream session o (start_reply n.sessions)) (declines n stream session unlistened)).is_open (cond b (listened n stream session o (start_reply n.sessions)) (declines n stream session unlistened)).node
  by_test true e = listened_but stream n session o (start_reply n.sessions) refl free (some_listener (listener_of n.registrations o.name) (may_ask o.flags (flags_registered n.registrations o.name)) e) hears k
  by_test false e = declines_but stream n session unlistened k (none_lies n.sessions stream free)

synched_but : (stream : ℕ) (n : NodeState) (session : ℕ) (o : Objective) (value : Option DataItem) → Hearing stream n → Empty stream n
    → HeldBut stream (synched n stream session o value).is_open (synched n stream session o value).node
synched_but stream n session o None k empty = declines_but stream n session unlistened k empty
synched_but stream n session o (Some value) k empty = answer_but stream false n stream (Synch session (record o { value = Some value })) (empty_shut stream n k empty)

synchronization_but : (stream : ℕ) (n : NodeState) (session : ℕ) (o : Objective) → Hearing stream n → Empty stream n
    → HeldBut stream (hear_synchronization n stream session o).is_open (hear_synchronization n stream session o).node
synchronization_but stream n session o k empty = by_test (has_synch o.flags) where
  by_test : (b : Bool) → HeldBut stream (cond b (synched n stream session o (value_offered n.registrations o.name)) (declines n stream session unlistened)).is_open
      (cond b (synched n stream session o (value_offered n.registrations o.name)) (declines n stream session unlistened)).node
  by_test true = synched_but stream n session o (value_offered n.registrations o.name) k empty
  by_test false = declines_but stream n session unlistened k empty

neighbour_but : (stream : ℕ) (n : NodeState) (o : Option Neighbour) (m : Message) → AreStreams n.streams → HeldBut stream false n → HeldBut stream false (dial_neighbour n o m)
neighbour_but stream n None m a k = k
neighbour_but stream n (Some neighbour) m a k = dial_with_but stream false n neighbour.locator m a k

sent_on_but : (stream : ℕ) (n : NodeState) (m : Message) (asker : Option (Answered × Topic)) → AreStreams n.streams → HeldBut stream false n → HeldBut stream false (sent_on n m asker)
sent_on_but stream n m (Some (Relay cause, topic)) a k = neighbour_but stream n (neighbour_at n cause.link cause.from) m a k
sent_on_but stream n m _ a k = k

responded_but : (stream : ℕ) (n : NodeState) (ttl : ℕ) (locators : List Locator) (m : Message) (asker : Option (Answered × Topic)) → AreStreams n.streams → HeldBut stream false n → HeldBut stream false (responded n ttl locators m asker)
unfolding with_discoveries
responded_but stream n ttl locators m asker a k =
    sent_on_but stream (with_discoveries n (after_answered n.discoveries (end_of n.reading ttl) locators asker)) m asker a
    (record { but = k.0.but; heard = k.0.heard; fresh = k.0.fresh; here = k.0.here; is_here = k.0.is_here; shut = k.0.shut }, k.1)

first_but : (stream : ℕ) (n : NodeState) (m : Message) → state_reply n.sessions stream ≡ None → Hears stream n → HeldBut stream true n → HeldBut stream (hear_first n stream m).is_open (hear_first n stream m).node
first_but stream n m free h k = by_message m where
  empty : Empty stream n
  empty = none_lies n.sessions stream free

  strange : (session : ℕ) → HeldBut stream false (answer n stream (Invalid session None))
  strange session = answer_but stream false n stream (Invalid session None) (empty_shut stream n k.0 empty)

  by_message : (a : Message) → HeldBut stream (hear_first n stream a).is_open (hear_first n stream a).node
  by_message Noop = k
  by_message (ReqNeg session o) = request_but stream n session o free h k.0
  by_message (ReqSyn session o) = synchronization_but stream n session o k.0 empty
  by_message (Response session initiator ttl told o) =
      responded_but stream n ttl (answered_with told) (Response session initiator ttl told o) (asker_of n.discoveries n.plan.address (origin_of session initiator)) (streams_of n h.0) (empty_shut stream n k.0 empty)
  by_message (Invalid session detail) = empty_shut stream n k.0 empty
  by_message (Discovery session initiator o) = strange session
  by_message (Negotiate session o) = strange session
  by_message (End session verdict) = strange session
  by_message (Wait session millis) = strange session
  by_message (Synch session o) = strange session
  by_message (Flood session initiator ttl parts) = strange session

pub message_but : (stream : ℕ) (n : NodeState) (m : Message) → Hears stream n → HeldBut stream true n → HeldBut stream (hear n stream m).is_open (hear n stream m).node
unfolding hear
message_but stream n m h k = by_state (state_reply n.sessions stream) refl where
  by_state : (s : Option (ℕ × Bool)) → state_reply n.sessions stream ≡ s → HeldBut stream (hear_by n stream m s).is_open (hear_by n stream m s).node
  by_state None e = first_but stream n m e h k
  by_state (Some state) e = later_but stream n m (receive_reply n.sessions stream m) refl h k.0
