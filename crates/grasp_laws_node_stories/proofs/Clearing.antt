-- A step leaves a stream clear: one that is open has a session that goes on, or never had one.
use Rattle.std.proofs.Common.{◌≡◌, ◌≢◌, ℕ, ◌+◌, Bool, true, false, cond, nat_le, List, [], ◌++◌, length, ◌⊎◌, inl, inr, Option, None, Some, Ok, refl, sym, ap, ◌∙◌, subst}
use Rattle.std.proofs.lemmas.Bool.Decides.{eqb_tells}
use Rattle.grasp_asa.specs.Answers.{after_register_asa, register_asa_answer, after_register_objective, register_objective_answer, after_offer, offer_answer, names_of}
use Rattle.grasp_laws_node.proofs.Addressed.Acts.{act_checked}
use Rattle.grasp_laws_node.proofs.DatagramsAlone.{datagrams_leave}
use Rattle.grasp_laws_node.proofs.Bounded.Nodes.{begin_kept, nodes_kept}
use Rattle.grasp_laws_node.proofs.StreamsAlone.{peers_leave}
use Rattle.grasp_laws_node.specs.Alone.{OthersStay}
use Rattle.grasp_model_node.proofs.Facts.{same_dialled}
use Rattle.grasp_model_node.specs.Begin.{begin}
use Rattle.grasp_model_node.specs.Bytes.{most_bytes, heard, past_after, left_as, broken, bytes_on, after_bytes, StarvesAt, after_closed}
use Rattle.grasp_model_node.specs.Draining.{closes, after_drain}
use Rattle.grasp_model_node.specs.FloodCalls.{find_of, to_all, flood_message}
use Rattle.grasp_model_node.specs.Hear.{Heard, goes_on}
use Rattle.grasp_model_node.specs.Moves.{with_registrations, with_floods, with_draw, begin_closing, keep_past, queue_up, open_record}
use Rattle.grasp_model_node.specs.Node.{NodeState}
use Rattle.grasp_model_node.specs.Opening.{is_ignored, after_opened}
use Rattle.grasp_model_node.specs.RegistryCalls.{declines_for, with_mark}
use Rattle.grasp_model_node.specs.SessionCalls.{with_adopted, requested, negotiated, synchronized}
use Rattle.grasp_model_node.specs.BoundedNodes.{IsGiven, IsBoundedNode}
use Rattle.grasp_model_node.specs.Step.{Coming, NodeStep, MayCall, after_call, Calls, Acts}
use Rattle.grasp_model_node.specs.Streams.{past_of, next_stream, has_record}
use Rattle.grasp_model_node.specs.Tests.{request_tests, synchronize_tests}
use Rattle.grasp_flood.specs.Flood.{key_of}
use Rattle.grasp_flood.specs.Floods.{after_drop}
use Rattle.grasp_laws_session.proofs.Runs.{calls_in_order}
use Rattle.grasp_session.specs.Sessions.{is_full, state_reply, untaken_reply}
use Rattle.grasp_session.specs.Talk.{Closes}
use Rattle.grasp_session.specs.Transcript.{SayStep, SayWait, SayEnd, SayInvalid}
use Rattle.grasp_session.specs.declared.answer.Act.TheVariants as act
use Rattle.grasp_types.proofs.Facts.{append_none}
use Rattle.grasp_types.specs.declared.address.Address.{Address}
use Rattle.grasp_types.specs.declared.address.Locator.{Locator}
use Rattle.grasp_types.specs.declared.call.Call.{Call}
use Rattle.grasp_types.specs.declared.call.Call.TheVariants as calls
use Rattle.grasp_types.specs.declared.message.Message.{Message}
use Rattle.grasp_types.specs.declared.objective.Objective.{Objective}
use Rattle.grasp_types.specs.declared.reply.ApiAnswer.{ApiAnswer}
use Rattle.grasp_types.specs.declared.reply.Reply.{Reply}
use Rattle.grasp_types.specs.declared.reply.Reply.TheVariants as reply
use Rattle.grasp_types.specs.declared.session.Kind.{Kind}
use Rattle.grasp_types.specs.declared.session.Kind.TheVariants.{Negotiation, Synchronization}
use Rattle.grasp_types.specs.declared.traffic.Input.{Input}
use Rattle.grasp_types.specs.declared.traffic.Input.TheVariants as input
use Rattle.grasp_wire.specs.Cutter.{Past, no_past}
use Rattle.grasp_laws_node_stories.specs.Stories.{came_on, OpensIt, IsClear, ClearStreamsAreKept}
use Rattle.grasp_laws_node_stories.specs.StreamMoves.{view_on, heard_in, is_dial, some_move}
use Rattle.grasp_laws_node_stories.proofs.Acting.{Same}
use Rattle.grasp_laws_node_stories.proofs.Allowed.{Starts, none_of, starts}
use Rattle.grasp_laws_node_stories.proofs.Beginning.{begins}
use Rattle.grasp_laws_node_stories.proofs.Calling as calling
use Rattle.grasp_laws_node_stories.proofs.CallsKeep.{said_keeps, last_keeps, polling_keeps, adopted_keeps, deregister_objective_keeps, stop_keeps, deregister_asa_keeps, request_keeps, request_voice, looks_keep}
use Rattle.grasp_laws_node_stories.proofs.Delivering as delivering
use Rattle.grasp_laws_node_stories.proofs.Delivering.{HasVoice, is_ready, none_some, cut_past}
use Rattle.grasp_laws_node_stories.proofs.Hearing.{FedHeard, live_goes}
use Rattle.grasp_laws_node_stories.proofs.Keeping.{KeepsVoice, voice_stays}
use Rattle.grasp_laws_node_stories.proofs.Nodes.{acts, born}
use Rattle.grasp_laws_node_stories.proofs.Parts.{Quietly, registers, floods, draws, and_then, given_up}
use Rattle.grasp_laws_node_stories.proofs.Pieces.{hears_piece}
use Rattle.grasp_laws_node_stories.proofs.Records.{more_opens, IsOpened, fold_opens_none, shut_past}
use Rattle.grasp_laws_node_stories.proofs.Requesting.{IsBorn, born_quietly, others}
use Rattle.grasp_laws_node_stories.proofs.Overhearing.{datagrams, piece_elsewhere, starving_elsewhere}
use Rattle.grasp_laws_node_stories.proofs.Responding.{Responded}
use Rattle.grasp_laws_node_stories.proofs.Starving.{starving_past}
use Rattle.grasp_laws_node_stories.proofs.Telling.{Acted, quiet_none, none_after}
use Rattle.grasp_laws_node_stories.proofs.Voices.{Voice, voice_of, voices_begin}

-- an open stream has a live session that goes on, or never had one
abbrev Speaks : ℕ → NodeState → Type 0
Speaks stream n = (past : Past) → past_of n.streams stream ≡ Some past → (view_on n stream ≡ None) ⊎ Voice n.sessions stream

speaks_of : (stream : ℕ) (n : NodeState) → HasVoice stream n → Speaks stream n
speaks_of stream n v past e = by_case (v past e) where
  by_case : (view_on n stream ≡ None) ⊎ (goes_on (state_reply n.sessions stream) ≡ true) → (view_on n stream ≡ None) ⊎ Voice n.sessions stream
  by_case (inl f) = inl f
  by_case (inr g) = inr (voice_of n.sessions stream g)

quiet_speaks : (stream : ℕ) (n after : NodeState) → Quietly stream n after → KeepsVoice stream n after → Speaks stream n → Speaks stream after
quiet_speaks stream n after q f s past e = by_case (s past (q.opens_none past e)) where
  by_case : (view_on n stream ≡ None) ⊎ Voice n.sessions stream → (view_on after stream ≡ None) ⊎ Voice after.sessions stream
  by_case (inl none) = inl (quiet_none stream n after q none)
  by_case (inr v) = inr (f past e v)

responded_speaks : (stream : ℕ) (n after : NodeState) → IsBorn stream n → Responded stream n after → KeepsVoice stream n after → Speaks stream n → Speaks stream after
responded_speaks stream n after b r f s past e = by_case (s past was) where
  was : past_of n.streams stream ≡ Some past
  was = (r.opens past e).0

  by_case : (view_on n stream ≡ None) ⊎ Voice n.sessions stream → (view_on after stream ≡ None) ⊎ Voice after.sessions stream
  by_case (inl none) = inl (r.part.view ∙ none_after (view_on n stream) r.moves none r.part.may r.heard (r.new (b.given past was)))
  by_case (inr v) = inr (f past e v)

-- ---- calls

request_speaks : (stream : ℕ) (n : NodeState) (asa : ℕ) (kind : Kind) (timeout : ℕ) (o : Objective) (peer : Locator) → IsBoundedNode n → is_full n.sessions ≡ false → Speaks stream n → Speaks stream (requested n asa kind timeout o peer)
request_speaks stream n asa kind timeout o peer k room s = by_case (eqb_tells (next_stream n.streams) stream) where
  st : Starts n.sessions
  st = starts n.sessions (calls_in_order n.sessions k.sessions) room

  by_case : Same (next_stream n.streams) stream → Speaks stream (requested n asa kind timeout o peer)
  by_case (inl i) = λ past e. inr (subst (Voice (requested n asa kind timeout o peer).sessions) i.1 (request_voice n asa kind timeout o peer st))
  by_case (inr i) = quiet_speaks stream n (requested n asa kind timeout o peer) (others stream n asa kind timeout o peer st i.1) (request_keeps stream n asa kind timeout o peer k st) s

listens_keep : (stream : ℕ) (n : NodeState) (asa : ℕ) (name : List ℕ) → IsBoundedNode n → KeepsVoice stream n (with_adopted (with_mark n asa name true) asa (untaken_reply n.sessions name))
unfolding with_registrations
listens_keep stream n asa name k = adopted_keeps stream (with_mark n asa name true) asa (untaken_reply n.sessions name) k.sessions

registered : (stream : ℕ) (n after : NodeState) → Quietly stream n after → after.sessions ≡ n.sessions → Speaks stream n → Speaks stream after
registered stream n after q e s = quiet_speaks stream n after q (λ past f v. subst (λ z. Voice z stream) (sym e) v) s

calls_speak : (stream : ℕ) (n : NodeState) (asa : ℕ) (call : Call) (a : ApiAnswer) → IsBoundedNode n → MayCall n asa call (Ok a) → Speaks stream n → Speaks stream (after_call n asa call (Ok a))
unfolding with_registrations with_floods with_draw queue_up
calls_speak stream n asa (calls.RegisterAsa name) a k m s = registered stream n _ (registers stream n (after_register_asa n.registrations name (register_asa_answer n.registrations name))) refl s
calls_speak stream n asa calls.DeregisterAsa a k m s =
    quiet_speaks stream n _ (calling.deregisters_asa stream n asa k) (deregister_asa_keeps stream n asa (declines_for n.sessions (names_of n.registrations asa)) refl k) s
calls_speak stream n asa (calls.RegisterObjective name flags) a k m s =
    registered stream n _ (registers stream n (after_register_objective n.registrations asa name flags (register_objective_answer n.registrations asa name flags))) refl s
calls_speak stream n asa (calls.DeregisterObjective name) a k m s = quiet_speaks stream n _ (calling.deregisters_objective stream n asa name k) (deregister_objective_keeps stream n asa name k) s
calls_speak stream n asa (calls.Discover name kind loops timeout) a k m s =
    quiet_speaks stream n _ (calling.looks stream n asa name kind loops timeout (find_of n asa name kind)) (looks_keep stream n asa name kind loops timeout (find_of n asa name kind)) s
calls_speak stream n asa (calls.RequestNegotiate name value loops timeout dry peer) a k m s =
    request_speaks stream n asa Negotiation timeout (negotiated n asa name value loops dry) peer k (none_of (request_tests n asa name dry peer) m.0).sessions s
calls_speak stream n asa (calls.ListenNegotiate name) a k m s = quiet_speaks stream n _ (calling.listens stream n asa name k) (listens_keep stream n asa name k) s
calls_speak stream n asa (calls.StopListenNegotiate name) a k m s = quiet_speaks stream n _ (calling.stops stream n asa name k) (stop_keeps stream n asa name k) s
calls_speak stream n asa (calls.NegotiateStep h value) a k m s =
    quiet_speaks stream n _ (calling.says stream n asa h (SayStep value) k m.0) (said_keeps stream n asa h (SayStep value) tt (act_checked n asa h act.Step m.0)) s
calls_speak stream n asa (calls.NegotiateWait h millis) a k m s =
    quiet_speaks stream n _ (calling.says stream n asa h (SayWait millis) k m.0) (said_keeps stream n asa h (SayWait millis) tt (act_checked n asa h act.Wait m.0)) s
calls_speak stream n asa (calls.EndNegotiate h verdict) a k m s =
    quiet_speaks stream n _ (calling.says_last stream n asa h (SayEnd verdict) k m.0) (last_keeps stream n asa h (SayEnd verdict) (act_checked n asa h act.End m.0)) s
calls_speak stream n asa (calls.SendInvalid h detail) a k m s =
    quiet_speaks stream n _ (calling.says_last stream n asa h (SayInvalid detail) k m.0) (last_keeps stream n asa h (SayInvalid detail) (act_checked n asa h act.Invalid m.0)) s
calls_speak stream n asa (calls.Poll h) a k m s = quiet_speaks stream n _ (calling.polling stream n h a k) (polling_keeps stream n asa h a k m.2) s
calls_speak stream n asa (calls.Synchronize name loops timeout peer) a k m s =
    request_speaks stream n asa Synchronization timeout (synchronized n asa name loops) peer k (none_of (synchronize_tests n asa name peer) m.0).sessions s
calls_speak stream n asa (calls.ListenSynchronize name value) a k m s = registered stream n _ (registers stream n (after_offer n.registrations name (Some value) (offer_answer n.registrations asa name))) refl s
calls_speak stream n asa (calls.StopListenSynchronize name) a k m s = registered stream n _ (registers stream n (after_offer n.registrations name None (offer_answer n.registrations asa name))) refl s
calls_speak stream n asa (calls.Flood name value ttl loops) a k m s =
    registered stream n _ (and_then stream n (with_draw n) (to_all (with_draw n) (flood_message n asa name value ttl loops)) (draws stream n) (calling.to_alls stream (with_draw n) (flood_message n asa name value ttl loops))) refl s
calls_speak stream n asa (calls.GetFlood name) a k m s = s
calls_speak stream n asa (calls.ExpireFlood name initiator) a k m s = registered stream n _ (floods stream n (after_drop n.floods (key_of name initiator))) refl s

call_speaks : (stream : ℕ) (n after : NodeState) (asa : ℕ) (call : Call) (r : Reply) → IsBoundedNode n → Calls n asa call r after → Speaks stream n → Speaks stream after
call_speaks stream n after asa call (reply.Api answer) k c s = subst (Speaks stream) (sym c.1) (calls_speak stream n asa call answer k c.0 s)
call_speaks stream n after asa call (reply.Refused refused) k c s = subst (Speaks stream) (sym c.1) s
call_speaks stream n after asa call _ k c s = absurd c

-- ---- openings

record_speaks : (stream : ℕ) (n : NodeState) (on : ℕ) (from : Address) → (on ≡ stream → view_on n stream ≡ None) → Speaks stream n → Speaks stream (open_record n on from)
unfolding open_record
record_speaks stream n on from f s past e = by_case (more_opens n.streams (record { number = on; from = Some from; past = Some no_past }) stream past e) where
  by_case : IsOpened (past_of n.streams stream) (record { number = on; from = Some from; past = Some no_past }) stream past → (view_on n stream ≡ None) ⊎ Voice n.sessions stream
  by_case (inl g) = s past g
  by_case (inr g) = inl (f g.1)

opening_speaks : (stream : ℕ) (n : NodeState) (on : ℕ) (from : Address) (r : Reply) → (on ≡ stream → view_on n stream ≡ None) → Speaks stream n → Speaks stream (after_opened n on from r)
opening_speaks stream n on from reply.Taken f s = by_test (is_ignored n on) where
  by_test : (b : Bool) → Speaks stream (cond b n (open_record n on from))
  by_test true = s
  by_test false = record_speaks stream n on from f s
opening_speaks stream n on from _ f s = s

-- ---- pieces and closings

left_speaks : (stream : ℕ) (bad : Bool) (past : Past) (n : NodeState) (y : Heard) (ms : List Message) → FedHeard stream bad n y ms → Speaks stream (left_as stream past y)
unfolding keep_past
left_speaks stream bad past n y ms f = by_test y.is_open refl where
  by_test : (b : Bool) → y.is_open ≡ b → Speaks stream (cond b (keep_past y.node stream past) y.node)
  by_test true e = λ p g. by_case (f.ready.voice e) where
    by_case : (view_on y.node stream ≡ None) ⊎ (goes_on (state_reply y.node.sessions stream) ≡ true) → (view_on y.node stream ≡ None) ⊎ Voice y.node.sessions stream
    by_case (inl none) = inl none
    by_case (inr goes) = inr (voice_of y.node.sessions stream goes)
  by_test false e = λ p g. absurd (none_some (past_of y.node.streams stream) p (shut_past y.node.streams stream f.ready.shut) g)

piece_speaks : (stream : ℕ) (bytes : List ℕ) (x : Coming) (n : NodeState) (o : Option Past) → past_of n.streams stream ≡ o → IsBoundedNode n → IsBorn stream n → HasVoice stream n → Speaks stream (bytes_on n stream bytes x.added o)
piece_speaks stream bytes x n None e k b v = speaks_of stream n v
piece_speaks stream bytes x n (Some past) e k b v = by_test (nat_le (length past.fed + length bytes) most_bytes) where
  by_test : (c : Bool) → Speaks stream (cond c (left_as stream (past_after past bytes x.added) (heard (begin_closing n stream) stream x.added)) (broken n stream))
  by_test true = left_speaks stream _ (past_after past bytes x.added) n (heard (begin_closing n stream) stream x.added) x.added.messages (hears_piece stream n x.added (is_ready stream n past k b v e))
  by_test false = λ p g. absurd (none_some (past_of (broken n stream).streams stream) p (cut_past n stream Closes k) g)

pieces_speak : (stream on : ℕ) (bytes : List ℕ) (x : Coming) (n : NodeState) → IsBoundedNode n → IsBorn stream n → HasVoice stream n → (on ≢ stream → KeepsVoice stream n (after_bytes n on bytes x.added)) → Speaks stream (after_bytes n on bytes x.added)
unfolding after_bytes
pieces_speak stream on bytes x n k b v f = by_case (eqb_tells on stream) where
  by_case : Same on stream → Speaks stream (bytes_on n on bytes x.added (past_of n.streams on))
  by_case (inl i) = subst (λ (q : ℕ). Speaks stream (bytes_on n q bytes x.added (past_of n.streams q))) (sym i.1) (piece_speaks stream bytes x n (past_of n.streams stream) refl k b v)
  by_case (inr i) = responded_speaks stream n (bytes_on n on bytes x.added (past_of n.streams on)) b (piece_elsewhere on stream bytes x.added n (past_of n.streams on) i.1 b) (f i.1) (speaks_of stream n v)

starving_speaks : (stream on : ℕ) (bytes : List ℕ) (x : Coming) (n after : NodeState) → IsBoundedNode n → IsBorn stream n → HasVoice stream n → StarvesAt n on bytes x.added after → (on ≢ stream → KeepsVoice stream n after) → Speaks stream after
starving_speaks stream on bytes x n after k b v st f = by_case (eqb_tells on stream) where
  by_case : Same on stream → Speaks stream after
  by_case (inl i) = λ past e.
      absurd (none_some (past_of after.streams stream) past (starving_past stream bytes x n after k b v (subst (λ (q : ℕ). StarvesAt n q bytes x.added after) i.1 st)) e)
  by_case (inr i) = responded_speaks stream n after b (starving_elsewhere on stream bytes x n after i.1 b st) (f i.1) (speaks_of stream n v)

closing_speaks : (stream on : ℕ) (n : NodeState) → IsBoundedNode n → (on ≢ stream → KeepsVoice stream n (after_closed n on)) → Speaks stream n → Speaks stream (after_closed n on)
unfolding after_closed
closing_speaks stream on n k f s = by_case (eqb_tells on stream) where
  by_test : (b : Bool) → Speaks stream (cond b (broken n stream) n)
  by_test true = λ past e. absurd (none_some (past_of (broken n stream).streams stream) past (cut_past n stream Closes k) e)
  by_test false = s

  by_case : Same on stream → Speaks stream (cond (has_record n.streams on) (broken n on) n)
  by_case (inl i) = subst (λ (q : ℕ). Speaks stream (cond (has_record n.streams q) (broken n q) n)) (sym i.1) (by_test (has_record n.streams stream))
  by_case (inr i) = quiet_speaks stream n (after_closed n on) (delivering.closes stream n on k) (f i.1) s

-- ---- a step

elsewhere_keeps : (on stream : ℕ) (n after : NodeState) → OthersStay on n.sessions after.sessions → on ≢ stream → KeepsVoice stream n after
elsewhere_keeps on stream n after stay d past e v = voice_stays on stream n.sessions after.sessions stay d v

drain_speaks : (stream : ℕ) (n : NodeState) (max : ℕ) → IsBoundedNode n → Speaks stream n → Speaks stream (after_drain n max)
unfolding after_drain
drain_speaks stream n max k s past e = s past (fold_opens_none n.streams (closes n max) stream past k.apart e)

step_speaks : (n after : NodeState) (now : ℕ) (i : Input) (x : Coming) (r : Reply) (stream : ℕ) → IsBoundedNode n → IsBorn stream (begin n now) → HasVoice stream (begin n now) → (OpensIt i stream → view_on (begin n now) stream ≡ None)
    → NodeStep n now i x r after → Speaks stream after
step_speaks n after now (input.Api asa call) x r stream k b v o s = call_speaks stream (begin n now) after asa call r (begin_kept n now k) s.acts (speaks_of stream (begin n now) v)
step_speaks n after now (input.Datagram link from bytes) x r stream k b v o s = by_reply r s.acts (datagrams_leave n after now link from bytes x r s).sessions where
  by_reply : (q : Reply) → Acts (begin n now) (input.Datagram link from bytes) x q after → after.sessions ≡ (begin n now).sessions → Speaks stream after
  by_reply reply.Taken a e =
      responded_speaks stream (begin n now) after b (subst (Responded stream (begin n now)) (sym a) (datagrams stream (begin n now) link from x.carried b))
      (λ past f w. subst (λ z. Voice z stream) (sym e) w) (speaks_of stream (begin n now) v)
  by_reply reply.OutOfMemory a e = subst (Speaks stream) (sym a) (speaks_of stream (begin n now) v)
  by_reply q a e = absurd a
step_speaks n after now (input.Opened on from) x r stream k b v o s = subst (Speaks stream) (sym s.acts.1) (opening_speaks stream (begin n now) on from r o (speaks_of stream (begin n now) v))
step_speaks n after now (input.Bytes on bytes) x r stream k b v o s = by_reply r s.acts ((peers_leave n after now on x r).1 bytes s).sessions where
  m : NodeState
  m = begin n now

  by_reply : (q : Reply) → Acts m (input.Bytes on bytes) x q after → OthersStay on m.sessions after.sessions → Speaks stream after
  by_reply reply.Taken a e =
      subst (Speaks stream) (sym a)
      (pieces_speak stream on bytes x m (begin_kept n now k) b v (λ d. elsewhere_keeps on stream m (after_bytes m on bytes x.added) (subst (λ (w : NodeState). OthersStay on m.sessions w.sessions) a e) d))
  by_reply reply.OutOfMemory a e = starving_speaks stream on bytes x m after (begin_kept n now k) b v a (λ d. elsewhere_keeps on stream m after e d)
  by_reply q a e = absurd a
step_speaks n after now (input.Closed on) x r stream k b v o s =
    let m : NodeState = begin n now in
    let stay = ((peers_leave n after now on x r).2 s).sessions in
    subst (Speaks stream) (sym s.acts.1)
    (closing_speaks stream on m (begin_kept n now k) (λ d. elsewhere_keeps on stream m (after_closed m on) (subst (λ (w : NodeState). OthersStay on m.sessions w.sessions) s.acts.1 stay) d) (speaks_of stream m v))
step_speaks n after now (input.Drain max) x r stream k b v o s = by_reply r s.acts where
  by_reply : (q : Reply) → Acts (begin n now) (input.Drain max) x q after → Speaks stream after
  by_reply (reply.Outputs outputs) a = subst (Speaks stream) (sym a.1) (drain_speaks stream (begin n now) max (begin_kept n now k) (speaks_of stream (begin n now) v))
  by_reply reply.OutOfMemory a = subst (Speaks stream) (sym a.1) (speaks_of stream (begin n now) v)
  by_reply q a = absurd a

-- ---- a stream that is still to be dialled

acted_born : (stream : ℕ) (i : Input) (x : Coming) (n after : NodeState) → IsBorn stream n → Acted stream i x n after → IsGiven after.streams.dialled stream ⊎ (view_on after stream ≡ None)
acted_born stream i x n after b a = by_born b.born where
  up : IsGiven n.streams.dialled stream → IsGiven after.streams.dialled stream
  up g = given_up stream n.streams.dialled after.streams.dialled a.part.no_fewer g

  by_past : view_on n stream ≡ None → some_move is_dial a.moves ≡ false → (o : Option Past) → past_of n.streams stream ≡ o → IsGiven after.streams.dialled stream ⊎ (view_on after stream ≡ None)
  by_past none d (Some past) e = inl (up (b.given past e))
  by_past none d None e =
      let heard : [] ≡ heard_in a.moves ++ a.unheard = sym (ap (λ o. came_on o i x stream) e) ∙ a.heard in
      inr (a.part.view ∙ none_after (view_on n stream) a.moves none a.part.may (append_none (heard_in a.moves) a.unheard heard) d)

  by_dial : view_on n stream ≡ None → (c : Bool) → some_move is_dial a.moves ≡ c → IsGiven after.streams.dialled stream ⊎ (view_on after stream ≡ None)
  by_dial none true d = inl (a.given d)
  by_dial none false d = by_past none d (past_of n.streams stream) refl

  by_born : IsGiven n.streams.dialled stream ⊎ (view_on n stream ≡ None) → IsGiven after.streams.dialled stream ⊎ (view_on after stream ≡ None)
  by_born (inl g) = inl (up g)
  by_born (inr none) = by_dial none (some_move is_dial a.moves) refl

drained_born : (stream : ℕ) (n : NodeState) (max : ℕ) → IsBorn stream n → IsGiven (after_drain n max).streams.dialled stream ⊎ (view_on (after_drain n max) stream ≡ None)
unfolding after_drain
drained_born stream n max b = by_born b.born where
  by_born : IsGiven n.streams.dialled stream ⊎ (view_on n stream ≡ None) → IsGiven (after_drain n max).streams.dialled stream ⊎ (view_on n stream ≡ None)
  by_born (inl g) = inl (subst (λ d. IsGiven d stream) (sym (same_dialled n.streams (closes n max))) g)
  by_born (inr none) = inr none

step_born : (n after : NodeState) (now : ℕ) (i : Input) (x : Coming) (r : Reply) (stream : ℕ) → IsBoundedNode n → IsBorn stream (begin n now) → HasVoice stream (begin n now) → Acts (begin n now) i x r after
    → IsGiven after.streams.dialled stream ⊎ (view_on after stream ≡ None)
step_born n after now (input.Drain max) x r stream k b v a = by_reply r a where
  by_reply : (q : Reply) → Acts (begin n now) (input.Drain max) x q after → IsGiven after.streams.dialled stream ⊎ (view_on after stream ≡ None)
  by_reply (reply.Outputs outputs) c = subst (λ (w : NodeState). IsGiven w.streams.dialled stream ⊎ (view_on w stream ≡ None)) (sym c.1) (drained_born stream (begin n now) max b)
  by_reply reply.OutOfMemory c = subst (λ (w : NodeState). IsGiven w.streams.dialled stream ⊎ (view_on w stream ≡ None)) (sym c.1) b.born
  by_reply q c = absurd c
step_born n after now (input.Api asa call) x r stream k b v a = acted_born stream (input.Api asa call) x (begin n now) after b (acts stream (begin n now) after (input.Api asa call) x r tt (begin_kept n now k) b v a)
step_born n after now (input.Datagram link from bytes) x r stream k b v a =
    acted_born stream (input.Datagram link from bytes) x (begin n now) after b (acts stream (begin n now) after (input.Datagram link from bytes) x r tt (begin_kept n now k) b v a)
step_born n after now (input.Opened on from) x r stream k b v a = acted_born stream (input.Opened on from) x (begin n now) after b (acts stream (begin n now) after (input.Opened on from) x r tt (begin_kept n now k) b v a)
step_born n after now (input.Bytes on bytes) x r stream k b v a = acted_born stream (input.Bytes on bytes) x (begin n now) after b (acts stream (begin n now) after (input.Bytes on bytes) x r tt (begin_kept n now k) b v a)
step_born n after now (input.Closed on) x r stream k b v a = acted_born stream (input.Closed on) x (begin n now) after b (acts stream (begin n now) after (input.Closed on) x r tt (begin_kept n now k) b v a)

-- ---- both

clear_of : (stream : ℕ) (n : NodeState) → IsBoundedNode n → Speaks stream n → IsGiven n.streams.dialled stream ⊎ (view_on n stream ≡ None) → IsClear n stream
clear_of stream n k s b = record { opens = λ past e. by_case (s past e); unborn = b } where
  by_case : (view_on n stream ≡ None) ⊎ Voice n.sessions stream → (view_on n stream ≡ None) ⊎ (goes_on (state_reply n.sessions stream) ≡ true)
  by_case (inl none) = inl none
  by_case (inr v) = inr (live_goes n.sessions stream v.place v.state (calls_in_order n.sessions k.sessions) v.at v.lies v.going)

step_clears : (n after : NodeState) (now : ℕ) (i : Input) (x : Coming) (r : Reply) (stream : ℕ) → IsBoundedNode n → IsClear n stream → (OpensIt i stream → view_on n stream ≡ None) → NodeStep n now i x r after → IsClear after stream
step_clears n after now i x r stream k c o s =
    let q = begins stream n now k in
    let b = born_quietly stream n (begin n now) q (born stream n k c) in
    let v = voices_begin stream n now k c.opens in
    clear_of stream after (nodes_kept.1 n after now i x r k s) (step_speaks n after now i x r stream k b v (λ f. quiet_none stream n (begin n now) q (o f)) s) (step_born n after now i x r stream k b v s.acts)

pub clear_kept : ClearStreamsAreKept
clear_kept = (λ plan stream. record { opens = λ past e. absurd (cc); unborn = inr refl }, λ n after now i x r stream k c o s. step_clears n after now i x r stream k c o s)
