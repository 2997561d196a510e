-- Each call is a list of moves.
use Rattle.std.proofs.Common.{◌≡◌, ℕ, zero, suc, ◌+◌, ◌<◌, Bool, true, false, cond, not, List, [], ◌∷◌, Option, Some, None, is_ok, Ok, refl, sym, ◌∙◌, arith}
use Rattle.std.proofs.lemmas.Bool.{and_parts}
use Rattle.grasp_asa.specs.Answers.{names_of}
use Rattle.grasp_asa.specs.Registrations.{IsRegistry, Registrations}
use Rattle.grasp_laws_tables.proofs.LawKept.{registry_kept}
use Rattle.grasp_discovery.specs.declared.answers.Find.{Find}
use Rattle.grasp_discovery.specs.declared.answers.Find.TheVariants as find
use Rattle.grasp_flood.specs.Flood.{key_of}
use Rattle.grasp_session.specs.Sessions.{owner_of, session_at, check_reply, stream_reply, after_remove, poll_reply, untaken_reply, owner_reply}
use Rattle.grasp_session.specs.Transcript.{Saying, SayStep, SayWait, SayEnd, SayInvalid, act_of}
use Rattle.grasp_session.specs.declared.answer.Act.TheVariants as act
use Rattle.grasp_types.specs.declared.address.Locator.{Locator}
use Rattle.grasp_types.specs.declared.call.Call.{Call}
use Rattle.grasp_types.specs.declared.call.Call.TheVariants as call
use Rattle.grasp_types.specs.declared.objective.Objective.{Objective}
use Rattle.grasp_types.specs.declared.refusal.ApiRefused.{ApiRefused}
use Rattle.grasp_types.specs.declared.refusal.ApiRefused.TheVariants as api
use Rattle.grasp_types.specs.declared.reply.ApiAnswer.{ApiAnswer}
use Rattle.grasp_types.specs.declared.reply.ApiAnswer.TheVariants as answers
use Rattle.grasp_types.specs.declared.session.Handle.{Handle}
use Rattle.grasp_types.specs.declared.session.Kind.{Kind}
use Rattle.grasp_types.specs.declared.session.Kind.TheVariants.{Negotiation, Synchronization}
use Rattle.grasp_wire.specs.Cutter.{no_past}
use Rattle.grasp_model_node.specs.Declines.{Declining, declines_of, may_decline, declined, removed, after_decline, after_declines}
use Rattle.grasp_model_node.specs.Draws.{next_session}
use Rattle.grasp_model_node.specs.FloodCalls.{count_all, find_of, is_fresh, searching, looked, discovery_message, flood_message}
use Rattle.grasp_model_node.specs.Moves.{with_registrations, with_sessions, with_draw, dial_record, queue_up}
use Rattle.grasp_model_node.specs.Node.{NodeState}
use Rattle.grasp_model_node.specs.Queue.{fits, has_room}
use Rattle.grasp_model_node.specs.Refusals.{late, early}
use Rattle.grasp_model_node.specs.RegistryCalls.{declines_for, without_objective, without_agent, without_searches, close_stream, without_session, without_sessions, with_mark}
use Rattle.grasp_model_node.specs.SessionCalls.{stream_at, act_message, said, said_last, polled, after_polling, with_adopted, requested, request_of as message_of, negotiated, synchronized}
use Rattle.grasp_model_node.specs.Step.{MayCall, after_call}
use Rattle.grasp_model_node.specs.Streams.{is_dialled_out, next_stream}
use Rattle.grasp_model_node.specs.Tests.{no_asa, act_tests, request_tests, synchronize_tests, negotiation_tests, discover_tests, sending}
use Rattle.grasp_laws_node.proofs.Bounded.Calls.{ok_is, polled_is, untaken_owner}
use Rattle.grasp_laws_node.proofs.Bounded.Tests.{NoneOf, none_of, has_its_room, it_fits, act_allowed}
use Rattle.grasp_laws_node.proofs.Walk.Declines.{SpeakOn, DeclineOn, checked_on, declines_of_on, declines_for_on}
use Rattle.grasp_laws_node.proofs.Walk.Moves as move
use Rattle.grasp_laws_node.proofs.Walk.Moves.{Known, Turn, Moves, IsUnlistened, CanSay, anything, calls, spreads, still, further}

-- which turn a call is: a search and a flood may send to all neighbours
abbrev pub turn_of_call : ℕ → Call → Turn
turn_of_call asa (call.Discover name kind loops timeout) = spreads asa
turn_of_call asa (call.Flood name value ttl loops) = spreads asa
turn_of_call asa _ = calls asa

-- what a call says in a session
abbrev pub IsSaidBy : Call → Saying → Type 0
IsSaidBy (call.NegotiateStep h value) saying = saying ≡ SayStep value
IsSaidBy (call.NegotiateWait h millis) saying = saying ≡ SayWait millis
IsSaidBy (call.EndNegotiate h verdict) saying = saying ≡ SayEnd verdict
IsSaidBy (call.SendInvalid h detail) saying = saying ≡ SayInvalid detail
IsSaidBy _ saying = ⊥

-- a request dials one stream
requested_dials : (n : NodeState) (asa : ℕ) (kind : Kind) (timeout : ℕ) (o : Objective) (peer : Locator) → n.streams.dialled < (requested n asa kind timeout o peer).streams.dialled
unfolding queue_up dial_record with_draw with_sessions
requested_dials n asa kind timeout o peer = one_more n.streams.dialled where
  one_more : (d : ℕ) → d < d + 1
  one_more d = omega arith

-- ---- declines, and sessions that go

module _ (k : Known) (base start : NodeState) (asa : ℕ) where
  abbrev To : NodeState → Type 0
  To n = Moves k base (calls asa) start n

  pub decline_moves : (n : NodeState) (d : Declining) → k.stream d.stream × IsUnlistened d.message → To n → To (after_decline n d)
  decline_moves n d so w = further (by_test (may_decline n d.handle) refl) (move.shuts d.stream) where
    by_test : (b : Bool) → may_decline n d.handle ≡ b → To (cond b (declined n d) (removed n d.handle))
    by_test true e =
        let p = and_parts (has_room n.queue 1) (is_ok (check_reply n.sessions 0 d.handle act.End)) e in
        further w (move.declines d so.1 so.0 (ok_is (check_reply n.sessions 0 d.handle act.End) p.1) p.0)
    by_test false e = further w (move.removes d.handle)

  pub declines_moves : (n : NodeState) (ds : List Declining) → DeclineOn k.stream ds → To n → To (after_declines n ds)
  unfolding after_declines
  declines_moves n [] so w = w
  declines_moves n (d ∷ ds) so w = declines_moves (after_decline n d) ds so.1 (decline_moves n d so.0 w)

  close_stream_moves : (n : NodeState) (o : Option ℕ) → To n → To (close_stream n o)
  close_stream_moves n None w = w
  close_stream_moves n (Some stream) w = further w (move.shuts stream)

  without_session_moves : (n : NodeState) (o : Option Handle) → To n → To (without_session n o)
  without_session_moves n None w = w
  without_session_moves n (Some h) w = close_stream_moves (with_sessions n (after_remove n.sessions h)) (stream_reply n.sessions h) (further w (move.removes h))

  pub without_sessions_moves : (count : ℕ) (n : NodeState) → To n → To (without_sessions count n asa)
  unfolding without_sessions
  without_sessions_moves zero n w = w
  without_sessions_moves (suc count) n w =
      without_session_moves (without_sessions count n asa) (owner_reply (without_sessions count n asa).sessions asa) (without_sessions_moves count n w)

-- ---- calls at a node whose step has begun

module _ (k : Known) (n : NodeState) (asa : ℕ) where
  abbrev Makes : NodeState → Type 0
  Makes after = Moves k n (calls asa) n after

  registers : (r : Registrations) → (IsRegistry n.registrations → IsRegistry r) → Makes (with_registrations n r)
  registers r f = further still (move.registers r f)

  mark_moves : (name : List ℕ) (on : Bool) → Makes (with_mark n asa name on)
  mark_moves name on = registers _ (λ i. (registry_kept.kept n.registrations i).listen asa name on)

  agent_moves : SpeakOn k.stream n.sessions → Makes (without_sessions 64 (without_searches (after_declines (without_agent n asa) (declines_for n.sessions (names_of n.registrations asa))) asa) asa)
  agent_moves s =
      without_sessions_moves k n n asa 64 _
      (further (declines_moves k n n asa (without_agent n asa) (declines_for n.sessions (names_of n.registrations asa)) (declines_for_on k.stream n.sessions s (names_of n.registrations asa))
      (registers _ (λ i. (registry_kept.kept n.registrations i).deregister_asa asa))) move.forgets)

  act_moves : (h : Handle) (saying : Saying) → k.saying saying → SpeakOn k.stream n.sessions → early (act_tests n asa h (act_of saying)) ≡ Ok tt → has_room n.queue 1 ≡ true → CanSay n h saying → Makes (said n h saying)
  act_moves h saying is s e room fit =
      let checked = act_allowed n asa h (act_of saying) (none_of (act_tests n asa h (act_of saying)) e) in
      further still (move.says h saying is (checked_on k.stream n asa h (act_of saying) s checked) checked room fit)

  last_moves : (h : Handle) (saying : Saying) → k.saying saying → SpeakOn k.stream n.sessions → early (act_tests n asa h (act_of saying)) ≡ Ok tt → has_room n.queue 1 ≡ true → CanSay n h saying → Makes (said_last n h saying)
  last_moves h saying is s e room fit = further (act_moves h saying is s e room fit) (move.shuts (stream_at n h))

  polling_moves : (h : Handle) (a : ApiAnswer) → a ≡ polled (poll_reply n.sessions asa h) → Makes (after_polling n h (Ok a))
  polling_moves h (answers.Polled p) e = further still (move.polls h p (polled_is (poll_reply n.sessions asa h) p e))
  polling_moves h a e = still

  adopted_moves : (m : NodeState) (o : Option Handle) → no_asa n asa ≡ false → ((h : Handle) → o ≡ Some h → owner_of (session_at m.sessions h) ≡ Some 0) → Makes m → Makes (with_adopted m asa o)
  adopted_moves m None e f w = w
  adopted_moves m (Some h) e f w = further w (move.adopts h e (f h refl))

  listening_moves : (name : List ℕ) → no_asa n asa ≡ false → Makes (with_adopted (with_mark n asa name true) asa (untaken_reply n.sessions name))
  unfolding with_registrations
  listening_moves name e = adopted_moves (with_mark n asa name true) (untaken_reply n.sessions name) e (λ h f. untaken_owner n.sessions name h f) (mark_moves name true)

  asking_moves : (tests : ApiRefused → Bool) (kind : Kind) (timeout : ℕ) (o : Objective) (peer : Locator) → NoneOf tests → tests api.NoAsa ≡ no_asa n asa → tests api.StreamsFull ≡ is_dialled_out n.streams
      → late (sending n (message_of kind (next_session n) o) 2) ≡ Ok tt → (n.streams.dialled < (requested n asa kind timeout o peer).streams.dialled → k.past (next_stream n.streams) no_past)
      → Makes (requested n asa kind timeout o peer)
  asking_moves tests kind timeout o peer t same_asa same_streams l w =
      further still
      (move.asks kind timeout o peer refl (w (requested_dials n asa kind timeout o peer)) (sym same_asa ∙ t.asa) (sym same_streams ∙ t.streams)
      (has_its_room (sending n (message_of kind (next_session n) o) 2) (has_room n.queue 2) refl l)
      (it_fits (sending n (message_of kind (next_session n) o) 2) (fits n.plan.limit (message_of kind (next_session n) o)) refl l))

  looked_moves : (name : List ℕ) (kind : Kind) (loops timeout : ℕ) (f : Find) → find_of n asa name kind ≡ f → NoneOf (discover_tests n asa (is_fresh f)) → late (searching n f name kind loops) ≡ Ok tt
      → Moves k n (spreads asa) n (looked n asa name kind loops timeout f)
  looked_moves name kind loops timeout find.Fresh e t l =
      further still
      (move.searches name kind loops timeout refl e t.sessions (has_its_room (searching n find.Fresh name kind loops) (has_room n.queue (count_all n)) refl l)
      (it_fits (searching n find.Fresh name kind loops) (fits n.plan.limit (discovery_message n name kind loops)) refl l))
  looked_moves name kind loops timeout f e t l = further still (move.finds name kind f)

  -- what is known of the streams on which something is said, of what is said, and of a stream that is dialled
  pub record Asks (it : Call) (after : NodeState) : Type 0 where
    pub speak : SpeakOn k.stream n.sessions
    pub say : (saying : Saying) → IsSaidBy it saying → k.saying saying
    pub dials : n.streams.dialled < after.streams.dialled → k.past (next_stream n.streams) no_past

  pub answered_moves : (it : Call) (a : ApiAnswer) → Asks it (after_call n asa it (Ok a)) → MayCall n asa it (Ok a) → Moves k n (turn_of_call asa it) n (after_call n asa it (Ok a))
  answered_moves (call.RegisterAsa name) a s m = registers _ (λ i. (registry_kept.kept n.registrations i).register_asa name)
  answered_moves call.DeregisterAsa a s m = agent_moves s.speak
  answered_moves (call.RegisterObjective name flags) a s m = registers _ (λ i. (registry_kept.kept n.registrations i).register_objective asa name flags)
  answered_moves (call.DeregisterObjective name) a s m =
      declines_moves k n n asa (without_objective n asa name) (declines_of n.sessions name) (declines_of_on k.stream n.sessions s.speak name)
      (registers _ (λ i. (registry_kept.kept n.registrations i).deregister_objective asa name))
  answered_moves (call.Discover name kind loops timeout) a s m =
      looked_moves name kind loops timeout (find_of n asa name kind) refl (none_of (discover_tests n asa (is_fresh (find_of n asa name kind))) m.0) m.1
  answered_moves (call.RequestNegotiate name value loops timeout dry peer) a s m =
      asking_moves (request_tests n asa name dry peer) Negotiation timeout (negotiated n asa name value loops dry) peer (none_of (request_tests n asa name dry peer) m.0) refl refl m.1 s.dials
  answered_moves (call.ListenNegotiate name) a s m = listening_moves name (none_of (negotiation_tests n asa name) m.0).asa
  answered_moves (call.StopListenNegotiate name) a s m =
      declines_moves k n n asa (with_mark n asa name false) (declines_of n.sessions name) (declines_of_on k.stream n.sessions s.speak name) (mark_moves name false)
  answered_moves (call.NegotiateStep h value) a s m = act_moves h (SayStep value) (s.say (SayStep value) refl) s.speak m.0 (has_its_room (sending n (act_message n h (SayStep value)) 1) (has_room n.queue 1) refl m.1)
      (it_fits (sending n (act_message n h (SayStep value)) 1) (fits n.plan.limit (act_message n h (SayStep value))) refl m.1)
  answered_moves (call.NegotiateWait h millis) a s m =
      act_moves h (SayWait millis) (s.say (SayWait millis) refl) s.speak m.0 (has_its_room (record { too_long = false; outbox_full = not (has_room n.queue 1) }) (has_room n.queue 1) refl m.1) tt
  answered_moves (call.EndNegotiate h verdict) a s m = last_moves h (SayEnd verdict) (s.say (SayEnd verdict) refl) s.speak m.0 (has_its_room (sending n (act_message n h (SayEnd verdict)) 1) (has_room n.queue 1) refl m.1)
      (it_fits (sending n (act_message n h (SayEnd verdict)) 1) (fits n.plan.limit (act_message n h (SayEnd verdict))) refl m.1)
  answered_moves (call.SendInvalid h detail) a s m = last_moves h (SayInvalid detail) (s.say (SayInvalid detail) refl) s.speak m.0 (has_its_room (sending n (act_message n h (SayInvalid detail)) 1) (has_room n.queue 1) refl m.1)
      (it_fits (sending n (act_message n h (SayInvalid detail)) 1) (fits n.plan.limit (act_message n h (SayInvalid detail))) refl m.1)
  answered_moves (call.Poll h) a s m = polling_moves h a m.2
  answered_moves (call.Synchronize name loops timeout peer) a s m =
      asking_moves (synchronize_tests n asa name peer) Synchronization timeout (synchronized n asa name loops) peer (none_of (synchronize_tests n asa name peer) m.0) refl refl m.1 s.dials
  answered_moves (call.ListenSynchronize name value) a s m = registers _ (λ i. (registry_kept.kept n.registrations i).offer asa name (Some value))
  answered_moves (call.StopListenSynchronize name) a s m = registers _ (λ i. (registry_kept.kept n.registrations i).offer asa name None)
  answered_moves (call.Flood name value ttl loops) a s m =
      further still (move.tells_all (flood_message n asa name value ttl loops) (has_its_room (sending n (flood_message n asa name value ttl loops) (count_all n)) (has_room n.queue (count_all n)) refl m.1)
      (it_fits (sending n (flood_message n asa name value ttl loops) (count_all n)) (fits n.plan.limit (flood_message n asa name value ttl loops)) refl m.1))
  answered_moves (call.GetFlood name) a s m = still
  answered_moves (call.ExpireFlood name initiator) a s m = further still (move.drops (key_of name initiator))

-- where nothing is to be known
pub asks_anything : (n : NodeState) (asa : ℕ) (it : Call) (after : NodeState) → Asks anything n asa it after
asks_anything n asa it after = record { speak = record { going = λ place x at goes. tt; untaken = λ place x at own. tt }; say = λ saying is. tt; dials = λ more. tt }
